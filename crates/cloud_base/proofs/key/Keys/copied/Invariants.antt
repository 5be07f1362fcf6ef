use Rattle.std.proofs.Common.{◌≡◌, take}
use Rattle.cloud_base.proofs.key.Keys.copied.Given as goal

abbrev pub invariant-loop-key : goal.invariant-loop-key
invariant-loop-key l = l.keys.items ≡ take l.key-index l.key-items
