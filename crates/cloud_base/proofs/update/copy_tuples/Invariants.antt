use Rattle.std.proofs.Common.{◌≡◌, take}
use Rattle.cloud_base.proofs.update.copy_tuples.Given as goal

abbrev pub invariant-loop-keys : goal.invariant-loop-keys
invariant-loop-keys l = l.copy ≡ take l.keys-index l.keys-items
