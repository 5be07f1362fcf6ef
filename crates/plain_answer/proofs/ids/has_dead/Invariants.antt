use Rattle.std.proofs.Common.{◌≡◌, drop}
use Rattle.cloud_base.specs.Dead.{has_dead}
use Rattle.plain_answer.proofs.ids.has_dead.Given as goal

abbrev pub invariant-loop-key : goal.invariant-loop-key
invariant-loop-key l = has_dead l.log (drop l.key-index l.key-items) ≡ has_dead l.log l.keys
