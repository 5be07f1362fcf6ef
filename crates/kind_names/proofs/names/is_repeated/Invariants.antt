use Rattle.std.proofs.Common.{◌≡◌, length}
use Rattle.kind_rules.specs.Names.{is_repeated as repeated}
use Rattle.kind_names.proofs.names.is_repeated.Given as goal

abbrev pub invariant-loop-rest : goal.invariant-loop-rest
invariant-loop-rest l = repeated l.initial.names ≡ repeated l.rest

abbrev pub decreases-loop-rest : goal.decreases-loop-rest
decreases-loop-rest l = length l.rest
