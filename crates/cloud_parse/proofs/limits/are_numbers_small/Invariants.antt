use Rattle.cloud_parse.proofs.Counted.{NumbersOn}
use Rattle.cloud_parse.proofs.limits.are_numbers_small.Given as goal

-- the tokens that are left tell of all
abbrev pub invariant-loop-placed : goal.invariant-loop-placed
invariant-loop-placed l = NumbersOn l.tokens l.placed-index
