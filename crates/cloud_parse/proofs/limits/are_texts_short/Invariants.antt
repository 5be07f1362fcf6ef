use Rattle.cloud_parse.proofs.Counted.{TextsOn}
use Rattle.cloud_parse.proofs.limits.are_texts_short.Given as goal

-- the tokens that are left tell of all
abbrev pub invariant-loop-placed : goal.invariant-loop-placed
invariant-loop-placed l = TextsOn l.tokens l.placed-index
