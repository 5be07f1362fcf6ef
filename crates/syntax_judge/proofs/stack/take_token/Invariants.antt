use Rattle.std.proofs.Common.{◌≡◌, reverse, length}
use Rattle.syntax_judge.proofs.stack.take_token.Given as goal
use Rattle.syntax_judge.specs.Tables.{advance}

-- what is left of the stack decides
abbrev pub invariant-loop-symbol : goal.invariant-loop-symbol
invariant-loop-symbol l = advance (reverse l.stack.items) l.kind ≡ advance (reverse l.fn.stack.items) l.kind

abbrev pub decreases-loop-symbol : goal.decreases-loop-symbol
decreases-loop-symbol l = length l.stack.items
