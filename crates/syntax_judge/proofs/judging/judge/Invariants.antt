use Rattle.std.proofs.Common.{◌≡◌, Some, reverse, take}
use Rattle.syntax_judge.proofs.Ends.{advance_all}
use Rattle.syntax_judge.proofs.judging.judge.Given as goal
use Rattle.syntax_judge.specs.Programs.{kinds_in, start}

-- what the tokens so far leave of a program
abbrev pub invariant-loop-i : goal.invariant-loop-i
invariant-loop-i l = advance_all start (kinds_in (take l.i l.tokens)) ≡ Some (reverse l.stack.items)
