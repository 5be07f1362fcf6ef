use Rattle.std.proofs.Common.{◌≡◌, map, drop}
use Rattle.std.specs.List.{list_any}
use Rattle.syntax_judge.proofs.stack.is_nullable.Given as goal
use Rattle.syntax_judge.specs.Tables.{is_empty, is_nullable}

-- the ways that are left decide
abbrev pub invariant-loop-way : goal.invariant-loop-way
invariant-loop-way l = list_any is_empty (map (λ way. way.now) (drop l.way-index l.way-items)) ≡ is_nullable l.fn.symbol
