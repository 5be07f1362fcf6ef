use Rattle.std.proofs.Common.{◌≡◌, ◌≤◌, ◌++◌, length, take, reverse}
use Rattle.syntax_judge.proofs.stack.push_all.Given as goal

abbrev pub invariant-loop-i : goal.invariant-loop-i
invariant-loop-i l = record {
  within : l.i ≤ length l.symbols;
  pushed : l.stack.items ++ reverse (take l.i l.symbols) ≡ l.fn.stack.items ++ reverse l.symbols;
}

abbrev pub decreases-loop-i : goal.decreases-loop-i
decreases-loop-i l = l.i
