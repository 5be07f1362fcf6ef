use Rattle.std.proofs.Common.{◌≡◌, ◌+◌, ◌-◌, ◌*◌, ◌≢◌, map, drop, length}
use Rattle.syntax_judge.proofs.stack.+take.Given as goal
use Rattle.syntax_judge.specs.Tables.{advance_by, first_way, table_at}

abbrev pub decreases-take : goal.decreases-take
decreases-take l = 2 * l.depth

abbrev pub decreases-take_way : goal.decreases-take_way
decreases-take_way l = 2 * l.depth + 1

-- the ways that are left decide
abbrev pub invariant-take-loop-way : goal.invariant-take-loop-way
invariant-take-loop-way l = record {
  deep : l.depth ≢ 0;
  kept : l.stack.items ≡ l.fn.stack.items;
  left : first_way (table_at (l.depth - 1)) (map (λ way. way.now) (drop l.way-index l.way-items)) l.kind ≡ table_at l.depth l.fn.symbol l.kind;
}

-- the symbols that are left decide
abbrev pub invariant-take_way-loop-i : goal.invariant-take_way-loop-i
invariant-take_way-loop-i l = record {
  below : l.below ≡ length l.fn.stack.items;
  kept : l.stack.items ≡ l.fn.stack.items;
  left : advance_by (table_at l.depth) (drop l.i l.way) l.kind ≡ advance_by (table_at l.depth) l.way l.kind;
}
