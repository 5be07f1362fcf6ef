use Rattle.std.proofs.Common.{◌≡◌, ◌+◌, ◌-◌, ◌*◌, [], length}
use Rattle.source_tokens.specs.Scans.{tokens_of}
use Rattle.source_tree.specs.declared.expression.Level.TheVariants as level
use Rattle.source_reader.specs.Reading.{level_at}
use Rattle.source_reader.specs.Bodies.{statement_by, body_by, block_at}
use Rattle.source_reader.proofs.statement.+body.Given as goal

abbrev pub decreases-block_at : goal.decreases-block_at
decreases-block_at l = l.depth * 8

abbrev pub decreases-else_at : goal.decreases-else_at
decreases-else_at l = l.depth * 8 + 1

abbrev pub decreases-if_at : goal.decreases-if_at
decreases-if_at l = l.depth * 8 + 2

abbrev pub decreases-while_at : goal.decreases-while_at
decreases-while_at l = l.depth * 8 + 1

abbrev pub decreases-for_all_at : goal.decreases-for_all_at
decreases-for_all_at l = l.depth * 8 + 1

abbrev pub decreases-for_entries_at : goal.decreases-for_entries_at
decreases-for_entries_at l = l.depth * 8 + 1

abbrev pub decreases-foreach_at : goal.decreases-foreach_at
decreases-foreach_at l = l.depth * 8 + 2

abbrev pub decreases-statement_at : goal.decreases-statement_at
decreases-statement_at l = l.depth * 8 + 3

abbrev pub decreases-body_at : goal.decreases-body_at
decreases-body_at l = l.depth * 8 + 4

abbrev pub invariant-body_at-loop-turn : goal.invariant-body_at-loop-turn
invariant-body_at-loop-turn l = body_by (l._turn-end - l._turn) (statement_by (level_at l.depth level.Choice) (block_at l.depth)) l.high l.body l.height (tokens_of l.rest)
    ≡ body_by (length (tokens_of l.fn.tokens)) (statement_by (level_at l.fn.depth level.Choice) (block_at l.fn.depth)) l.fn.high [] 0 (tokens_of l.fn.tokens)
