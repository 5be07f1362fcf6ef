use Rattle.std.proofs.Common.{◌≡◌, ◌+◌, ◌-◌, ◌*◌, [], length}
use Rattle.source_tokens.specs.Scans.{tokens_of}
use Rattle.source_tree.specs.declared.expression.Level.TheVariants as level
use Rattle.source_reader.specs.Reading.{keys_by, turns, chain_by, level_by, level_at, rank}
use Rattle.source_reader.proofs.expression.+expression.Given as goal

abbrev pub decreases-level_at : goal.decreases-level_at
decreases-level_at l = l.depth * 32

abbrev pub decreases-keys_at : goal.decreases-keys_at
decreases-keys_at l = l.depth * 32 + 1

abbrev pub decreases-entry_at : goal.decreases-entry_at
decreases-entry_at l = l.depth * 32 + 2

abbrev pub decreases-place_at : goal.decreases-place_at
decreases-place_at l = l.depth * 32 + 3

abbrev pub decreases-bracketed_at : goal.decreases-bracketed_at
decreases-bracketed_at l = l.depth * 32 + 1

abbrev pub decreases-minus_at : goal.decreases-minus_at
decreases-minus_at l = l.depth * 32 + 1

abbrev pub decreases-not_at : goal.decreases-not_at
decreases-not_at l = l.depth * 32 + 1

abbrev pub decreases-factor_at : goal.decreases-factor_at
decreases-factor_at l = l.depth * 32 + 4

abbrev pub decreases-negation_at : goal.decreases-negation_at
decreases-negation_at l = l.depth * 32 + 12

abbrev pub decreases-chain_at : goal.decreases-chain_at
decreases-chain_at l = l.depth * 32 + (2 * rank l.level + 4)

abbrev pub decreases-level_by : goal.decreases-level_by
decreases-level_by l = l.depth * 32 + (2 * rank l.level + 5)

abbrev pub invariant-keys_at-loop-turn : goal.invariant-keys_at-loop-turn
invariant-keys_at-loop-turn l = keys_by (l._turn-end - l._turn) (level_at l.depth level.Choice) l.high l.keys l.height (tokens_of l.rest)
    ≡ keys_by (length (tokens_of l.fn.tokens)) (level_at l.fn.depth level.Choice) l.fn.high [] 0 (tokens_of l.fn.tokens)

abbrev pub invariant-chain_at-loop-turn : goal.invariant-chain_at-loop-turn
invariant-chain_at-loop-turn l = chain_by (l._turn-end - l._turn) l.level (level_by l.operand (level_at l.depth)) l.high l.left l.height (tokens_of l.rest)
    ≡ chain_by (turns l.fn.level (tokens_of l.fn.tokens)) l.fn.level (level_by l.fn.operand (level_at l.fn.depth)) l.fn.high l.initial.left l.initial.height (tokens_of l.initial.rest)
