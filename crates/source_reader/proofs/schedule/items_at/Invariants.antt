use Rattle.std.proofs.Common.{◌≡◌, ◌-◌, [], length}
use Rattle.source_tokens.specs.Scans.{tokens_of}
use Rattle.source_reader.specs.Sources.{items_by}
use Rattle.source_reader.proofs.schedule.items_at.Given as goal

abbrev pub invariant-loop-turn : goal.invariant-loop-turn
invariant-loop-turn l = items_by (l._turn-end - l._turn) l.items (tokens_of l.rest) ≡ items_by (length (tokens_of l.fn.tokens)) [] (tokens_of l.fn.tokens)
