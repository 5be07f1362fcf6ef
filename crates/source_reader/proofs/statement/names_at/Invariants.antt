use Rattle.std.proofs.Common.{◌≡◌, ◌-◌, [], length}
use Rattle.source_tokens.specs.Scans.{tokens_of}
use Rattle.source_reader.specs.Bodies.{names_by}
use Rattle.source_reader.proofs.statement.names_at.Given as goal

abbrev pub invariant-loop-turn : goal.invariant-loop-turn
invariant-loop-turn l = names_by (l._turn-end - l._turn) l.names (tokens_of l.rest) ≡ names_by (length (tokens_of l.fn.tokens)) [] (tokens_of l.fn.tokens)
