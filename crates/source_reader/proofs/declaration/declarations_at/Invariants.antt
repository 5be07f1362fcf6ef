use Rattle.std.proofs.Common.{◌≡◌, ◌-◌, [], length}
use Rattle.source_tokens.specs.Scans.{tokens_of}
use Rattle.source_reader.specs.Sources.{declared_by}
use Rattle.source_reader.proofs.declaration.declarations_at.Given as goal

abbrev pub invariant-loop-turn : goal.invariant-loop-turn
invariant-loop-turn l = declared_by (l._turn-end - l._turn) l.declarations (tokens_of l.rest) ≡ declared_by (length (tokens_of l.fn.tokens)) [] (tokens_of l.fn.tokens)
