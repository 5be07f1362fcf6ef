use Rattle.std.proofs.Common.{◌≡◌, ◌-◌, [], length}
use Rattle.source_tokens.specs.Scans.{tokens_of}
use Rattle.source_reader.specs.Sources.{properties_by}
use Rattle.source_reader.proofs.declaration.property_list_at.Given as goal

abbrev pub invariant-loop-turn : goal.invariant-loop-turn
invariant-loop-turn l = properties_by (l._turn-end - l._turn) l.properties (tokens_of l.rest) ≡ properties_by (length (tokens_of l.fn.tokens)) [] (tokens_of l.fn.tokens)
