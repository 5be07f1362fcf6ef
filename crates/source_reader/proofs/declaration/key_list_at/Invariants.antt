use Rattle.std.proofs.Common.{◌≡◌, ◌-◌, [], length}
use Rattle.source_tokens.specs.Scans.{tokens_of}
use Rattle.source_reader.specs.Sources.{key_list_by}
use Rattle.source_reader.proofs.declaration.key_list_at.Given as goal

abbrev pub invariant-loop-turn : goal.invariant-loop-turn
invariant-loop-turn l = key_list_by (l._turn-end - l._turn) l.keys (tokens_of l.rest) ≡ key_list_by (length (tokens_of l.fn.tokens)) [] (tokens_of l.fn.tokens)
