use Rattle.std.proofs.Common.{◌≡◌, ◌-◌, length}
use Rattle.source_tokens.specs.Scans.{tokens_of}
use Rattle.source_reader.specs.Sources.{body_of, clients_by}
use Rattle.source_reader.proofs.program.clients_at.Given as goal

abbrev pub invariant-loop-turn : goal.invariant-loop-turn
invariant-loop-turn l = clients_by (l._turn-end - l._turn) (body_of l.depth l.high) l.clients (tokens_of l.rest) ≡ clients_by (length (tokens_of l.fn.tokens)) (body_of l.fn.depth l.fn.high) l.fn.clients (tokens_of l.fn.tokens)
