-- The record of a played run of a program.
use Rattle.std.specs.Prelude.{ℕ, List, [], length, Option, Some, None, slice_get, map}
use Rattle.cloud_base.specs.Answer.{answer}
use Rattle.cloud_base.specs.Events.{Outcome, ended}
use Rattle.cloud_base.specs.declared.batch.Batch.{Batch}
use Rattle.cloud_base.specs.declared.batch.Tail.{Tail}
use Rattle.cloud_base.specs.declared.end.End.{End}
use Rattle.cloud_base.specs.declared.end.End.TheVariants.{Done}
use Rattle.cloud_base.specs.declared.update.Answer.{Answer}
use Rattle.cloud_base.specs.declared.update.Event.{Event}
use Rattle.typed_program.specs.Trace.{trace}
use Rattle.typed_program.specs.Widths.{greatest, most_events}
use Rattle.typed_program.specs.declared.program.Parts.{Parts}
use Rattle.typed_program.specs.declared.statement.Statement.{Statement}
use Rattle.played_record.specs.Plays.{IsPlayed}

-- what a client with a body does, and nothing where there is none
abbrev pub trace_by : ℕ → Option (List Statement) → List Answer → List Event × Outcome
trace_by c None = λ answers. ([], ended Done)
trace_by c (Some body) = trace c body

-- what client c of a program does
abbrev pub trace_of : Parts → ℕ → List Answer → List Event × Outcome
trace_of p c = trace_by c (slice_get p.bodies c)

-- the record of the program's run, by its schema, its bodies and its schedule
abbrev pub Played : Parts → List Batch → List Tail → List End → Type 0
Played p batches tails ends = IsPlayed (answer p.schema) (trace_of p) p.schedule (length p.bodies) batches tails ends

-- how many events each of its clients has at most
abbrev pub most_of : Parts → ℕ
most_of p = greatest (map most_events p.bodies)
