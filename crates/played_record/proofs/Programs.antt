-- Programs go on as more answers come.
use Rattle.std.proofs.Common.{refl, List, [], ◌++◌, ℕ, Option, Some, None}
use Rattle.std.specs.Prelude.{slice_get}
use Rattle.cloud_base.specs.declared.update.Answer.{Answer}
use Rattle.typed_program.specs.Laws.{Extends, InOrder}
use Rattle.typed_program.specs.declared.program.Parts.{Parts}
use Rattle.typed_program.specs.declared.statement.Statement.{Statement}
use Rattle.typed_program.proofs.Traces.{trace_extends, trace_in_order}
use Rattle.played_record.specs.Programs.{trace_by, trace_of}
use Rattle.played_record.specs.Laws.{GoesOn}

extends : (c : ℕ) (body : Option (List Statement)) (given more : List Answer) → Extends (trace_by c body given) (trace_by c body (given ++ more)) more
extends c None given more = record { grows = ([], refl); ended = λ e is. refl; asks = λ q a rest is e. absurd (cc (is)) }
extends c (Some body) given more = trace_extends c body given more

in_order : (c : ℕ) (body : Option (List Statement)) (given : List Answer) → InOrder (trace_by c body given) given
in_order c None given = record { in_order = (given, refl); all_taken = λ q is. absurd (cc (is)) }
in_order c (Some body) given = trace_in_order c body given

pub program_goes_on : (p : Parts) → GoesOn (trace_of p)
program_goes_on p = record {
  extends = λ c given more. extends c (slice_get p.bodies c) given more;
  in_order = λ c given. in_order c (slice_get p.bodies c) given;
}
