-- What the clients of a program do at most.
use Rattle.std.proofs.Common.{◌≡◌, sym, ap, ◌∙◌, ℕ, ◌+◌, ◌≤◌, List, Option, Some, None, arith}
use Rattle.std.specs.Prelude.{slice_get}
use mathlib.Core.List.{IsPrefix}
use Rattle.cloud_base.specs.declared.update.Answer.{Answer}
use Rattle.cloud_base.specs.declared.update.Event.{Event}
use Rattle.typed_program.specs.Trace.{budget}
use Rattle.typed_program.specs.declared.program.Parts.{Parts}
use Rattle.typed_program.specs.declared.statement.Statement.{Statement}
use Rattle.played_record.specs.Laws.{IsMoment}
use Rattle.played_record.specs.Programs.{trace_by, trace_of}
use Rattle.played_record.specs.Worlds.{World, did}
use Rattle.played_bounds.specs.Few.{acts_in}
use Rattle.played_bounds.proofs.Acts.{acts_in-append, trace_acts}

trace_by_acts : (c : ℕ) (body : Option (List Statement)) (given : List Answer) → acts_in (trace_by c body given).0 ≤ budget
trace_by_acts c None given = omega arith
trace_by_acts c (Some body) given = trace_acts c body given

pub client_acts : (p : Parts) (c : ℕ) (given : List Answer) → acts_in (trace_of p c given).0 ≤ budget
client_acts p c given = trace_by_acts c (slice_get p.bodies c) given

-- a front acts no more often
front_acts : (front all : List Event) → IsPrefix front all → acts_in front ≤ acts_in all
front_acts front all p =
    let parts : acts_in all ≡ acts_in front + acts_in p.0 = ap acts_in (sym p.1) ∙ acts_in-append front p.0 in
    omega arith

pub moment_acts : (p : Parts) (w : World) (c : ℕ) → IsMoment (trace_of p) w → acts_in (did c w) ≤ budget
moment_acts p w c h =
    let given = (w.client c).answers in
    let less = front_acts (did c w) (trace_of p c given).0 (h.follows c).front in
    let most = client_acts p c given in
    omega arith
