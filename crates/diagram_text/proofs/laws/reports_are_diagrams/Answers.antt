-- The headline, and that the text tells it.
use Rattle.std.proofs.Common.{arith, ◌≡◌, ◌∙◌, ◌+◌, ◌≤◌, ap, sym, ℕ, List, [], length, Some}
use Rattle.std.specs.Prelude.{slice_get, slice_index_or}
use Rattle.cloud_base.specs.Events.{Outcome}
use Rattle.cloud_base.specs.declared.update.Answer.{Answer}
use Rattle.cloud_base.specs.declared.update.Event.{Event}
use Rattle.typed_program.specs.Trace.{trace}
use Rattle.diagram_text.specs.Programs.{trace_of, traces}
use Rattle.diagram_text.proofs.Programs.{as_many, its_trace}
use Rattle.diagram_text.proofs.laws.reports_are_diagrams.Goals as goal

pub returns : goal.returns
returns c p batches tails ends is count few sound right flushed traced =
    let as_tails : length (traces p) ≡ length tails = as_many 0 p.bodies ∙ is.as_many_bodies ∙ count in
    let same : (client : ℕ) (its : List Answer → List Event × Outcome) → slice_get (traces p) client ≡ Some its → trace_of p client ≡ its = λ client its there.
    let here : client ≡ 0 + client = omega arith in
    ap (λ (n : ℕ). trace n (slice_index_or p.bodies client [])) here ∙ its_trace 0 client p.bodies its there in
    let shaped = c.runs_are_shaped.ensures p batches tails ends is count sound right traced in
    let clients : length tails ≤ 8 = omega (arith, is.few_clients, count) in
    record {
      headline = c.records_are_diagrams.ensures p.schema (traces p) (trace_of p) batches tails ends sound right flushed traced as_tails same;
      told = c.reports_tell_records.ensures p.schema p.names batches tails ends (c.programs_are_legible.ensures p is) (omega (arith, count)) clients few sound.clients shaped.0 shaped.1;
    }
