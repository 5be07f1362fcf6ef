-- What each client did, and how it ended.
use Rattle.std.proofs.Common.{arith, ◌≡◌, ◌∙◌, ap, sym, subst, refl, ℕ, zero, suc, ◌<◌, List, [], ◌∷◌, length, Some, get_or}
use Rattle.std.specs.Prelude.{All, slice_get}
use Rattle.std.specs.List.{AllByRecursion}
use Rattle.std.proofs.lemmas.List.Elements.{All-from_recursion}
use Rattle.std.proofs.lemmas.Option.{slice_get-get_or, slice_get_within}
use Rattle.cloud_base.specs.Events.{Outcome, ended, answers_in}
use Rattle.cloud_base.specs.Shaped.{IsShapedEvent}
use Rattle.cloud_base.specs.declared.end.End.{End}
use Rattle.cloud_base.specs.declared.end.End.TheVariants.{Done, Spent, Trap}
use Rattle.cloud_base.specs.declared.schema.Schema.{Schema}
use Rattle.cloud_base.specs.declared.update.Event.{Event}
use Rattle.batch_history.specs.Batches.{did}
use Rattle.step_text.specs.Legible.{IsEnd}
use Rattle.typed_program.specs.Shapes.{IsAnswered, IsShapedOutcome, IsShapedTrace}
use Rattle.typed_program.specs.Trace.{trace}
use Rattle.typed_program.specs.declared.statement.Statement.{Statement}
use Rattle.diagram_text.proofs.Cuts.{Follows, Shaped, answered, follows}
use Rattle.diagram_text.proofs.Walks.{did_shaped}
use Rattle.diagram_text.proofs.laws.runs_are_shaped.Goals as goal

is_end : (schema : Schema) (end : End) → IsShapedOutcome schema (ended end) → IsEnd end
is_end schema Done is = tt
is_end schema Spent is = tt
is_end schema (Trap line) is = is

are_ends : (ends : List End) → ((k : ℕ) (end : End) → slice_get ends k ≡ Some end → IsEnd end) → AllByRecursion IsEnd ends
are_ends [] h = tt
are_ends (end ∷ ends) h = (h 0 end refl, are_ends ends (λ k e there. h (suc k) e there))

pub returns : goal.returns
returns c p batches tails ends is count sound right traced =
    let schema : Schema = p.schema in
    let body : (client : ℕ) → client < length tails → slice_get p.bodies client ≡ Some (get_or p.bodies client []) = λ client below. slice_get-get_or p.bodies client [] (omega (arith, is.as_many_bodies, count)) in
    let followed : (client : ℕ) → client < length tails → Follows schema (did batches tails client) = λ client below.
    let end : End = get_or ends client Done in
    let there : slice_get ends client ≡ Some end = slice_get-get_or ends client Done (omega (arith, sound.count)) in
    follows c.answers_extend.ensures.extends c.answers_extend.ensures.in_order c.bodies_are_shaped.ensures.program p client (get_or p.bodies client []) (did batches tails client) end is (body client below) (traced client end there) in
    let shaped : (client : ℕ) → Shaped schema (did batches tails client) = did_shaped c.shaped_answers.ensures.answers schema batches tails ends followed sound right in
    let ended_so : (client : ℕ) (end : End) → slice_get ends client ≡ Some end → IsEnd end = λ client end there.
    let within : client < length ends = slice_get_within ends client end there in
    let below : client < length tails = omega (arith, sound.count) in
    let told : trace client (get_or p.bodies client []) (answers_in (did batches tails client)) ≡ (did batches tails client, ended end) = traced client end there in
    let all : All (IsAnswered schema) (trace client (get_or p.bodies client []) (answers_in (did batches tails client))).0 =
    subst (λ (t : List Event × Outcome). All (IsAnswered schema) t.0) (sym told) (All-from_recursion (IsAnswered schema) (did batches tails client) (answered schema (did batches tails client) (shaped client))) in
    let its : IsShapedTrace schema client (did batches tails client, ended end) = subst (IsShapedTrace schema client) told (c.bodies_are_shaped.ensures.program p client (get_or p.bodies client []) (answers_in (did batches tails client)) is (body client below) all) in
    is_end schema end its.outcome in
    (λ client. All-from_recursion (IsShapedEvent schema) (did batches tails client) (shaped client), All-from_recursion IsEnd ends (are_ends ends ended_so))
