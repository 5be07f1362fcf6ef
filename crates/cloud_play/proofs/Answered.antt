-- What a client's queries were answered is of the schema's shape.
use Rattle.std.proofs.Common.{◌≡◌, refl, sym, ap, ◌∙◌, subst}
use Rattle.std.specs.Prelude.{ℕ, map, All, List, [], ◌∷◌, ◌++◌, Option, Some, None}
use Rattle.std.proofs.lemmas.List.Elements.{All-nil, All-cons, All-append}
use Rattle.cloud_base.specs.declared.batch.Batch.{Batch}
use Rattle.cloud_base.specs.declared.end.End.{End}
use Rattle.cloud_base.specs.declared.schema.Schema.{Schema}
use Rattle.cloud_base.specs.declared.update.Event.{Event}
use Rattle.cloud_base.specs.declared.update.Event.TheVariants as event
use Rattle.typed_program.specs.Shapes.{IsAnswered}
use Rattle.plain_vm.specs.Code.{CodeOf}
use Rattle.code_machine.specs.Machine.{IsShapedNeed}
use Rattle.code_machine.specs.declared.need.Need.{Need}
use Rattle.batch_history.specs.Batches.{all_events, stretch_of}
use Rattle.front_table.specs.TokenView.{TokenView}
use Rattle.slot_hub.specs.Boxes.{Seen}
use Rattle.packet_codec.specs.Pushes.{Pushed}
use Rattle.packet_codec.specs.Replies.{Replied}
use Rattle.session_core.specs.declared.flushing.Flushing.{Flushing}
use Rattle.session_core.specs.declared.flushing.Flushing.TheVariants.{Closed, Marked, Sent}
use Rattle.session_core.specs.Standings.{IsRunning, Standing}
use Rattle.session_core.specs.Sessions.{IsOpened, noted_at}
use Rattle.client_runner.specs.declared.stepped.Stepped.{Stepped}
use Rattle.client_runner.specs.Steps.{Does, IsRan, Ran, Steps, StepsAt, did}
use Rattle.client_runner.proofs.Doing.{Adds, Same, adds_note, adds_then, adds_yield, did_parts, same_turn}
use Rattle.client_runner.proofs.Needing.{answer_shaped}

abbrev Told : Schema → Standing → Type 0
Told schema s = All (IsAnswered schema) (did s)

told_same : (schema : Schema) (old new : Standing) → Same old new → Told schema old → Told schema new
told_same schema old new same h = subst (All (IsAnswered schema)) (sym same.events) h

told_more : (schema : Schema) (e : Event) (old new : Standing) → Adds e old new → IsAnswered schema e → Told schema old → Told schema new
told_more schema e old new more one h =
    subst (All (IsAnswered schema)) (sym more.events)
    (All-append (IsAnswered schema) (did old) (e ∷ []) h (All-cons (IsAnswered schema) e [] one (All-nil (IsAnswered schema))))

module _ {S : Type 0} (hub hub' : Seen S Pushed Replied) where
  told_need : (schema : Schema) (need : Need) (old new : Standing) (out : Stepped) → IsRunning old → schema ≡ old.schema → IsShapedNeed schema need → Does need old new out hub hub' → Told schema old → Told schema new
  told_need schema (Need.Do update) old new out running same shaped h told = told_more schema (event.Do update) old new (adds_note old.flush (event.Do update) old new running h.goes_on) tt told
  told_need schema (Need.Ask query) old new out running same shaped h told =
      told_more schema (event.Ask query h.given) old new (adds_note old.flush (event.Ask query h.given) old new running h.notes.goes_on)
      (answer_shaped schema old query h.given running same (subst (λ (x : Schema). IsShapedNeed x (Need.Ask query)) same shaped) h.right) told
  told_need schema (Need.Say value) old new out running same shaped h told = told_more schema (event.Say value) old new (adds_note old.flush (event.Say value) old new running h.goes_on) tt told
  told_need schema Need.Yield old new out running same shaped h told = told_more schema event.Yield old new (adds_yield hub hub' old new h.yielded running h.yields) tt told
  told_need schema Need.Flush old new out running same shaped h told =
      told_more schema event.Flush old new
      (adds_then event.Flush old (noted_at Marked event.Flush old) new (adds_note Marked event.Flush old (noted_at Marked event.Flush old) running refl)
      (same_turn hub hub' (noted_at Marked event.Flush old) new h.turn h.turns)) tt told
  told_need schema (Need.Ended end) old new out running same shaped h told = subst (Told schema) (sym h.same) told

  told_step : (ended : Option End) (flush : Flushing) (code : CodeOf) (old new : Standing) (out : Stepped) → IsRunning old → code.schema ≡ old.schema → StepsAt ended flush code old new out hub hub' → Told code.schema old → Told code.schema new
  told_step (Some end) flush code old new out running same h told = subst (Told code.schema) (sym h.same) told
  told_step None Closed code old new out running same h told = told_need code.schema h.need old new out running same h.shaped h.does told
  told_step None Marked code old new out running same h told = told_same code.schema old new (same_turn hub hub' old new h.turn h.turns) told
  told_step None Sent code old new out running same h told = told_same code.schema old new (same_turn hub hub' old new h.turn h.turns) told

  -- a step's query is answered in shape
  pub answered_on : (old new : Ran) (out : Stepped) → IsRan old → Steps old new out hub hub' → Told old.code.schema old.stands → Told old.code.schema new.stands
  answered_on old new out ran h told = told_step old.ended old.stands.flush old.code old.stands new.stands out ran.standing.running ran.schema h told

-- a client that did nothing asked nothing
pub none_yet : (schema of : Schema) (c : ℕ) (front : TokenView Batch) (s : Standing) → IsOpened of c front s → Told schema s
none_yet schema of c front s h =
    subst (All (IsAnswered schema)) (sym (did_parts s ∙ ap (λ (l : List Batch). all_events (map stretch_of l) ++ (s.before ++ s.rest)) h.own ∙ ap (λ (l : List Event). l ++ s.rest) h.before ∙ h.rest)) (All-nil (IsAnswered schema))
