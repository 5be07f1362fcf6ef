-- A machine that did what the session's client did.
use Rattle.std.proofs.Common.{◌≡◌, refl, sym, ap, ◌∙◌, subst, arith, append-nil}
use Rattle.std.specs.Prelude.{ℕ, ◌+◌, ◌<◌, ◌≤◌, ◌^◌, All, List, [], ◌∷◌, ◌++◌, length}
use Rattle.cloud_base.specs.Answer.{answer}
use Rattle.cloud_base.specs.Events.{answers_in, updates_of}
use Rattle.cloud_base.specs.Log.{created}
use Rattle.cloud_base.specs.Shaped.{NoRepeat, IsShapedAnswer, IsShapedQuery}
use Rattle.cloud_base.specs.Values.{Id}
use Rattle.cloud_base.specs.declared.schema.Schema.{Schema}
use Rattle.cloud_base.specs.declared.update.Answer.{Answer}
use Rattle.cloud_base.specs.declared.update.Event.{Event}
use Rattle.cloud_base.specs.declared.update.Event.TheVariants as event
use Rattle.cloud_base.specs.declared.update.Query.{Query}
use Rattle.cloud_base.specs.declared.update.Update.{Update}
use Rattle.cloud_base.proofs.LogLemmas.{created_parts}
use Rattle.cloud_base.proofs.ShapedLemmas.{answer_fits}
use Rattle.typed_program.specs.Shapes.{first_ids}
use Rattle.typed_program.proofs.Keeps.{updates-append}
use Rattle.typed_program.proofs.Orderly.{answers_in-append}
use Rattle.plain_vm.specs.Exec.{run}
use Rattle.code_machine.specs.Machine.{IsNeeded, Stands, held_of, ids_created, standing_of}
use Rattle.code_machine.specs.Steps.{later}
use Rattle.code_machine.specs.declared.machine.Machine.{Machine}
use Rattle.code_machine.specs.declared.need.Need.{Need}
use Rattle.session_core.specs.Standings.{Standing, IsRunning, seen, updates_done}
use Rattle.session_core.specs.Sessions.{MayDo}
use Rattle.client_runner.specs.Needs.{IsNext, Reaches}
use Rattle.client_runner.specs.Steps.{did}
use Rattle.client_runner.proofs.Doing.{Adds, Same, seen_shaped, updates_did}
use Rattle.client_runner.proofs.Serials.{run_counts}
use Rattle.client_runner.proofs.Stretches.{all_behind, few_created, first_mine, first_once}

-- a machine stands where a session's client does
abbrev pub StandsAt : Machine → Standing → Type 0
StandsAt m s = Stands m s.client (answers_in (did s)) (did s)

-- ---- behind an event

moved : (m : Machine) (old new : Standing) (answers : List Answer) (events : List Event) → new.client ≡ old.client → did new ≡ events → answers_in events ≡ answers → Stands m old.client answers events → StandsAt m new
moved m old new answers events same is got h =
    subst (λ (es : List Event). Stands m new.client (answers_in es) es) (sym is)
    (subst (λ (c : ℕ). Stands m c (answers_in events) events) (sym same)
    (subst (λ (l : List Answer). Stands m old.client l events) (sym got) h))

pub stands_same : (m : Machine) (old new : Standing) → Same old new → StandsAt m old → StandsAt m new
stands_same m old new same h = moved m old new (answers_in (did old)) (did old) same.client same.events refl h

pub stands_told : (m : Machine) (e : Event) (old new : Standing) → answers_in (e ∷ []) ≡ [] → Adds e old new → Stands m old.client (answers_in (did old)) (did old ++ e ∷ []) → StandsAt m new
stands_told m e old new none adds h =
    moved m old new (answers_in (did old)) (did old ++ e ∷ []) adds.client adds.events
    (answers_in-append (did old) (e ∷ []) ∙ ap (λ (l : List Answer). answers_in (did old) ++ l) none ∙ append-nil (answers_in (did old))) h

pub stands_asked : (m : Machine) (q : Query) (a : Answer) (old new : Standing) → Adds (event.Ask q a) old new → Stands m old.client (answers_in (did old) ++ a ∷ []) (did old ++ event.Ask q a ∷ []) → StandsAt m new
stands_asked m q a old new adds h =
    moved m old new (answers_in (did old) ++ a ∷ []) (did old ++ event.Ask q a ∷ []) adds.client adds.events
    (answers_in-append (did old) (event.Ask q a ∷ [])) h

-- ---- what its code says

pub reaches : (m : Machine) (client : ℕ) (answers : List Answer) (events : List Event) → Stands m client answers events → Reaches m.code.now.instructions client answers events
reaches m client answers events h = record {
  count = h.count;
  standing = standing_of m;
  world = later (held_of m) [] events;
  goes_on = ap (λ (l : List Answer). run m.code.now.instructions h.count client l) (sym (append-nil answers)) ∙ h.reached [];
  events_are = refl;
}

pub is_next : (need : Need) (m : Machine) (client : ℕ) (events : List Event) → IsNeeded need m client (answers_in events) events → IsNext m.code.now.instructions client events need
is_next (Need.Do u) m client events h = reaches m client (answers_in events) (events ++ event.Do u ∷ []) h
is_next (Need.Ask q) m client events h = record { count = h.count; comes_out = h.waits }
is_next (Need.Say v) m client events h = reaches m client (answers_in events) (events ++ event.Say v ∷ []) h
is_next Need.Yield m client events h = reaches m client (answers_in events) (events ++ event.Yield ∷ []) h
is_next Need.Flush m client events h = reaches m client (answers_in events) (events ++ event.Flush ∷ []) h
is_next (Need.Ended end) m client events h = record { count = h.count; comes_out = h.ends }

-- ---- what the session asks

pub few_ids : (m : Machine) (s : Standing) → StandsAt m s → length (updates_done s) < 2 ^ 32 → ids_created m < 2 ^ 32
few_ids m s h few =
    let log : length (updates_of (did s)) ≡ length (updates_done s) = ap length (updates_did s) in
    let less : length (created (updates_of (did s))) ≤ length (updates_of (did s)) = few_created (updates_of (did s)) in
    omega (arith, h.ids, log, less, few)

pub may_do : (m : Machine) (s : Standing) (u : Update) → Stands m s.client (answers_in (did s)) (did s ++ event.Do u ∷ []) → length (updates_done s) + 1 < 2 ^ 28 → MayDo s u
unfolding reaches
may_do m s u h few =
    let es = did s ++ event.Do u ∷ [] in
    let r = reaches m s.client (answers_in (did s)) es h in
    let n = (held_of m).serial in
    let counted = run_counts m.code.now.instructions h.count s.client (answers_in (did s)) (standing_of m) (later (held_of m) [] es) r.goes_on in
    let log : updates_of es ≡ updates_done s ++ u ∷ [] = updates-append (did s) (event.Do u ∷ []) ∙ ap (λ (l : List Update). l ++ u ∷ []) (updates_did s) in
    let ids : created (updates_done s ++ u ∷ []) ≡ first_ids s.client n = ap created (sym log) ∙ counted.made in
    let parts : created (updates_done s) ++ created (u ∷ []) ≡ first_ids s.client n = sym (created_parts (updates_done s) (u ∷ [])) ∙ ids in
    record {
      mine = all_behind (λ (id : Id). id.client ≡ s.client) (created (updates_done s)) (created (u ∷ []))
          (subst (All (λ (id : Id). id.client ≡ s.client)) (sym parts) (first_mine s.client n));
      once = subst NoRepeat (sym ids) (first_once s.client n);
      few = few;
    }

-- an answer is of the shape that is asked for
pub answer_shaped : (schema : Schema) (s : Standing) (q : Query) (a : Answer) → IsRunning s → schema ≡ s.schema → IsShapedQuery s.schema q → a ≡ answer s.schema (seen s) q → IsShapedAnswer schema q a
answer_shaped schema s q a h same shaped is =
    subst (λ (x : Schema). IsShapedAnswer x q a) (sym same)
    (subst (IsShapedAnswer s.schema q) (sym is) (answer_fits s.schema (seen s) q (seen_shaped s h) shaped))
