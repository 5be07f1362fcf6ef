-- What a machine needs is what its run comes to.
use Rattle.std.proofs.Common.{◌≡◌, refl, sym, ap, ◌∙◌, subst, arith}
use Rattle.std.proofs.lemmas.List.{append-nil, append_assoc, length-append}
use Rattle.std.proofs.lemmas.List.Elements.{All-nil, All-cons, All-head}
use Rattle.std.specs.Prelude.{ℕ, ◌+◌, ◌<◌, ◌^◌, List, [], ◌∷◌, ◌++◌, length, All, Option, Some, None}
use Rattle.cloud_base.specs.Values.{Id, most_clients}
use Rattle.cloud_base.specs.PlainCell.{ValueKind, Number, Words, value_kind}
use Rattle.cloud_base.specs.declared.key.Key.{Key}
use Rattle.cloud_base.specs.Events.{Outcome, ended, asks, updates_of}
use Rattle.cloud_base.specs.Log.{created}
use Rattle.cloud_base.specs.Shaped.{IsShapedEvent, IsShapedAnswer, IsOfKind, cell_type}
use Rattle.cloud_base.specs.declared.schema.Schema.{Schema}
use Rattle.cloud_base.specs.declared.update.Answer.{Answer}
use Rattle.cloud_base.specs.declared.update.Answer.TheVariants as answer
use Rattle.cloud_base.specs.declared.update.Event.{Event}
use Rattle.cloud_base.specs.declared.update.Event.TheVariants as event
use Rattle.cloud_base.specs.declared.update.Query.{Query}
use Rattle.cloud_base.specs.declared.update.Query.TheVariants as query
use Rattle.cloud_base.specs.declared.update.Update.{Update}
use Rattle.cloud_base.specs.declared.update.Update.TheVariants as update
use Rattle.typed_program.specs.Does.{World, Run, goes, ends, then_by}
use Rattle.typed_program.specs.Laws.{events_of}
use Rattle.typed_program.specs.Shapes.{IsAnswered, IsShapedOutcome}
use Rattle.typed_program.specs.Trace.{start}
use Rattle.plain_vm.proofs.Runs.{runs_add}
use Rattle.plain_vm.proofs.Well.{begins_well}
use Rattle.plain_vm.specs.Code.{CodeOf}
use Rattle.plain_vm.specs.declared.instruction.Instruction.{Instruction}
use Rattle.plain_vm.specs.Exec.{Standing, step, exec, from_there, first, run}
use Rattle.plain_vm.specs.Fits.{ComesWell}
use Rattle.plain_vm.specs.Valid.{IsCode}
use Rattle.code_machine.specs.declared.machine.Machine.{Machine}
use Rattle.code_machine.specs.declared.need.Need.{Need}
use Rattle.code_machine.specs.declared.state.State.{State}
use Rattle.code_machine.specs.Machine.{Settled, Stands, IsNeeded, IsShapedNeed, standing_of, held_of, standing_with, held_with}
use Rattle.code_machine.specs.Runs.{Sits, Reaches, Runs}
use Rattle.code_machine.specs.Steps.{Asks, IsBegun, answered, paid, with_answer, standing, held, later}
use Rattle.code_machine.proofs.Stepping.{told_well, well}

no_ids : (kind : ValueKind) (ids : List Id) → IsOfKind kind (answer.Ids ids) → ⊥
no_ids Number ids h = h
no_ids Words ids h = h

no_tuples : (kind : ValueKind) (tuples : List (List Key)) → IsOfKind kind (answer.Tuples tuples) → ⊥
no_tuples Number tuples h = h
no_tuples Words tuples h = h

-- an answer in shape is opened as a listing exactly where the query asks for one
takes_as_asked : (schema : Schema) (q : Query) (a : Answer) (s : Standing) → IsShapedAnswer schema q a → answered q a s ≡ with_answer a s
takes_as_asked schema (query.Get property keys) (answer.Int n) s h = refl
takes_as_asked schema (query.Get property keys) (answer.Text bytes) s h = refl
takes_as_asked schema (query.Get property keys) (answer.Truth b) s h = refl
takes_as_asked schema (query.Get property keys) (answer.Id id) s h = refl
takes_as_asked schema (query.Get property keys) (answer.Ids ids) s h = absurd (no_ids (value_kind (cell_type schema property)) ids h)
takes_as_asked schema (query.Get property keys) (answer.Tuples tuples) s h = absurd (no_tuples (value_kind (cell_type schema property)) tuples h)
takes_as_asked schema (query.All entity) (answer.Int n) s h = absurd h
takes_as_asked schema (query.All entity) (answer.Text bytes) s h = absurd h
takes_as_asked schema (query.All entity) (answer.Truth b) s h = absurd h
takes_as_asked schema (query.All entity) (answer.Id id) s h = absurd h
takes_as_asked schema (query.All entity) (answer.Ids ids) s h = refl
takes_as_asked schema (query.All entity) (answer.Tuples tuples) s h = absurd h
takes_as_asked schema (query.Entries property) (answer.Int n) s h = absurd h
takes_as_asked schema (query.Entries property) (answer.Text bytes) s h = absurd h
takes_as_asked schema (query.Entries property) (answer.Truth b) s h = absurd h
takes_as_asked schema (query.Entries property) (answer.Id id) s h = absurd h
takes_as_asked schema (query.Entries property) (answer.Ids ids) s h = absurd h
takes_as_asked schema (query.Entries property) (answer.Tuples tuples) s h = refl
takes_as_asked schema (query.Alive id) (answer.Int n) s h = absurd h
takes_as_asked schema (query.Alive id) (answer.Text bytes) s h = absurd h
takes_as_asked schema (query.Alive id) (answer.Truth b) s h = refl
takes_as_asked schema (query.Alive id) (answer.Id x) s h = absurd h
takes_as_asked schema (query.Alive id) (answer.Ids ids) s h = absurd h
takes_as_asked schema (query.Alive id) (answer.Tuples tuples) s h = absurd h

updates_last : (events : List Event) (e : Event) → updates_of (events ++ e ∷ []) ≡ updates_of events ++ updates_of (e ∷ [])
updates_last [] e = refl
updates_last (event.Do u ∷ events) e = ap (λ us. u ∷ us) (updates_last events e)
updates_last (event.Ask q a ∷ events) e = updates_last events e
updates_last (event.Say v ∷ events) e = updates_last events e
updates_last (event.Yield ∷ events) e = updates_last events e
updates_last (event.Flush ∷ events) e = updates_last events e

created_more : (log more : List Update) → created (log ++ more) ≡ created log ++ created more
created_more [] more = refl
created_more (update.Cell property keys change ∷ log) more = created_more log more
created_more (update.Create id entity keys ∷ log) more = ap (λ ids. id ∷ ids) (created_more log more)
created_more (update.Delete id ∷ log) more = created_more log more

-- how many ids are created with one event more
count_last : (events : List Event) (e : Event) → length (created (updates_of (events ++ e ∷ []))) ≡ length (created (updates_of events)) + length (created (updates_of (e ∷ [])))
count_last events e = ap (λ log. length (created log)) (updates_last events e) ∙ ap length (created_more (updates_of events) (updates_of (e ∷ []))) ∙ length-append (created (updates_of events)) (created (updates_of (e ∷ [])))

-- where a run for some answers comes to, whatever answers come then
pub record Came (code : List Instruction) (client : ℕ) (answers : List Answer) (events : List Event) (s : Standing) (w : World) : Type 0 where
  pub count : ℕ
  pub reached : (more : List Answer) → run code count client (answers ++ more) ≡ goes (Some s) (later w more events)

came : (m : Machine) (client : ℕ) (answers : List Answer) (events : List Event) (s : Standing) (w : World) → s ≡ standing_of m → w ≡ held_of m → Stands m client answers events → Came m.code.now.instructions client answers events s w
came m client answers events s w e k h = subst (λ x. Came m.code.now.instructions client answers events x w) (sym e) (subst (Came m.code.now.instructions client answers events (standing_of m)) (sym k) (record { count = h.count; reached = h.reached }))

came_on : (c : CodeOf) (client : ℕ) (answers : List Answer) (events : List Event) (mid last : State) → Came c.instructions client answers events (standing mid) (held mid) → Reaches c mid last → Came c.instructions client answers events (standing last) (held last)
came_on c client answers events mid last h r = record {
  count = h.count + r.count;
  reached = λ more. runs_add c.instructions h.count r.count first (start client (answers ++ more))
      ∙ ap (λ x. then_by x (from_there (exec c.instructions r.count))) (h.reached more)
      ∙ r.reached more events;
}

no_more : (code : List Instruction) (r : Run (Option Standing)) → then_by r (from_there (exec code 0)) ≡ r
no_more code (goes None w) = refl
no_more code (goes (Some s) w) = refl
no_more code (ends outcome events) = refl

-- and one step from there
steps_from : (code : List Instruction) (client : ℕ) (answers : List Answer) (events : List Event) (last : State) (h : Came code client answers events (standing last) (held last)) (more : List Answer)
    → run code (h.count + 1) client (answers ++ more) ≡ step code (standing last) (later (held last) more events)
steps_from code client answers events last h more = runs_add code h.count 1 first (start client (answers ++ more))
    ∙ ap (λ x. then_by x (from_there (exec code 1))) (h.reached more)
    ∙ no_more code (step code (standing last) (later (held last) more events))

stands_from : (m : Machine) (client : ℕ) (answers : List Answer) (events : List Event) → m.given ≡ None → Came m.code.now.instructions client answers events (standing m.state) (held m.state) → Sits m.code.now (standing m.state) (held m.state)
    → m.state.serial ≡ length (created (updates_of events)) → Stands m client answers events
stands_from m client answers events e h sits ids = record {
  count = h.count;
  reached = subst (λ (g : Option Answer). (more : List Answer) → run m.code.now.instructions h.count client (answers ++ more) ≡ goes (Some (standing_with g (standing m.state))) (later (held_with g (held m.state)) more events)) (sym e) h.reached;
  sits = subst (λ (g : Option Answer). Sits m.code.now (standing_with g (standing m.state)) (held_with g (held m.state))) (sym e) sits;
  ids = ids;
}

-- it told an event
tells : (m : Machine) (last : State) (client : ℕ) (answers : List Answer) (events : List Event) (e : Event) → m.given ≡ None → Came m.code.now.instructions client answers events (standing last) (held last) → Sits m.code.now (standing last) (held last)
    → last.serial ≡ length (created (updates_of events)) → last.serial < 2 ^ 32 → IsAnswered m.code.now.schema e
    → ((more : List Answer) (before : List Event) → step m.code.now.instructions (standing last) (later (held last) more before) ≡ goes (Some (standing m.state)) (later (held m.state) more (before ++ e ∷ [])))
    → m.state.serial ≡ last.serial + length (created (updates_of (e ∷ []))) → Stands m client answers (events ++ e ∷ [])
tells m last client answers events e g h sits ids few shaped told more_ids = stands_from m client answers (events ++ e ∷ []) g
    (record { count = h.count + 1; reached = λ more. steps_from m.code.now.instructions client answers events last h more ∙ told more events })
    (told_well m.code.now last sits (standing m.state) (held m.state) [] [] (e ∷ []) few (All-cons (IsAnswered m.code.now.schema) e [] shaped (All-nil (IsAnswered m.code.now.schema))) (told [] [])).0
    (more_ids ∙ ap (λ n. n + length (created (updates_of (e ∷ [])))) ids ∙ sym (count_last events e))

-- it stands there with an answer
resumed : (m : Machine) (last : State) (client : ℕ) (answers : List Answer) (events : List Event) (q : Query) (a : Answer) → Came m.code.now.instructions client answers events (standing last) (held last) → Sits m.code.now (standing last) (held last)
    → last.serial ≡ length (created (updates_of events)) → last.serial < 2 ^ 32 → IsShapedAnswer m.code.now.schema q a
    → Asks (λ more before. step m.code.now.instructions (standing last) (later (held last) more before)) (standing m.state) (held m.state) q
    → m.state.serial ≡ last.serial + 0 → Stands (record m { given = Some a }) client (answers ++ a ∷ []) (events ++ event.Ask q a ∷ [])
resumed m last client answers events q a h sits ids few shaped asked more_ids =
    let same = takes_as_asked m.code.now.schema q a (standing m.state) shaped in
    let told : (more : List Answer) (before : List Event) → step m.code.now.instructions (standing last) (later (held last) (a ∷ more) before) ≡ goes (Some (with_answer a (standing m.state))) (later (paid a (held m.state)) more (before ++ event.Ask q a ∷ [])) =
    λ more before. asked.resumes a more before ∙ ap (λ s. goes (Some s) (later (paid a (held m.state)) more (before ++ event.Ask q a ∷ []))) same in
    record {
      count = h.count + 1;
      reached = λ more. ap (run m.code.now.instructions (h.count + 1) client) (append_assoc answers (a ∷ []) more) ∙ steps_from m.code.now.instructions client answers events last h (a ∷ more) ∙ told more events;
      sits = (told_well m.code.now last sits (with_answer a (standing m.state)) (paid a (held m.state)) (a ∷ []) [] (event.Ask q a ∷ []) few
          (All-cons (IsAnswered m.code.now.schema) (event.Ask q a) [] shaped (All-nil (IsAnswered m.code.now.schema))) (told [] [])).0;
      ids = more_ids ∙ ap (λ n. n + 0) ids ∙ sym (count_last events (event.Ask q a));
    }

pub needed : (m : Machine) (mid : State) (need : Need) (client : ℕ) (answers : List Answer) (events : List Event) → m.given ≡ None → Runs m.code.now mid m.state need → Came m.code.now.instructions client answers events (standing mid) (held mid)
    → mid.serial ≡ length (created (updates_of events)) → mid.serial < 2 ^ 32 → IsNeeded need m client answers events
needed m mid (Need.Do u) client answers events g r h ids few = tells m r.last client answers events (event.Do u) g (came_on m.code.now client answers events mid r.last h r.reaches) (r.reaches).sits ((r.reaches).ids ∙ ids) (omega (arith, (r.reaches).ids, few)) tt (r.steps).comes (r.steps).ids
needed m mid (Need.Ask q) client answers events g r h ids few =
    let on = came_on m.code.now client answers events mid r.last h r.reaches in
    record {
      count = on.count + 1;
      waits = ap (run m.code.now.instructions (on.count + 1) client) (sym (append-nil answers)) ∙ steps_from m.code.now.instructions client answers events r.last on [] ∙ ((r.steps).comes).waits events;
      resumes = λ a shaped. resumed m r.last client answers events q a on (r.reaches).sits ((r.reaches).ids ∙ ids) (omega (arith, (r.reaches).ids, few)) shaped (r.steps).comes (r.steps).ids;
    }
needed m mid (Need.Say v) client answers events g r h ids few = tells m r.last client answers events (event.Say v) g (came_on m.code.now client answers events mid r.last h r.reaches) (r.reaches).sits ((r.reaches).ids ∙ ids) (omega (arith, (r.reaches).ids, few)) tt (r.steps).comes (r.steps).ids
needed m mid Need.Yield client answers events g r h ids few = tells m r.last client answers events event.Yield g (came_on m.code.now client answers events mid r.last h r.reaches) (r.reaches).sits ((r.reaches).ids ∙ ids) (omega (arith, (r.reaches).ids, few)) tt (r.steps).comes (r.steps).ids
needed m mid Need.Flush client answers events g r h ids few = tells m r.last client answers events event.Flush g (came_on m.code.now client answers events mid r.last h r.reaches) (r.reaches).sits ((r.reaches).ids ∙ ids) (omega (arith, (r.reaches).ids, few)) tt (r.steps).comes (r.steps).ids
needed m mid (Need.Ended end) client answers events g r h ids few =
    let on = came_on m.code.now client answers events mid r.last h r.reaches in
    let stays : m.state ≡ r.last = (r.steps).as_ever in
    record {
      count = on.count + 1;
      ends = ap (run m.code.now.instructions (on.count + 1) client) (sym (append-nil answers)) ∙ steps_from m.code.now.instructions client answers events r.last on [] ∙ (r.steps).comes [] events;
      stands = stands_from m client answers events g
          (subst (λ (s : State). Came m.code.now.instructions client answers events (standing s) (held s)) (sym stays) on)
          (subst (λ (s : State). Sits m.code.now (standing s) (held s)) (sym stays) (r.reaches).sits)
          (ap (λ (s : State). s.serial) stays ∙ (r.reaches).ids ∙ ids);
    }

told_shape : (c : CodeOf) (last new : State) (e : Event) → Sits c (standing last) (held last) → last.serial < 2 ^ 32 → IsAnswered c.schema e
    → ((more : List Answer) (before : List Event) → step c.instructions (standing last) (later (held last) more before) ≡ goes (Some (standing new)) (later (held new) more (before ++ e ∷ []))) → IsShapedEvent c.schema e
told_shape c last new e sits few shaped told =
    All-head (IsShapedEvent c.schema) e [] (told_well c last sits (standing new) (held new) [] [] (e ∷ []) few (All-cons (IsAnswered c.schema) e [] shaped (All-nil (IsAnswered c.schema))) (told [] [])).1

ended_shape : (c : CodeOf) (last : State) (outcome : Outcome) → (sits : Sits c (standing last) (held last)) → last.serial < 2 ^ 32 → step c.instructions (standing last) (later (held last) [] []) ≡ ends outcome [] → IsShapedOutcome c.schema outcome
ended_shape c last outcome sits few e =
    let h = well c last sits [] few (subst (λ r. All (IsAnswered c.schema) (events_of r)) (sym e) (All-nil (IsAnswered c.schema))) in
    (subst (ComesWell c.schema sits.shapes) e h).0

pub need_shaped : (c : CodeOf) (mid new : State) (need : Need) → Runs c mid new need → mid.serial < 2 ^ 32 → IsShapedNeed c.schema need
need_shaped c mid new (Need.Do u) r few = told_shape c r.last new (event.Do u) (r.reaches).sits (omega (arith, (r.reaches).ids, few)) tt (r.steps).comes
need_shaped c mid new (Need.Ask q) r few = ended_shape c r.last (asks q) (r.reaches).sits (omega (arith, (r.reaches).ids, few)) (((r.steps).comes).waits [])
need_shaped c mid new (Need.Say v) r few = told_shape c r.last new (event.Say v) (r.reaches).sits (omega (arith, (r.reaches).ids, few)) tt (r.steps).comes
need_shaped c mid new Need.Yield r few = tt
need_shaped c mid new Need.Flush r few = tt
need_shaped c mid new (Need.Ended end) r few = ended_shape c r.last (ended end) (r.reaches).sits (omega (arith, (r.reaches).ids, few)) ((r.steps).comes [] [])

-- where a client begins
pub begun : (m : Machine) (client : ℕ) → client < most_clients → IsCode m.code.now.schema m.code.now.instructions → IsBegun client m.state → m.given ≡ None → Stands m client [] []
begun m client below valid b g =
    let there = begins_well m.code.now.schema m.code.now.instructions valid.1 client [] valid.2 below in
    let sits : Sits m.code.now first (start client []) = record { shapes = valid.1; shape = there.0; sane = valid.0; valid = valid.2; there = there.1; fits = there.2 } in
    stands_from m client [] [] g
    (subst (λ s. Came m.code.now.instructions client [] [] s (held m.state)) (sym b.standing) (subst (Came m.code.now.instructions client [] [] first) (sym b.held) (record { count = 0; reached = λ more. refl })))
    (subst (λ s. Sits m.code.now s (held m.state)) (sym b.standing) (subst (Sits m.code.now first) (sym b.held) sits))
    (ap (λ (w : World). w.serial) b.held)

same_serial : (given : Option Answer) (w : World) → (held_with given w).serial ≡ w.serial
same_serial None w = refl
same_serial (Some a) w = refl

pub same_ids : (old between : Machine) → Settled old between → between.state.serial ≡ old.state.serial
same_ids old between s = ap (λ (w : World). w.serial) s.held ∙ same_serial old.given (held old.state)

pub needed_next : (old m between : Machine) (need : Need) → Settled old between → m.code.now ≡ old.code.now → m.given ≡ None → Runs m.code.now between.state m.state need → old.state.serial < 2 ^ 32
    → (client : ℕ) (answers : List Answer) (events : List Event) → Stands old client answers events → IsNeeded need m client answers events
needed_next old m between need s e g r few client answers events h =
    let same = same_ids old between s in
    needed m between.state need client answers events g r
    (subst (λ (c : CodeOf). Came c.instructions client answers events (standing between.state) (held between.state)) (sym e) (came old client answers events (standing between.state) (held between.state) s.standing s.held h))
    (same ∙ h.ids) (omega (arith, same, few))
