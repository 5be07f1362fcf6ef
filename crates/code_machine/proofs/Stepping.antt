-- One instruction more, and all of them up to the next need.
use Rattle.std.proofs.Common.{◌≡◌, refl, sym, ap, ◌∙◌, subst, arith}
use Rattle.std.proofs.lemmas.List.Elements.{All-nil}
use Rattle.std.specs.Prelude.{ℕ, zero, suc, ◌+◌, ◌<◌, ◌^◌, List, [], ◌∷◌, All, Option, Some, None, slice_get, slice_index_or, true, false}
use Rattle.cloud_base.specs.Shaped.{IsShapedEvent}
use Rattle.cloud_base.specs.declared.update.Answer.{Answer}
use Rattle.cloud_base.specs.declared.update.Event.{Event}
use Rattle.typed_program.specs.Does.{World, Run, goes, then_by}
use Rattle.typed_program.specs.Laws.{events_of}
use Rattle.typed_program.specs.Shapes.{IsAnswered}
use Rattle.plain_vm.proofs.Falling.{steps_fall}
use Rattle.plain_vm.proofs.Runs.{runs_add}
use Rattle.plain_vm.proofs.Well.{steps_well}
use Rattle.plain_vm.specs.Code.{CodeOf}
use Rattle.plain_vm.specs.declared.instruction.Instruction.{Instruction}
use Rattle.plain_vm.specs.Exec.{Standing, act_at, step, exec, from_there}
use Rattle.plain_vm.specs.Fits.{Fits, ComesWell}
use Rattle.plain_vm.specs.Left.{left_to_do, Falls}
use Rattle.plain_vm.specs.Valid.{Shape}
use Rattle.code_machine.specs.declared.need.Need.{Need}
use Rattle.code_machine.specs.declared.state.State.{State}
use Rattle.code_machine.specs.Runs.{Sits, Reaches}
use Rattle.code_machine.specs.Steps.{Acts, AsEver, Comes, Going, Steps, ids_of, is_over, standing, held, later}

-- a run that is the same comes to the same
pub comes_as : (run run' : Going) (s : Standing) (w : World) (need : Option Need) → ((answers : List Answer) (events : List Event) → run' answers events ≡ run answers events) → Comes run s w need → Comes run' s w need
comes_as run run' s w None e h = λ answers events. e answers events ∙ h answers events
comes_as run run' s w (Some (Need.Do update)) e h = λ answers events. e answers events ∙ h answers events
comes_as run run' s w (Some (Need.Ask query)) e h = record { waits = λ events. e [] events ∙ h.waits events; resumes = λ a answers events. e (a ∷ answers) events ∙ h.resumes a answers events }
comes_as run run' s w (Some (Need.Say value)) e h = λ answers events. e answers events ∙ h answers events
comes_as run run' s w (Some Need.Yield) e h = λ answers events. e answers events ∙ h answers events
comes_as run run' s w (Some Need.Flush) e h = λ answers events. e answers events ∙ h answers events
comes_as run run' s w (Some (Need.Ended end)) e h = λ answers events. e answers events ∙ h answers events

-- the instruction at the place was done
pub comes_there : (code : List Instruction) (old moved new : State) (need : Option Need) (instruction : Instruction) → slice_get code old.place ≡ Some instruction → moved ≡ record old { place = old.place + 1 } → Acts instruction moved new need
    → Comes (λ answers events. step code (standing old) (later (held old) answers events)) (standing new) (held new) need
comes_there code old moved new need instruction there e acts =
    let n : old.place + 1 ≡ suc old.place = omega arith in
    let acts' : Acts instruction (record old { place = old.place + 1 }) new need = subst (λ s. Acts instruction s new need) e acts in
    comes_as _ _ (standing new) (held new) need (λ answers events. ap (λ o. act_at o (standing old) (later (held old) answers events)) there) (acts'.comes old.place n)

-- what stands at a place of a list
pub at_place : {A : Type 0} (xs : List A) (n : ℕ) (x y : A) → slice_get xs n ≡ Some x → y ≡ slice_index_or xs n y → slice_get xs n ≡ Some y
at_place [] n x y e k = let h : None ≡ Some x = e in cc
at_place (z ∷ xs) zero x y e k = ap Some (sym k)
at_place (z ∷ xs) (suc n) x y e k = at_place xs n x y e k

false_true : {A : Type 0} → false ≡ true → A
false_true e = cc

-- where the run is over the place is set back
set_back : (code : List Instruction) (old moved acted : State) (need : Option Need) (run : Going) → moved ≡ record old { place = old.place + 1 } → is_over need ≡ true → Comes run (standing acted) (held acted) need → AsEver need moved acted
    → Comes run (standing (record acted { place = old.place })) (held (record acted { place = old.place })) need × AsEver need old (record acted { place = old.place })
set_back code old moved acted None run e o h k = false_true o
set_back code old moved acted (Some (Need.Do update)) run e o h k = false_true o
set_back code old moved acted (Some (Need.Ask query)) run e o h k = false_true o
set_back code old moved acted (Some (Need.Say value)) run e o h k = false_true o
set_back code old moved acted (Some Need.Yield) run e o h k = false_true o
set_back code old moved acted (Some Need.Flush) run e o h k = false_true o
set_back code old moved acted (Some (Need.Ended end)) run e o h k = (h, ap (λ (s : State). record s { place = old.place }) (k ∙ e))

not_over : (need : Option Need) (old moved acted : State) → is_over need ≡ false → AsEver need moved acted → AsEver need old acted
not_over None old moved acted o k = tt
not_over (Some (Need.Do update)) old moved acted o k = tt
not_over (Some (Need.Ask query)) old moved acted o k = tt
not_over (Some (Need.Say value)) old moved acted o k = tt
not_over (Some Need.Yield) old moved acted o k = tt
not_over (Some Need.Flush) old moved acted o k = tt
not_over (Some (Need.Ended end)) old moved acted o k = false_true (sym o)

pub stepped_over : (code : List Instruction) (old moved acted : State) (need : Option Need) (instruction : Instruction) → slice_get code old.place ≡ Some instruction → moved ≡ record old { place = old.place + 1 } → is_over need ≡ true
    → Acts instruction moved acted need → Steps code old (record acted { place = old.place }) need
stepped_over code old moved acted need instruction there e o acts =
    let h = set_back code old moved acted need (λ answers events. step code (standing old) (later (held old) answers events)) e o (comes_there code old moved acted need instruction there e acts) acts.as_ever in
    record { comes = h.0; as_ever = h.1; ids = acts.ids ∙ ap (λ (s : State). s.serial + ids_of need) e }

pub stepped_on : (code : List Instruction) (old moved acted : State) (need : Option Need) (instruction : Instruction) → slice_get code old.place ≡ Some instruction → moved ≡ record old { place = old.place + 1 } → is_over need ≡ false
    → Acts instruction moved acted need → Steps code old acted need
stepped_on code old moved acted need instruction there e o acts = record {
  comes = comes_there code old moved acted need instruction there e acts;
  as_ever = not_over need old moved acted o acts.as_ever;
  ids = acts.ids ∙ ap (λ (s : State). s.serial + ids_of need) e;
}

-- the events so far don't count for a shape
pub forgotten : (c : CodeOf) (shape : Shape) (stack listings : List Answer) (w : World) (answers : List Answer) (events : List Event) → Fits c.schema shape stack listings (later w answers events) → Fits c.schema shape stack listings (later w [] [])
forgotten c shape stack listings w answers events f = record { stacked = f.stacked; stored = f.stored; listed = f.listed; many = f.many; client_below = f.client_below; events = All-nil (IsShapedEvent c.schema) }

pub remembered : (c : CodeOf) (shape : Shape) (stack listings : List Answer) (w : World) (answers : List Answer) → Fits c.schema shape stack listings (later w [] []) → Fits c.schema shape stack listings (later w answers [])
remembered c shape stack listings w answers f = record { stacked = f.stacked; stored = f.stored; listed = f.listed; many = f.many; client_below = f.client_below; events = f.events }

-- one instruction from where it sits comes well
pub well : (c : CodeOf) (s : State) (sits : Sits c (standing s) (held s)) (answers : List Answer) → s.serial < 2 ^ 32 → All (IsAnswered c.schema) (events_of (step c.instructions (standing s) (later (held s) answers [])))
    → ComesWell c.schema sits.shapes (step c.instructions (standing s) (later (held s) answers []))
well c s sits answers few shaped = steps_well c.schema c.instructions sits.shapes sits.shape (standing s) (later (held s) answers []) sits.sane sits.valid sits.there
    (remembered c sits.shape s.stack s.listings (held s) answers sits.fits) few shaped

-- where it came well it sits again
pub sits_there : (c : CodeOf) (old s : Standing) (v w : World) (sits : Sits c old v) (answers : List Answer) (events : List Event) (r : Run (Option Standing)) → ComesWell c.schema sits.shapes r → r ≡ goes (Some s) (later w answers events) → Sits c s (later w [] [])
sits_there c old s v w sits answers events r h e =
    let k : ComesWell c.schema sits.shapes (goes (Some s) (later w answers events)) = subst (ComesWell c.schema sits.shapes) e h in
    record { shapes = sits.shapes; shape = k.0; sane = sits.sane; valid = sits.valid; there = k.1; fits = forgotten c k.0 s.stack s.listings w answers events k.2 }

-- what a step told is well
pub told_well : (c : CodeOf) (s : State) (sits : Sits c (standing s) (held s)) (to : Standing) (w : World) (answers left : List Answer) (events : List Event) → s.serial < 2 ^ 32 → All (IsAnswered c.schema) events
    → step c.instructions (standing s) (later (held s) answers []) ≡ goes (Some to) (later w left events) → Sits c to (later w [] []) × All (IsShapedEvent c.schema) events
told_well c s sits to w answers left events few shaped e =
    let h = well c s sits answers few (subst (λ r. All (IsAnswered c.schema) (events_of r)) (sym e) shaped) in
    let k : ComesWell c.schema sits.shapes (goes (Some to) (later w left events)) = subst (ComesWell c.schema sits.shapes) e h in
    (sits_there c (standing s) to (held s) w sits left events _ h e, (k.2).events)

pub begins_there : (c : CodeOf) (s : State) → Sits c (standing s) (held s) → Reaches c s s
begins_there c s sits = record { count = 0; reached = λ answers events. refl; sits = sits; ids = refl }

-- one instruction at which nothing is needed
pub goes_on : (c : CodeOf) (first old new : State) → first.serial < 2 ^ 32 → Reaches c first old → Steps c.instructions old new None → Reaches c first new
goes_on c first old new few r s = record {
  count = r.count + 1;
  reached = λ answers events. runs_add c.instructions r.count 1 (standing first) (later (held first) answers events)
      ∙ ap (λ x. then_by x (from_there (exec c.instructions 1))) (r.reached answers events)
      ∙ ap (λ x. then_by x (from_there (exec c.instructions 0))) (s.comes answers events);
  sits = (told_well c old r.sits (standing new) (held new) [] [] [] (omega (arith, r.ids, few)) (All-nil (IsAnswered c.schema)) (s.comes [] [])).0;
  ids = omega (arith, r.ids, s.ids);
}

pub less_left : (c : CodeOf) (old new : State) → Sits c (standing old) (held old) → Steps c.instructions old new None → left_to_do c.instructions (standing new) (held new) < left_to_do c.instructions (standing old) (held old)
less_left c old new sits s =
    let h = steps_fall c.schema c.instructions sits.shapes sits.shape (standing old) (held old) sits.valid sits.there in
    subst (Falls c.instructions [] (left_to_do c.instructions (standing old) (held old))) (s.comes [] []) h refl
