-- What a machine's state stands for, and what becomes of it.
use Rattle.std.specs.Prelude.{◌≡◌, Bool, true, false, ℕ, suc, ◌-◌, ◌+◌, ⊤, List, [], ◌∷◌, ◌++◌, length, map, Option, None, Some}
use Rattle.cloud_base.specs.Events.{ended, asks}
use Rattle.cloud_base.specs.Log.{created}
use Rattle.cloud_base.specs.declared.key.Key.{Key}
use Rattle.cloud_base.specs.declared.update.Answer.{Answer}
use Rattle.cloud_base.specs.declared.update.Answer.TheVariants as answer
use Rattle.cloud_base.specs.declared.update.Event.{Event}
use Rattle.cloud_base.specs.declared.update.Event.TheVariants as event
use Rattle.cloud_base.specs.declared.update.Query.{Query}
use Rattle.cloud_base.specs.declared.update.Query.TheVariants as query
use Rattle.typed_program.specs.Does.{World, Run, goes, ends, listed}
use Rattle.typed_program.specs.Trace.{key_of, start}
use Rattle.plain_vm.specs.declared.instruction.Instruction.{Instruction}
use Rattle.plain_vm.specs.Exec.{Standing, push_all, act, step, first}
use Rattle.code_machine.specs.declared.need.Need.{Need}
use Rattle.code_machine.specs.declared.state.State.{State}

-- where a state stands
abbrev pub standing : State → Standing
standing s = record { place = s.place; stack = s.stack; listings = s.listings }

-- what a state holds besides, with no answers left and no events
abbrev pub held : State → World
held s = record { client = s.client; turns = s.turns; answers = []; slots = s.slots.items; serial = s.serial; events = [] }

-- with these answers left and these events so far
abbrev pub later : World → List Answer → List Event → World
later w answers events = record w { answers = answers; events = events }

-- so many values were popped, as keys in order
pub record Popped (count : ℕ) (old new : List Answer) (keys : List Key) : Type 0 where
  pub values : List Answer
  pub many : length values ≡ count
  pub were : old ≡ push_all values new
  pub are : keys ≡ map key_of values

-- a run for the answers that are left and the events so far
abbrev pub Going : Type 0
Going = List Answer → List Event → Run (Option Standing)

-- where the query of a listing is answered it is opened, and any other value is pushed
abbrev pub answered : Query → Answer → Standing → Standing
answered (query.All entity) a s = record s { listings = a ∷ s.listings }
answered (query.Entries property) a s = record s { listings = a ∷ s.listings }
answered (query.Get property keys) a s = record s { stack = a ∷ s.stack }
answered (query.Alive id) a s = record s { stack = a ∷ s.stack }

-- an answer costs a turn, and one more for each item that it lists
abbrev pub paid : Answer → World → World
paid a w = record w { turns = w.turns - (1 + listed a) }

-- it goes on from there with one event more
abbrev pub Tells : Going → Standing → World → Event → Type 0
Tells run s w e = (answers : List Answer) (events : List Event) → run answers events ≡ goes (Some s) (later w answers (events ++ e ∷ []))

-- where no answer is left it asks, and else it goes on with the next one
pub record Asks (run : Going) (s : Standing) (w : World) (q : Query) : Type 0 where
  pub waits : (events : List Event) → run [] events ≡ ends (asks q) events
  pub resumes : (a : Answer) (answers : List Answer) (events : List Event) → run (a ∷ answers) events ≡ goes (Some (answered q a s)) (later (paid a w) answers (events ++ event.Ask q a ∷ []))

-- whatever answers are left and events were so far: it goes on from there, where nothing is needed, and
-- else it does what is needed
abbrev pub Comes : Going → Standing → World → Option Need → Type 0
Comes run s w None = (answers : List Answer) (events : List Event) → run answers events ≡ goes (Some s) (later w answers events)
Comes run s w (Some (Need.Do update)) = Tells run s w (event.Do update)
Comes run s w (Some (Need.Ask query)) = Asks run s w query
Comes run s w (Some (Need.Say value)) = Tells run s w (event.Say value)
Comes run s w (Some Need.Yield) = Tells run s w event.Yield
Comes run s w (Some Need.Flush) = Tells run s w event.Flush
Comes run s w (Some (Need.Ended end)) = (answers : List Answer) (events : List Event) → run answers events ≡ ends (ended end) events

abbrev pub is_over : Option Need → Bool
is_over (Some (Need.Ended end)) = true
is_over need = false

-- an end leaves a state as it was
abbrev pub AsEver : Option Need → State → State → Type 0
AsEver (Some (Need.Ended end)) old new = new ≡ old
AsEver need old new = ⊤

-- how many ids were created
abbrev pub ids_of : Option Need → ℕ
ids_of (Some (Need.Do update)) = length (created (update ∷ []))
ids_of need = 0

-- an instruction was done, of which the old state has the place behind it
pub record Acts (instruction : Instruction) (old new : State) (need : Option Need) : Type 0 where
  pub comes : (at : ℕ) → old.place ≡ suc at → Comes (λ answers events. act instruction at old.stack old.listings (later (held old) answers events)) (standing new) (held new) need
  pub as_ever : AsEver need old new
  pub ids : new.serial ≡ old.serial + ids_of need

-- one instruction was done
pub record Steps (code : List Instruction) (old new : State) (need : Option Need) : Type 0 where
  pub comes : Comes (λ answers events. step code (standing old) (later (held old) answers events)) (standing new) (held new) need
  pub as_ever : AsEver need old new
  pub ids : new.serial ≡ old.serial + ids_of need

-- with an answer it goes on
abbrev pub with_answer : Answer → Standing → Standing
with_answer (answer.Ids ids) s = record s { listings = answer.Ids ids ∷ s.listings }
with_answer (answer.Tuples tuples) s = record s { listings = answer.Tuples tuples ∷ s.listings }
with_answer value s = record s { stack = value ∷ s.stack }

pub record Took (a : Answer) (old new : State) : Type 0 where
  pub standing : standing new ≡ with_answer a (standing old)
  pub held : held new ≡ paid a (held old)

-- the state in which a client begins
pub record IsBegun (client : ℕ) (s : State) : Type 0 where
  pub standing : standing s ≡ first
  pub held : held s ≡ start client []
