-- A machine of a client that got some answers, and did and asked some things so far.
use Rattle.std.specs.Prelude.{◌≡◌, ℕ, ⊤, List, [], ◌∷◌, ◌++◌, length, Option, None, Some}
use Rattle.cloud_base.specs.Events.{ended, asks, updates_of}
use Rattle.cloud_base.specs.Log.{created}
use Rattle.cloud_base.specs.Shaped.{IsShaped, IsShapedQuery, IsShapedAnswer, IsSaid}
use Rattle.cloud_base.specs.declared.end.End.{End}
use Rattle.cloud_base.specs.declared.schema.Schema.{Schema}
use Rattle.cloud_base.specs.declared.update.Answer.{Answer}
use Rattle.cloud_base.specs.declared.update.Event.{Event}
use Rattle.cloud_base.specs.declared.update.Event.TheVariants as event
use Rattle.cloud_base.specs.declared.update.Query.{Query}
use Rattle.typed_program.specs.Does.{World, goes, ends}
use Rattle.typed_program.specs.Shapes.{IsShapedOutcome}
use Rattle.plain_vm.specs.Exec.{Standing, run}
use Rattle.code_machine.specs.declared.machine.Machine.{Machine}
use Rattle.code_machine.specs.declared.need.Need.{Need}
use Rattle.code_machine.specs.Runs.{Sits}
use Rattle.code_machine.specs.Steps.{standing, held, later, with_answer, paid}

-- how many ids it created
abbrev pub ids_created : Machine → ℕ
ids_created m = m.state.serial

abbrev pub standing_with : Option Answer → Standing → Standing
standing_with None s = s
standing_with (Some a) s = with_answer a s

abbrev pub held_with : Option Answer → World → World
held_with None w = w
held_with (Some a) w = paid a w

-- where it stands, and what it holds, with the answer that it was given
abbrev pub standing_of : Machine → Standing
standing_of m = standing_with m.given (standing m.state)

abbrev pub held_of : Machine → World
held_of m = held_with m.given (held m.state)

-- it went on with the answer that it was given
pub record Settled (old new : Machine) : Type 0 where
  pub given : new.given ≡ None
  pub standing : standing new.state ≡ standing_of old
  pub held : held new.state ≡ held_of old

-- Its code, run for these answers, comes to where it stands, with these events; and whatever answers are
-- given then, it goes on from there.
pub record Stands (m : Machine) (client : ℕ) (answers : List Answer) (events : List Event) : Type 0 where
  pub count : ℕ
  pub reached : (more : List Answer) → run m.code.now.instructions count client (answers ++ more) ≡ goes (Some (standing_of m)) (later (held_of m) more events)
  pub sits : Sits m.code.now (standing_of m) (held_of m)
  pub ids : ids_created m ≡ length (created (updates_of events))

-- Its code, run for these answers, waits at the query. Given an answer in shape, it stands there with that
-- answer.
pub record Waits (m : Machine) (query : Query) (client : ℕ) (answers : List Answer) (events : List Event) : Type 0 where
  pub count : ℕ
  pub waits : run m.code.now.instructions count client answers ≡ ends (asks query) events
  pub resumes : (a : Answer) → IsShapedAnswer m.code.now.schema query a → Stands (record m { given = Some a }) client (answers ++ a ∷ []) (events ++ event.Ask query a ∷ [])

-- Its code, run for these answers, ends, and the machine stays there.
pub record Ends (m : Machine) (end : End) (client : ℕ) (answers : List Answer) (events : List Event) : Type 0 where
  pub count : ℕ
  pub ends : run m.code.now.instructions count client answers ≡ ends (ended end) events
  pub stands : Stands m client answers events

-- what the machine needs after these events: the next event of its run, an answer, or nothing any more
abbrev pub IsNeeded : Need → Machine → ℕ → List Answer → List Event → Type 0
IsNeeded (Need.Do update) m client answers events = Stands m client answers (events ++ event.Do update ∷ [])
IsNeeded (Need.Ask query) m client answers events = Waits m query client answers events
IsNeeded (Need.Say value) m client answers events = Stands m client answers (events ++ event.Say value ∷ [])
IsNeeded Need.Yield m client answers events = Stands m client answers (events ++ event.Yield ∷ [])
IsNeeded Need.Flush m client answers events = Stands m client answers (events ++ event.Flush ∷ [])
IsNeeded (Need.Ended end) m client answers events = Ends m end client answers events

-- a need of the schema's shape
abbrev pub IsShapedNeed : Schema → Need → Type 0
IsShapedNeed schema (Need.Do update) = IsShaped schema update
IsShapedNeed schema (Need.Ask query) = IsShapedQuery schema query
IsShapedNeed schema (Need.Say value) = IsSaid value
IsShapedNeed schema Need.Yield = ⊤
IsShapedNeed schema Need.Flush = ⊤
IsShapedNeed schema (Need.Ended end) = IsShapedOutcome schema (ended end)

-- it was begun, and its queries were answered in shape
pub record CanGoOn (m : Machine) : Type 0 where
  pub client : ℕ
  pub answers : List Answer
  pub events : List Event
  pub stands : Stands m client answers events

-- it waits at a query, and the answer is of the shape that is asked for
pub record CanAnswer (m : Machine) (a : Answer) : Type 0 where
  pub query : Query
  pub client : ℕ
  pub answers : List Answer
  pub events : List Event
  pub waits : Waits m query client answers events
  pub shaped : IsShapedAnswer m.code.now.schema query a
