-- What a code needs of its client, need by need.
use Rattle.std.specs.Prelude.{◌≡◌, ℕ, List, [], ◌∷◌, ◌++◌, Some}
use mathlib.Core.List.{IsPrefix}
use Rattle.cloud_base.specs.Events.{Outcome, ended, asks, answers_in}
use Rattle.cloud_base.specs.declared.update.Answer.{Answer}
use Rattle.cloud_base.specs.declared.update.Event.{Event}
use Rattle.cloud_base.specs.declared.update.Event.TheVariants as event
use Rattle.typed_program.specs.Does.{World, goes, ends}
use Rattle.plain_vm.specs.declared.instruction.Instruction.{Instruction}
use Rattle.plain_vm.specs.Exec.{Standing, run}
use Rattle.code_machine.specs.declared.need.Need.{Need}

-- run for these answers the code comes somewhere with these events
pub record Reaches (code : List Instruction) (client : ℕ) (answers : List Answer)
    (events : List Event) : Type 0 where
  pub count : ℕ
  pub standing : Standing
  pub world : World
  pub goes_on : run code count client answers ≡ goes (Some standing) world
  pub events_are : world.events ≡ events

-- run for these answers it comes out, with these events
pub record ComesOut (code : List Instruction) (client : ℕ) (answers : List Answer)
    (outcome : Outcome) (events : List Event) : Type 0 where
  pub count : ℕ
  pub comes_out : run code count client answers ≡ ends outcome events

-- these events are its needs so far, in order, where each query got the answer that its event tells
abbrev pub Needed : List Instruction → ℕ → List Event → Type 0
Needed code client events = Reaches code client (answers_in events) events

-- and with this one more
abbrev pub NeedsNext : List Instruction → ℕ → List Event → Event → Type 0
NeedsNext code client events next = Reaches code client (answers_in events) (events ++ next ∷ [])

-- behind these events this is what it needs next: what is to be done, the answer to a query, or
-- nothing any more
abbrev pub IsNext : List Instruction → ℕ → List Event → Need → Type 0
IsNext code client events (Need.Do update) = NeedsNext code client events (event.Do update)
IsNext code client events (Need.Ask query) =
    ComesOut code client (answers_in events) (asks query) events
IsNext code client events (Need.Say value) = NeedsNext code client events (event.Say value)
IsNext code client events Need.Yield = NeedsNext code client events event.Yield
IsNext code client events Need.Flush = NeedsNext code client events event.Flush
IsNext code client events (Need.Ended end) =
    ComesOut code client (answers_in events) (ended end) events

-- where the code comes out so for these answers, with all of these events, the next need is the next
-- event of those, or what comes out behind all of them
abbrev pub IsNextOf : Need → Outcome → List Event → List Event → Type 0
IsNextOf (Need.Do update) outcome whole events = IsPrefix (events ++ event.Do update ∷ []) whole
IsNextOf (Need.Ask query) outcome whole events = (outcome ≡ asks query) × (whole ≡ events)
IsNextOf (Need.Say value) outcome whole events = IsPrefix (events ++ event.Say value ∷ []) whole
IsNextOf Need.Yield outcome whole events = IsPrefix (events ++ event.Yield ∷ []) whole
IsNextOf Need.Flush outcome whole events = IsPrefix (events ++ event.Flush ∷ []) whole
IsNextOf (Need.Ended end) outcome whole events = (outcome ≡ ended end) × (whole ≡ events)
