-- Where a client's run is, and what a step of it does.
use Rattle.std.specs.Prelude.{◌≡◌, ℕ, ◌+◌, ◌≤◌, ◌⊎◌, List, [], ◌∷◌, ◌++◌, length, map}
use Rattle.std.specs.Prelude.{Option, Some, None}
use Rattle.std.specs.Option.{ForSome}
use Rattle.cloud_base.specs.Answer.{answer}
use Rattle.cloud_base.specs.declared.end.End.{End}
use Rattle.cloud_base.specs.declared.update.Answer.{Answer}
use Rattle.cloud_base.specs.declared.update.Event.{Event}
use Rattle.cloud_base.specs.declared.update.Event.TheVariants as event
use Rattle.cloud_base.specs.declared.update.Query.{Query}
use Rattle.batch_history.specs.Batches.{all_events, stretch_of}
use Rattle.plain_vm.specs.Code.{CodeOf}
use Rattle.code_machine.specs.Machine.{IsShapedNeed}
use Rattle.code_machine.specs.declared.need.Need.{Need}
use Rattle.slot_hub.specs.Boxes.{Seen}
use Rattle.packet_codec.specs.Pushes.{Pushed}
use Rattle.packet_codec.specs.Replies.{Replied}
use Rattle.session_core.specs.declared.flushing.Flushing.{Flushing}
use Rattle.session_core.specs.declared.flushing.Flushing.TheVariants.{Closed, Marked, Sent}
use Rattle.session_core.specs.declared.turns.Half.{Half}
use Rattle.session_core.specs.declared.turns.Turn.{Turn}
use Rattle.session_core.specs.declared.turns.Yielded.{Yielded}
use Rattle.session_core.specs.Standings.{Standing, IsStanding, now_of, seen, updates_done}
use Rattle.session_core.specs.Sessions.{noted, noted_at}
use Rattle.session_core.specs.Meetings.{Starves, Turns, Yields}
use Rattle.client_runner.specs.declared.stepped.Stepped.{Stepped}
use Rattle.client_runner.specs.declared.stepped.Stepped.TheVariants as stepped
use Rattle.client_runner.specs.Needs.{Needed, IsNext}
use Rattle.client_runner.specs.Turned.{after_turn}

-- a client's code, its session, and how its run ended, once it is over
pub record Ran : Type 0 where
  pub code : CodeOf
  pub stands : Standing
  pub ended : Option End

-- the events of a session: those of its client's batches, and those since
abbrev pub did : Standing → List Event
did s = all_events (map stretch_of s.own.list ++ now_of s ∷ [])

abbrev pub ends_counted : Option End → ℕ
ends_counted None = 0
ends_counted (Some end) = 1

-- how many needs the client had. An end counts once
abbrev pub needs_had : Ran → ℕ
needs_had r = length (did r.stands) + ends_counted r.ended

-- what a run keeps
pub record IsRan (r : Ran) : Type 0 where
  pub standing : IsStanding r.stands
  pub schema : r.code.schema ≡ r.stands.schema
  -- the events of the session are the needs of the code so far
  pub needed : Needed r.code.instructions r.stands.client (did r.stands)
  -- and it ends where nothing is needed any more
  pub over : ForSome r.ended (λ end.
      IsNext r.code.instructions r.stands.client (did r.stands) (Need.Ended end))
  pub closed : ForSome r.ended (λ end. r.stands.flush ≡ Closed)

-- a session of a client that did nothing
pub record IsUnused (s : Standing) : Type 0 where
  pub own : s.own.list ≡ []
  pub before : s.before ≡ []
  pub rest : s.rest ≡ []

-- at most one update and one round more
pub record LittleMore (old new : Standing) : Type 0 where
  pub updates : length (updates_done new) ≤ length (updates_done old) + 1
  pub rounds : length new.own.list ≤ length old.own.list + 1

module _ {S : Type 0} where
  -- ---- what is done for a need

  -- an event is noted, and the hub isn't met
  pub record Notes (event : Event) (old new : Standing) (out : Stepped)
      (hub hub' : Seen S Pushed Replied) : Type 0 where
    pub goes_on : new ≡ noted event old
    pub unmet : hub' ≡ hub
    pub out_is : out ≡ stepped.Went

  -- a query is answered by the log that the client sees
  pub record Asks (query : Query) (old new : Standing) (out : Stepped)
      (hub hub' : Seen S Pushed Replied) : Type 0 where
    pub given : Answer
    pub right : given ≡ answer old.schema (seen old) query
    pub notes : Notes (event.Ask query given) old new out hub hub'

  pub record YieldsOnce (old new : Standing) (out : Stepped)
      (hub hub' : Seen S Pushed Replied) : Type 0 where
    pub yielded : Yielded
    pub yields : Yields old new yielded hub hub'
    pub out_is : out ≡ stepped.Yields

  -- one turn of a flush: its client waits from then on unless the flush is met
  pub record TurnsOnce (old new : Standing) (out : Stepped)
      (hub hub' : Seen S Pushed Replied) : Type 0 where
    pub turn : Turn
    pub turns : Turns old new turn hub hub'
    pub out_is : out ≡ after_turn turn

  -- nothing
  pub record Stays (end : End) (old new : Standing) (out : Stepped)
      (hub hub' : Seen S Pushed Replied) : Type 0 where
    pub same : new ≡ old
    pub unmet : hub' ≡ hub
    pub out_is : out ≡ stepped.Ended end

  abbrev pub Does : Need → Standing → Standing → Stepped → Seen S Pushed Replied
      → Seen S Pushed Replied → Type 0
  Does (Need.Do update) old new out hub hub' = Notes (event.Do update) old new out hub hub'
  Does (Need.Ask query) old new out hub hub' = Asks query old new out hub hub'
  Does (Need.Say value) old new out hub hub' = Notes (event.Say value) old new out hub hub'
  Does Need.Yield old new out hub hub' = YieldsOnce old new out hub hub'
  Does Need.Flush old new out hub hub' =
      TurnsOnce (noted_at Marked event.Flush old) new out hub hub'
  Does (Need.Ended end) old new out hub hub' = Stays end old new out hub hub'

  -- the next need of the code is taken
  pub record TakesNeed (code : CodeOf) (old new : Standing) (out : Stepped)
      (hub hub' : Seen S Pushed Replied) : Type 0 where
    pub need : Need
    pub is : IsNext code.instructions old.client (did old) need
    pub shaped : IsShapedNeed code.schema need
    pub does : Does need old new out hub hub'

  -- ---- a step

  -- a client whose run is over does nothing, one that waits in a flush turns once, and any other one
  -- takes its next need
  abbrev pub StepsAt : Option End → Flushing → CodeOf → Standing → Standing → Stepped
      → Seen S Pushed Replied → Seen S Pushed Replied → Type 0
  StepsAt (Some end) flush code old new out hub hub' = Stays end old new out hub hub'
  StepsAt None Closed code old new out hub hub' = TakesNeed code old new out hub hub'
  StepsAt None Marked code old new out hub hub' = TurnsOnce old new out hub hub'
  StepsAt None Sent code old new out hub hub' = TurnsOnce old new out hub hub'

  abbrev pub Steps : Ran → Ran → Stepped → Seen S Pushed Replied → Seen S Pushed Replied → Type 0
  Steps old new out hub hub' =
      StepsAt old.ended old.stands.flush old.code old.stands new.stands out hub hub'

  -- ---- want of memory

  -- a meeting with the server that began so, and whose mark was noted so, met it
  pub record StarvesSo (old marked : Standing) (hub hub' : Seen S Pushed Replied) : Type 0 where
    pub new : Standing
    pub half : Half
    pub starves : Starves old marked new half hub hub'

  -- a need that met it. Only a yield and a flush meet the hub
  abbrev pub Lacks : Need → Standing → Seen S Pushed Replied → Seen S Pushed Replied → Type 0
  Lacks (Need.Do update) s hub hub' = hub' ≡ hub
  Lacks (Need.Ask query) s hub hub' = hub' ≡ hub
  Lacks (Need.Say value) s hub hub' = hub' ≡ hub
  Lacks Need.Yield s hub hub' = StarvesSo s (noted event.Yield s) hub hub'
  Lacks Need.Flush s hub hub' = (hub' ≡ hub) ⊎
      StarvesSo (noted_at Marked event.Flush s) (noted_at Marked event.Flush s) hub hub'
  Lacks (Need.Ended end) s hub hub' = ⊥

  pub record LacksNeed (code : CodeOf) (s : Standing)
      (hub hub' : Seen S Pushed Replied) : Type 0 where
    pub need : Need
    pub is : IsNext code.instructions s.client (did s) need
    pub lacks : Lacks need s hub hub'

  abbrev pub LacksAt : Option End → Flushing → CodeOf → Standing → Seen S Pushed Replied
      → Seen S Pushed Replied → Type 0
  LacksAt (Some end) flush code s hub hub' = ⊥
  LacksAt None Closed code s hub hub' = (hub' ≡ hub) ⊎ LacksNeed code s hub hub'
  LacksAt None Marked code s hub hub' = StarvesSo s s hub hub'
  LacksAt None Sent code s hub hub' = StarvesSo s s hub hub'

  -- a step that met it leaves the hub as the session's call for its need did
  abbrev pub LeavesHub : Ran → Seen S Pushed Replied → Seen S Pushed Replied → Type 0
  LeavesHub r hub hub' = LacksAt r.ended r.stands.flush r.code r.stands hub hub'
