-- A run of a program at one moment.
use Rattle.std.specs.Prelude.{◌≡◌, ℕ, zero, suc, ◌<◌, List, ◌∷◌, length, map, Some, is_some, slice_get, All, true, false}
use Rattle.cloud_base.specs.Answer.{answer}
use Rattle.cloud_base.specs.Events.{Outcome}
use Rattle.cloud_base.specs.declared.update.Answer.{Answer}
use Rattle.cloud_base.specs.declared.update.Event.{Event}
use Rattle.cloud_base.specs.declared.update.Query.{Query}
use Rattle.cloud_base.specs.declared.update.Update.{Update}
use Rattle.typed_program.specs.Programs.{IsProgram}
use Rattle.typed_program.specs.declared.program.Parts.{Parts}
use Rattle.code_gen.specs.Compiled.{Compiled}
use Rattle.slot_hub.specs.Boxes.{Seen}
use Rattle.slot_hub.specs.Runs.{Named, clients_of}
use Rattle.packet_codec.specs.Pushes.{Pushed}
use Rattle.packet_codec.specs.Replies.{Replied}
use Rattle.session_core.specs.Standings.{is_of_run}
use Rattle.server_core.specs.Servers.{IsServing, Serving}
use Rattle.server_core.specs.Stations.{Holding, IsHolding, IsHoldingOf}
use Rattle.typed_program.specs.Shapes.{IsAnswered}
use Rattle.client_runner.specs.Steps.{IsRan, Ran, did}
use Rattle.played_record.specs.Laws.{IsMoment}
use Rattle.played_record.specs.Plays.{all_ended, sweep}
use Rattle.played_record.specs.Programs.{trace_of}
use Rattle.played_record.specs.Worlds.{World}
use Rattle.played_bounds.specs.Few.{HasFewRounds}
use Rattle.played_moments.specs.Moments.{IsMomentOf}

-- the clients of a program, the server and the hub are where a played run of the program says
pub record Plays {S : Type 0} (p : Parts) (runs : List Ran) (holding : Holding) (hub : Seen S Pushed Replied) (w : World) : Type 0 where
  pub program : IsProgram p
  pub at : IsMomentOf runs holding hub w
  pub moment : IsMoment (trace_of p) w
  pub few : HasFewRounds w
  -- there is a runner of its code for each client
  pub count : length runs ≡ length p.names
  pub clients : clients_of hub.run ≡ length p.names
  pub each : (c : ℕ) (run : Ran) → slice_get runs c ≡ Some run → Compiled p c run.code
  -- whose queries were answered in shape
  pub answered : (c : ℕ) (run : Ran) → slice_get runs c ≡ Some run → All (IsAnswered p.schema) (did run.stands)
  -- and all are of one run, as the server and what it holds
  pub ran : (c : ℕ) (run : Ran) → slice_get runs c ≡ Some run → IsRan run
  pub of_run : (c : ℕ) (run : Ran) → slice_get runs c ≡ Some run → is_of_run run.stands hub.run
  pub server : IsHoldingOf holding hub.run
  pub serving : IsServing holding.server
  pub holds : IsHolding holding

-- for some program and some played run of it
pub record IsPlaying {S : Type 0} (runs : List Ran) (holding : Holding) (hub : Seen S Pushed Replied) : Type 0 where
  pub program : Parts
  pub world : World
  pub plays : Plays program runs holding hub world

-- the name of a run: the chronicles of its server and of its clients
abbrev pub named_of : Serving → List Ran → Named
named_of server runs = record { schema = server.schema; tables = server.joined.chronicle ∷ map (λ (r : Ran). r.stands.own.chronicle) runs }

abbrev pub HaveEnded : List Ran → Type 0
HaveEnded runs = (c : ℕ) (run : Ran) → slice_get runs c ≡ Some run → is_some run.ended ≡ true

-- so many sweeps of the first n clients
abbrev pub swept : (List Update → Query → Answer) → (ℕ → List Answer → List Event × Outcome) → ℕ → ℕ → World → World
swept answers trace n zero w = w
swept answers trace n (suc count) w = sweep answers trace n (swept answers trace n count w)

-- the run of a program came to its end: after the least number of sweeps behind which all have ended
pub record EndsAfter {S : Type 0} (p : Parts) (from : World) (runs : List Ran) (holding : Holding) (hub : Seen S Pushed Replied) : Type 0 where
  pub count : ℕ
  pub plays : Plays p runs holding hub (swept (answer p.schema) (trace_of p) (length p.bodies) count from)
  pub all : all_ended (length p.bodies) (swept (answer p.schema) (trace_of p) (length p.bodies) count from) ≡ true
  pub least : (fewer : ℕ) → fewer < count → all_ended (length p.bodies) (swept (answer p.schema) (trace_of p) (length p.bodies) fewer from) ≡ false
