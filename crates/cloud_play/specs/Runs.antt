-- The record of a program's run.
use Rattle.std.specs.Prelude.{◌≡◌, List, length, map, Some}
use Rattle.cloud_base.specs.Answer.{answer}
use Rattle.batch_history.specs.Flushed.{Flushed, Traced}
use Rattle.batch_history.specs.Right.{AnsweredRight}
use Rattle.batch_history.specs.Sound.{SoundRecord}
use Rattle.diagram_text.specs.Drawable.{IsDrawable}
use Rattle.diagram_text.specs.declared.history.Record.{Record}
use Rattle.typed_program.specs.declared.program.Parts.{Parts}
use Rattle.session_core.specs.Standings.{tail_of}
use Rattle.server_core.specs.Stations.{Holding}
use Rattle.client_runner.specs.Steps.{Ran}
use Rattle.played_record.specs.Programs.{Played, trace_of}

-- it is the record of the program's played run, and so sound, answered right, flushed and traced
pub record IsRunOf (p : Parts) (history : Record) : Type 0 where
  pub played : Played p history.batches history.tails history.ends
  pub sound : SoundRecord history.batches history.tails history.ends
  pub right : AnsweredRight (answer p.schema) history.batches history.tails
  pub flushed : Flushed history.batches history.tails
  pub traced : Traced (trace_of p) history.batches history.tails history.ends
  -- and it can be drawn
  pub clients : length p.names ≡ length history.tails
  pub drawable : IsDrawable history

-- what is left of a run that is over: the server's batches, and each client's tail and end
pub record IsLeft (runs : List Ran) (holding : Holding) (history : Record) : Type 0 where
  pub batches : history.batches ≡ holding.server.joined.list
  pub tails : history.tails ≡ map (λ (r : Ran). tail_of r.stands) runs
  pub ends : map Some history.ends ≡ map (λ (r : Ran). r.ended) runs
