-- The record of a run that came to its end.
use Rattle.std.proofs.Common.{sym}
use Rattle.std.specs.Prelude.{ℕ, ◌*◌, ◌<◌, ◌≤◌, List, length}
use Rattle.std.specs.List.{AllByRecursion}
use Rattle.cloud_base.specs.Answer.{answer}
use Rattle.cloud_base.specs.declared.batch.Batch.{Batch}
use Rattle.cloud_base.specs.declared.batch.Tail.{Tail}
use Rattle.cloud_base.specs.declared.end.End.{End}
use Rattle.cloud_base.specs.declared.schema.Schema.{Schema}
use Rattle.batch_history.specs.Batches.{of_client}
use Rattle.batch_history.specs.Flushed.{Flushed, Traced}
use Rattle.batch_history.specs.Right.{AnsweredRight}
use Rattle.batch_history.specs.Sound.{SoundRecord}
use Rattle.typed_program.specs.Trace.{budget}
use Rattle.typed_program.specs.declared.program.Parts.{Parts}
use Rattle.slot_hub.specs.Boxes.{Seen}
use Rattle.packet_codec.specs.Pushes.{Pushed}
use Rattle.packet_codec.specs.Replies.{Replied}
use Rattle.diagram_text.specs.declared.history.Record.{Record}
use Rattle.server_core.specs.Stations.{Holding}
use Rattle.client_runner.specs.Steps.{Ran}
use Rattle.played_record.specs.Laws.{IsMoment}
use Rattle.played_record.specs.Plays.{scheduled}
use Rattle.played_record.specs.Programs.{Played, trace_of}
use Rattle.played_record.specs.Worlds.{World, did, opening}
use Rattle.played_bounds.specs.Few.{acts_in}
use Rattle.session_tails.specs.Left.{AreLeft}
use Rattle.cloud_play.specs.Playings.{EndsAfter, swept}
use Rattle.cloud_play.specs.Runs.{IsLeft, IsRunOf}
use Rattle.cloud_play.proofs.Drawn.{drawable}
use Rattle.cloud_play.proofs.Ended.{have_ended, is_played}
use Rattle.cloud_play.proofs.Leaving.{are_left, as_many_tails, few_of, of_clients}

-- ---- the laws of what is left

abbrev AreSound : Type 0
AreSound = (schema : Schema) (batches : List Batch) (tails : List Tail) (ends : List End) → AreLeft schema batches tails ends → SoundRecord batches tails ends

abbrev AreRight : Type 0
AreRight = (schema : Schema) (batches : List Batch) (tails : List Tail) (ends : List End) → AreLeft schema batches tails ends → AnsweredRight (answer schema) batches tails

abbrev AreFlushed : Type 0
AreFlushed = (schema : Schema) (batches : List Batch) (tails : List Tail) (ends : List End) → AreLeft schema batches tails ends → Flushed batches tails

abbrev AreTraced : Type 0
AreTraced = (p : Parts) (batches : List Batch) (tails : List Tail) (ends : List End) → Played p batches tails ends → Traced (trace_of p) batches tails ends

abbrev DoLittle : Type 0
DoLittle = (p : Parts) (w : World) (c : ℕ) → IsMoment (trace_of p) w → acts_in (did c w) ≤ budget

abbrev StaySmall : Type 0
StaySmall = (n most : ℕ) (batches : List Batch) → AllByRecursion (λ (b : Batch). b.client < n) batches → ((c : ℕ) → c < n → length (of_client c batches) ≤ most) → length batches ≤ n * most

-- ---- the record

module _ {S : Type 0} (p : Parts) (runs : List Ran) (holding : Holding) (hub : Seen S Pushed Replied) (history : Record) where
  pub recorded : AreSound → AreRight → AreFlushed → AreTraced → DoLittle → StaySmall
      → EndsAfter p (scheduled (answer p.schema) (trace_of p) p.schedule opening) runs holding hub → IsLeft runs holding history → IsRunOf p history
  recorded sound right flushed traced little small ended left =
      let batches = history.batches in
      let tails = history.tails in
      let ends = history.ends in
      let from = scheduled (answer p.schema) (trace_of p) p.schedule opening in
      let w = swept (answer p.schema) (trace_of p) (length p.bodies) ended.count from in
      let h = ended.plays in
      let are = are_left p runs holding hub w h batches tails left.batches left.tails ends left.ends (have_ended p from runs holding hub ended) in
      let played = is_played p runs holding hub batches tails ends ended left.batches left.tails left.ends in
      let many = as_many_tails p runs holding hub w h batches tails left.batches left.tails in
      record {
        played = played;
        sound = sound p.schema batches tails ends are;
        right = right p.schema batches tails ends are;
        flushed = flushed p.schema batches tails ends are;
        traced = traced p batches tails ends played;
        clients = sym many;
        drawable = drawable batches tails ends (length p.names) many h.program.few_clients
            (of_clients p runs holding hub w h batches tails left.batches left.tails)
            (few_of p runs holding hub w h batches tails left.batches left.tails (λ (k : ℕ). little p w k h.moment))
            small;
      }
