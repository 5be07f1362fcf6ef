-- What a run that came to its end played.
use Rattle.std.proofs.Common.{◌≡◌, refl, sym, ap, ◌∙◌}
use Rattle.std.specs.Prelude.{ℕ, zero, suc, List, length, map, Some, is_some, slice_get, true}
use Rattle.std.specs.List.{list_all}
use Rattle.cloud_base.specs.Answer.{answer}
use Rattle.cloud_base.specs.Events.{Outcome}
use Rattle.cloud_base.specs.declared.batch.Batch.{Batch}
use Rattle.cloud_base.specs.declared.batch.Tail.{Tail}
use Rattle.cloud_base.specs.declared.end.End.{End}
use Rattle.cloud_base.specs.declared.schedule.ScheduleItem.{ScheduleItem}
use Rattle.cloud_base.specs.declared.update.Answer.{Answer}
use Rattle.cloud_base.specs.declared.update.Event.{Event}
use Rattle.cloud_base.specs.declared.update.Query.{Query}
use Rattle.cloud_base.specs.declared.update.Update.{Update}
use Rattle.typed_program.specs.declared.program.Parts.{Parts}
use Rattle.slot_hub.specs.Boxes.{Seen}
use Rattle.packet_codec.specs.Pushes.{Pushed}
use Rattle.packet_codec.specs.Replies.{Replied}
use Rattle.session_core.specs.Standings.{tail_of}
use Rattle.server_core.specs.Stations.{Holding}
use Rattle.client_runner.specs.Steps.{Ran}
use Rattle.played_record.specs.Clients.{Client}
use Rattle.played_record.specs.Plays.{after_sweeps, all_ended, ends_of, scheduled, sweep, tails_of}
use Rattle.played_record.specs.Programs.{Played, trace_of}
use Rattle.played_record.specs.Worlds.{World, opening}
use Rattle.cloud_play.specs.Playings.{EndsAfter, HaveEnded, Plays, swept}
use Rattle.cloud_play.proofs.Numbered.{by_number, each_some}

-- sweeps behind a schedule
after_is : (answers : List Update → Query → Answer) (trace : ℕ → List Answer → List Event × Outcome) (schedule : List ScheduleItem) (n count : ℕ) → swept answers trace n count (scheduled answers trace schedule opening) ≡ after_sweeps answers trace schedule n count
after_is answers trace schedule n zero = refl
after_is answers trace schedule n (suc count) = ap (sweep answers trace n) (after_is answers trace schedule n count)

module _ {S : Type 0} (p : Parts) (runs : List Ran) (holding : Holding) (hub : Seen S Pushed Replied) (w : World) where
  as_many : Plays p runs holding hub w → length runs ≡ length p.bodies
  as_many h = h.count ∙ sym h.program.as_many_bodies

  tails_at : Plays p runs holding hub w → map (λ (r : Ran). tail_of r.stands) runs ≡ tails_of (length p.bodies) w
  tails_at h = by_number (λ (r : Ran). tail_of r.stands) (λ (c : ℕ). (w.client c).tail) runs (length p.bodies) (as_many h)
      (λ (k : ℕ) (run : Ran) (is : slice_get runs k ≡ Some run). ap (λ (x : Client). x.tail) (h.at.clients k run is).part)

  ends_at : Plays p runs holding hub w → map (λ (r : Ran). r.ended) runs ≡ ends_of (length p.bodies) w
  ends_at h = by_number (λ (r : Ran). r.ended) (λ (c : ℕ). (w.client c).end) runs (length p.bodies) (as_many h)
      (λ (k : ℕ) (run : Ran) (is : slice_get runs k ≡ Some run). ap (λ (x : Client). x.end) (h.at.clients k run is).part)

  pub all_over : Plays p runs holding hub w → all_ended (length p.bodies) w ≡ true → HaveEnded runs
  all_over h e = each_some (λ (r : Ran). r.ended) runs (ap (list_all is_some) (ends_at h) ∙ e)

module _ {S : Type 0} (p : Parts) (runs : List Ran) (holding : Holding) (hub : Seen S Pushed Replied) (batches : List Batch) (tails : List Tail) (ends : List End) where
  -- the record is that of the played run
  pub is_played : EndsAfter p (scheduled (answer p.schema) (trace_of p) p.schedule opening) runs holding hub → batches ≡ holding.server.joined.list
      → tails ≡ map (λ (r : Ran). tail_of r.stands) runs → map Some ends ≡ map (λ (r : Ran). r.ended) runs → Played p batches tails ends
  is_played h joined left over =
      let n = length p.bodies in
      let w = swept (answer p.schema) (trace_of p) n h.count (scheduled (answer p.schema) (trace_of p) p.schedule opening) in
      let same = after_is (answer p.schema) (trace_of p) p.schedule n h.count in
      record {
        count = h.count;
        least = λ fewer less. ap (all_ended n) (sym (after_is (answer p.schema) (trace_of p) p.schedule n fewer)) ∙ h.least fewer less;
        batches_are = joined ∙ sym h.plays.at.batches ∙ ap (λ (x : World). x.batches) same;
        tails_are = left ∙ tails_at p runs holding hub w h.plays ∙ ap (tails_of n) same;
        ends_are = over ∙ ends_at p runs holding hub w h.plays ∙ ap (ends_of n) same;
      }

-- all of its clients have ended
pub have_ended : {S : Type 0} (p : Parts) (from : World) (runs : List Ran) (holding : Holding) (hub : Seen S Pushed Replied) → EndsAfter p from runs holding hub → HaveEnded runs
have_ended p from runs holding hub h = all_over p runs holding hub (swept (answer p.schema) (trace_of p) (length p.bodies) h.count from) h.plays h.all
