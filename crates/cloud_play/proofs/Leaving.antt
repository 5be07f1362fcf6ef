-- What the clients leave of a run that is over.
use Rattle.std.proofs.Common.{◌≡◌, sym, ap, ◌∙◌, subst}
use Rattle.std.specs.Prelude.{ℕ, ◌≤◌, ◌<◌, List, length, map, Some, slice_get}
use Rattle.std.specs.List.{AllByRecursion}
use Rattle.std.proofs.lemmas.List.{length-map}
use mathlib.Core.List.{IsPrefix}
use Rattle.cloud_base.specs.declared.batch.Batch.{Batch}
use Rattle.cloud_base.specs.declared.batch.Tail.{Tail}
use Rattle.cloud_base.specs.declared.end.End.{End}
use Rattle.cloud_base.specs.declared.schema.Schema.{Schema}
use Rattle.batch_history.specs.Batches.{of_client, unjoined}
use Rattle.typed_program.specs.Trace.{budget}
use Rattle.typed_program.specs.declared.program.Parts.{Parts}
use Rattle.slot_hub.specs.Boxes.{Seen}
use Rattle.packet_codec.specs.Pushes.{Pushed}
use Rattle.packet_codec.specs.Replies.{Replied}
use Rattle.packet_codec.specs.Served.{IsServed}
use Rattle.session_core.specs.Standings.{tail_of}
use Rattle.server_core.specs.Stations.{Holding}
use Rattle.client_runner.specs.Steps.{Ran}
use Rattle.played_record.specs.Clients.{own_batches}
use Rattle.played_record.specs.Worlds.{World, did}
use Rattle.played_bounds.specs.Few.{acts_in, rounds_owed}
use Rattle.session_tails.specs.Left.{AreLeft, IsLeftBy}
use Rattle.cloud_play.specs.Playings.{HaveEnded, Plays}
use Rattle.cloud_play.proofs.Lists.{is_there}
use Rattle.cloud_play.proofs.Numbered.{below_all, mapped_from, no_fewer, some_first, the_some}

abbrev tails_left : List Ran → List Tail
tails_left runs = map (λ (r : Ran). tail_of r.stands) runs

module _ {S : Type 0} (p : Parts) (runs : List Ran) (holding : Holding) (hub : Seen S Pushed Replied) (w : World) (h : Plays p runs holding hub w) where
  schema_is : holding.server.schema ≡ p.schema
  schema_is =
      let first = is_there runs 0 (some_first (length p.names) (length runs) h.program.some_client h.count) in
      let run = first.0 in
      let is = first.1 in
      h.server.server.schema ∙ sym (h.of_run 0 run is).schema ∙ sym (h.ran 0 run is).schema ∙ (h.each 0 run is).schema

  module _ (batches : List Batch) (tails : List Tail) (joined : batches ≡ holding.server.joined.list) (left : tails ≡ tails_left runs) where
    same_batches : w.batches ≡ batches
    same_batches = h.at.batches ∙ sym joined

    pub as_many_tails : length tails ≡ length p.names
    as_many_tails = ap length left ∙ length-map runs (λ (r : Ran). tail_of r.stands) ∙ h.count

    pub of_clients : AllByRecursion (λ (b : Batch). b.client < length tails) batches
    of_clients =
        let owned : length holding.server.owns ≡ length tails = h.server.server.clients ∙ h.clients ∙ sym as_many_tails in
        subst (λ (n : ℕ). AllByRecursion (λ (b : Batch). b.client < n) batches) owned
        (subst (AllByRecursion (λ (b : Batch). b.client < length holding.server.owns)) (sym joined) h.serving.clients)

    left_by : HaveEnded runs → (c : ℕ) (tail : Tail) → slice_get tails c ≡ Some tail → IsLeftBy p.schema c batches tail
    left_by all c tail is =
        let from = mapped_from (λ (r : Ran). tail_of r.stands) runs c tail (ap (λ (l : List Tail). slice_get l c) (sym left) ∙ is) in
        let run = from.0 in
        let there = from.1 in
        let tail_is : tail ≡ tail_of run.stands = from.2 in
        let behind = (h.at.clients c run there).behind in
        let ran = h.ran c run there in
        let end = the_some run.ended (all c run there) in
        record {
          stands = run.stands;
          standing = ran.standing;
          of_schema = sym ran.schema ∙ (h.each c run there).schema;
          client = behind.client;
          tail_is = tail_is;
          past = subst (λ (l : List Batch). IsPrefix run.stands.past.list l) same_batches behind.past;
          own = ap (own_batches c batches) tail_is ∙ ap (λ (l : List Batch). own_batches c l (tail_of run.stands)) (sym same_batches) ∙ behind.own;
          closed = ran.closed end.0 end.1;
        }

    pub are_left : (ends : List End) → map Some ends ≡ map (λ (r : Ran). r.ended) runs → HaveEnded runs → AreLeft p.schema batches tails ends
    are_left ends over all = record {
      count = sym (length-map ends Some) ∙ ap length over ∙ length-map runs (λ (r : Ran). r.ended) ∙ h.count ∙ sym as_many_tails;
      clients = of_clients;
      served = subst (λ (s : Schema). IsServed s batches) schema_is (subst (IsServed holding.server.schema) (sym joined) h.serving.served);
      each = left_by all;
    }

    -- each has few batches
    pub few_of : ((c : ℕ) → acts_in (did c w) ≤ budget) → (c : ℕ) → c < length tails → length (of_client c batches) ≤ budget
    few_of acts c less =
        let its = of_client c w.batches in
        subst (λ (l : List Batch). length (of_client c l) ≤ budget) same_batches
        (below_all (length its) (length (own_batches c w.batches (w.client c).tail)) (rounds_owed (w.client c).flush) (acts_in (did c w)) budget
        (no_fewer its (unjoined its (w.client c).tail.sent)) (h.few.rounds c) (acts c))
