-- Each client's opening stretch.
use Rattle.std.proofs.Common.{arith, ◌≡◌, ◌∙◌, ◌<◌, refl, sym, ap, ℕ, List, [], length, length-set, Some}
use Rattle.std.specs.Prelude.{slice_get}
use Rattle.std.proofs.lemmas.Option.{slice_get_read, slice_get_within}
use Rattle.cloud_base.specs.declared.batch.Batch.{Batch}
use Rattle.cloud_base.specs.declared.batch.Tail.{Tail}
use Rattle.record_diagram.specs.Steps.{next_base}
use Rattle.diagram_text.proofs.Upcoming.{bases_more, zeros_at}
use Rattle.diagram_text.proofs.agenda.Agenda.new.Goals as goal

pub loop-client-init : goal.loop-client-init
loop-client-init c = record { eight = refl; counts = λ k. zeros_at 8 k; bases = λ k tail below there. absurd (omega arith) }

pub loop-client-preserved : goal.loop-client-preserved
loop-client-preserved c =
    let batches : List Batch = c.args.history.now.batches in
    let tails : List Tail = c.args.history.now.tails in
    let i : ℕ = c.loop-client.client in
    let tail : Tail = c.tail-item.result in
    let all : c.as_slice-tail-items.result.now ≡ tails = c.as_slice-tail-items.ensures in
    let few : length c.as_slice-tail-items.result.now ≡ length tails = ap length all in
    let within : i < length c.loop-client.agenda.bases = omega (arith, c.requires.few_clients, c.loop-client.invariant.eight) in
    let here : slice_get tails i ≡ Some tail = sym (ap (λ (l : List Tail). slice_get l i) all) ∙ slice_get_read c.as_slice-tail-items.result.now (length c.as_slice-tail-items.result.now) i tail refl c.loop-client-test.true c.tail-item.is in
    let is : c.next_base.result ≡ next_base batches [] tail i = c.next_base.ensures batches [] (sym c.as_slice-batches.ensures) refl in
    record {
      eight = length-set c.loop-client.agenda.bases i c.next_base.result ∙ c.loop-client.invariant.eight;
      counts = c.loop-client.invariant.counts;
      bases = bases_more batches tails c.loop-client.agenda.bases i c.next_base.result tail within here is c.loop-client.invariant.bases;
    }

pub returns : goal.returns
returns c = record {
  counts = λ k below. c.loop-client.invariant.counts k;
  bases = λ k tail there.
      let below : k < length c.args.history.now.tails = slice_get_within c.args.history.now.tails k tail there in
      let few : length c.as_slice-tail-items.result.now ≡ length c.args.history.now.tails = ap length c.as_slice-tail-items.ensures in
      c.loop-client.invariant.bases k tail (omega arith) there;
}
