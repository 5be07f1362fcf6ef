-- The tails of each client in order.
use Rattle.std.proofs.Common.{arith, ◌≡◌, ◌∙◌, ◌+◌, ◌<◌, ◌≤◌, sym, ap, subst, refl, ℕ, List, [], length, drop, get_or}
use Rattle.std.proofs.lemmas.List.{drop_all}
use Rattle.batch_history.specs.Batches.{of_client}
use Rattle.cloud_base.specs.declared.batch.Batch.{Batch}
use Rattle.cloud_base.specs.declared.batch.Tail.{Tail}
use Rattle.record_diagram.specs.Steps.{Drawing, tails_from}
use Rattle.diagram_text.specs.Parts.{tail_draws}
use Rattle.diagram_text.specs.Pens.{drawing_of}
use Rattle.diagram_text.specs.Taken.{Drew}
use Rattle.diagram_text.proofs.Begun.{Began, began_all, began_none, began_tail}
use Rattle.diagram_text.proofs.Few.{few_tail}
use Rattle.diagram_text.proofs.draw.draw_tails.Goals as goal

pub loop-client-init : goal.loop-client-init
loop-client-init g c = record {
  began = began_none g.S.StepSink.took (tails_from c.args.history.now.batches c.args.history.now.tails 0) c.args.sink.now (drawing_of c.args.pen.now);
  few = omega arith;
}

pub loop-client-preserved : goal.loop-client-preserved
loop-client-preserved g c =
    let batches : List Batch = c.args.history.now.batches in
    let tails : List Tail = c.args.history.now.tails in
    let k : ℕ = c.loop-client.client in
    let tail : Tail = c.tail-item.result in
    let at : Drawing = drawing_of c.loop-client.pen in
    let few : length c.as_slice-tail-items.result.now ≡ length tails = ap length c.as_slice-tail-items.ensures in
    let within : k < length tails = omega arith in
    let here : tail ≡ get_or tails k tail = c.tail-item.is ∙ ap (λ (l : List Tail). get_or l k tail) c.as_slice-tail-items.ensures in
    let drew : Drew g.S.StepSink.took (tail_draws (of_client k batches) tail k) c.loop-client.sink at c.draw_tail.new.sink (drawing_of c.draw_tail.new.pen) = c.in_ok-draw_tail.ensures (of_client k batches) (sym (c.joined.ensures ∙ c.requires.agenda.counts k within)) in
    let next : c.draw_tail.new.pen.next ≡ ((tail_draws (of_client k batches) tail k) at).1.next = ap (λ (x : Drawing). x.next) drew.ends in
    record {
      began = began_tail g.S.StepSink.took batches tails k tail c.args.sink.now (drawing_of c.args.pen.now) c.loop-client.sink at c.draw_tail.new.sink (drawing_of c.draw_tail.new.pen) within here c.loop-client.invariant.began drew;
      few = omega (arith, next, few_tail (of_client k batches) tail k at, c.loop-client.invariant.few);
    }

pub returns : goal.returns
returns g c =
    let batches : List Batch = c.args.history.now.batches in
    let tails : List Tail = c.args.history.now.tails in
    let k : ℕ = c.loop-client.client in
    let few : length c.as_slice-tail-items.result.now ≡ length tails = ap length c.as_slice-tail-items.ensures in
    let past : length tails ≤ k = omega arith in
    let out : drop k tails ≡ [] = drop_all k tails past in
    began_all g.S.StepSink.took (tails_from batches tails 0) c.args.sink.now (drawing_of c.args.pen.now) c.loop-client.sink (drawing_of c.loop-client.pen)
    (subst (λ (l : List Tail). Began g.S.StepSink.took (tails_from batches tails 0) (tails_from batches l k) c.args.sink.now (drawing_of c.args.pen.now) c.loop-client.sink (drawing_of c.loop-client.pen)) out c.loop-client.invariant.began)
