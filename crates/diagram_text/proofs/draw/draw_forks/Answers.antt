-- The forks of each client in order.
use Rattle.std.proofs.Common.{arith, ◌≡◌, ◌∙◌, ◌+◌, ◌<◌, ◌≤◌, ap, subst, ℕ, Bool, List, [], length, drop, take}
use Rattle.std.proofs.lemmas.List.{drop_all}
use Rattle.cloud_base.specs.declared.batch.Batch.{Batch}
use Rattle.cloud_base.specs.declared.batch.Tail.{Tail}
use Rattle.record_diagram.specs.Steps.{Drawing, fork_if, forks_at, is_zero, same_base}
use Rattle.diagram_text.specs.Agendas.{base_at, count_at}
use Rattle.diagram_text.specs.Pens.{drawing_of}
use Rattle.diagram_text.proofs.Begun.{Began, began_all, began_fork, began_none}
use Rattle.diagram_text.proofs.Few.{few_forks}
use Rattle.diagram_text.proofs.draw.draw_forks.Goals as goal

pub loop-client-init : goal.loop-client-init
loop-client-init g c =
    let batches : List Batch = c.args.history.now.batches in
    record {
      began = began_none g.S.StepSink.took (forks_at batches (take c.args.joined batches) c.args.joined c.args.history.now.tails 0) c.args.sink.now (drawing_of c.args.pen.now);
      few = omega arith;
    }

pub loop-client-preserved : goal.loop-client-preserved
loop-client-preserved g c =
    let batches : List Batch = c.args.history.now.batches in
    let tails : List Tail = c.args.history.now.tails in
    let joined : List Batch = take c.args.joined batches in
    let k : ℕ = c.loop-client.client in
    let at : Drawing = drawing_of c.loop-client.pen in
    let is_due : Bool = same_base c.args.joined (base_at c.args.agenda.now k) in
    let opening : Bool = is_zero (count_at c.args.agenda.now k) in
    let within : k < length tails = omega arith in
    let next : c.draw_fork.new.pen.next ≡ ((fork_if is_due k opening) at).1.next = ap (λ (x : Drawing). x.next) c.in_ok-draw_fork.ensures.ends in
    record {
      began = began_fork g.S.StepSink.took batches joined c.args.joined k tails c.args.agenda.now c.args.sink.now (drawing_of c.args.pen.now) c.loop-client.sink at c.draw_fork.new.sink (drawing_of c.draw_fork.new.pen) within c.requires.agenda c.loop-client.invariant.began c.in_ok-draw_fork.ensures;
      few = omega (arith, next, few_forks is_due k opening at, c.loop-client.invariant.few);
    }

pub draw_fork-requires : goal.draw_fork-requires
draw_fork-requires g c = record {
  client = omega (arith, c.requires.drawable.few_clients);
  room = omega (arith, c.loop-client.invariant.few, c.requires.room);
}

pub returns : goal.returns
returns g c =
    let batches : List Batch = c.args.history.now.batches in
    let tails : List Tail = c.args.history.now.tails in
    let joined : List Batch = take c.args.joined batches in
    let k : ℕ = c.loop-client.client in
    let past : length tails ≤ k = omega arith in
    let out : drop k tails ≡ [] = drop_all k tails past in
    began_all g.S.StepSink.took (forks_at batches joined c.args.joined tails 0) c.args.sink.now (drawing_of c.args.pen.now) c.loop-client.sink (drawing_of c.loop-client.pen)
    (subst (λ (l : List Tail). Began g.S.StepSink.took (forks_at batches joined c.args.joined tails 0) (forks_at batches joined c.args.joined l k) c.args.sink.now (drawing_of c.args.pen.now) c.loop-client.sink (drawing_of c.loop-client.pen)) out c.loop-client.invariant.began)
