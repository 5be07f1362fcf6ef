-- The forks at the start, the batches in order, and what is left.
use Rattle.std.proofs.Common.{arith, ◌≡◌, ◌∙◌, ◌+◌, ◌*◌, ◌++◌, ◌∷◌, [], ◌<◌, ◌≤◌, refl, sym, ap, subst, ℕ, List, length, drop, take, Some}
use Rattle.std.specs.Prelude.{slice_get}
use Rattle.std.proofs.lemmas.List.{drop_all, length-take, take_all}
use Rattle.cloud_base.specs.declared.batch.Batch.{Batch}
use Rattle.cloud_base.specs.declared.batch.Tail.{Tail}
use Rattle.record_diagram.specs.Steps.{Drawing, Draws, batches_from, forks_at, tails_from, ◌then◌}
use Rattle.diagram_text.specs.Agendas.{IsAgenda}
use Rattle.diagram_text.specs.Pens.{drawing_of}
use Rattle.diagram_text.specs.Taken.{Drew}
use Rattle.diagram_text.proofs.Begun.{Began, began_all, began_batch, began_none}
use Rattle.diagram_text.proofs.Drawings.{drew_then}
use Rattle.diagram_text.proofs.Few.{IsFew, at_most, few_first, few_further}
use Rattle.diagram_text.proofs.draw.draw.Goals as goal

pub loop-place-init : goal.loop-place-init
loop-place-init g c =
    let batches : List Batch = c.args.history.now.batches in
    let tails : List Tail = c.args.history.now.tails in
    record {
      began = began_none g.S.StepSink.took (batches_from batches tails [] batches) c.draw_forks.new.sink (drawing_of c.draw_forks.new.pen);
      agenda = c.new-agenda.ensures;
      few = subst (IsFew batches tails []) (sym (ap (λ (x : Drawing). x.next) c.in_ok-draw_forks.ensures.ends ∙ ap (λ (x : Drawing). ((forks_at batches [] 0 tails 0) x).1.next) c.new-pen.ensures)) (few_first batches tails);
    }

pub loop-place-preserved : goal.loop-place-preserved
loop-place-preserved g c =
    let batches : List Batch = c.args.history.now.batches in
    let tails : List Tail = c.args.history.now.tails in
    let k : ℕ = c.loop-place.place in
    let within : k < length batches = omega arith in
    record {
      began = began_batch g.S.StepSink.took batches tails k c.draw_forks.new.sink (drawing_of c.draw_forks.new.pen) c.loop-place.sink (drawing_of c.loop-place.pen) c.draw_batch.new.sink (drawing_of c.draw_batch.new.pen) within c.loop-place.invariant.began c.in_ok-draw_batch.ensures.drew;
      agenda = c.in_ok-draw_batch.ensures.agenda;
      few = few_further batches tails k c.draw_batch.new.pen.next (drawing_of c.loop-place.pen) within c.loop-place.invariant.few (λ b there. ap (λ (x : Drawing). x.next) (c.in_ok-draw_batch.ensures.drew b there).ends);
    }

pub draw_batch-requires : goal.draw_batch-requires
draw_batch-requires g c =
    let batches : List Batch = c.args.history.now.batches in
    let tails : List Tail = c.args.history.now.tails in
    let k : ℕ = c.loop-place.place in
    record {
      drawable = c.requires;
      within = omega arith;
      agenda = c.loop-place.invariant.agenda;
      room = omega (arith, at_most batches tails (take k batches) c.loop-place.pen.next c.loop-place.invariant.few, length-take k batches, c.requires.few_batches, c.requires.few_clients);
    }

pub draw_tails-requires : goal.draw_tails-requires
draw_tails-requires g c =
    let batches : List Batch = c.args.history.now.batches in
    let tails : List Tail = c.args.history.now.tails in
    let k : ℕ = c.loop-place.place in
    let past : length batches ≤ k = omega arith in
    record {
      drawable = c.requires;
      agenda = subst (λ (l : List Batch). IsAgenda batches tails l c.loop-place.agenda) (take_all k batches past) c.loop-place.invariant.agenda;
      room = omega (arith, at_most batches tails (take k batches) c.loop-place.pen.next c.loop-place.invariant.few, length-take k batches, c.requires.few_batches, c.requires.few_clients);
    }

pub returns : goal.returns
returns g c first was =
    let took = g.S.StepSink.took in
    let batches : List Batch = c.args.history.now.batches in
    let tails : List Tail = c.args.history.now.tails in
    let k : ℕ = c.loop-place.place in
    let past : length batches ≤ k = omega arith in
    let out : drop k batches ≡ [] = drop_all k batches past in
    let start : Drawing = drawing_of c.new-pen.result in
    let forked : Drawing = drawing_of c.draw_forks.new.pen in
    let joined : Drawing = drawing_of c.loop-place.pen in
    let last : Drawing = drawing_of c.draw_tails.new.pen in
    let opens : Draws = forks_at batches [] 0 tails 0 in
    let whole : Draws = batches_from batches tails [] batches in
    let left : Draws = tails_from batches tails 0 in
    let middle : Drew took whole c.draw_forks.new.sink forked c.loop-place.sink joined = began_all took whole c.draw_forks.new.sink forked c.loop-place.sink joined
    (subst (λ (l : List Batch). Began took whole (batches_from batches tails (take k batches) l) c.draw_forks.new.sink forked c.loop-place.sink joined) out c.loop-place.invariant.began) in
    let all : Drew took (opens then whole then left) c.args.sink.now start c.draw_tails.new.sink last =
    drew_then took (opens then whole) left c.args.sink.now start c.loop-place.sink joined c.draw_tails.new.sink last
    (drew_then took opens whole c.args.sink.now start c.draw_forks.new.sink forked c.loop-place.sink joined c.in_ok-draw_forks.ensures middle) c.in_ok-draw_tails.ensures in
    let taken = all.takes first [] (record { has = was; next = ap (λ (x : Drawing). x.next) c.new-pen.ensures }) in
    subst (λ (x : Drawing). took first ((opens then whole then left) x).0 c.draw_tails.new.sink) c.new-pen.ensures taken.has
