-- A batch runs and is pushed, and then come the forks.
use Rattle.std.proofs.Common.{arith, ◌≡◌, ◌∙◌, ◌+◌, ◌++◌, ◌∷◌, [], ◌<◌, sym, ap, subst, ℕ, Bool, List, length, take, Some, get_or}
use Rattle.std.specs.Prelude.{slice_get}
use Rattle.std.proofs.lemmas.List.{length-take-le, take_more}
use Rattle.std.proofs.lemmas.Option.{get_or_from_slice_get}
use Rattle.batch_history.specs.Batches.{of_client, stretch_of}
use Rattle.cloud_base.specs.declared.batch.Batch.{Batch}
use Rattle.cloud_base.specs.declared.batch.Tail.{Tail}
use Rattle.record_diagram.specs.Steps.{Drawing, Draws, forks_at, is_zero, push, run_stretch, ◌then◌}
use Rattle.diagram_text.specs.Agendas.{count_at}
use Rattle.diagram_text.specs.Parts.{batch_draws}
use Rattle.diagram_text.specs.Pens.{drawing_of}
use Rattle.diagram_text.specs.Taken.{Drew}
use Rattle.diagram_text.proofs.Drawings.{drew_then}
use Rattle.diagram_text.proofs.Upcoming.{client_at}
use Rattle.diagram_text.proofs.draw.draw_batch.Goals as goal

pub returns-clause-drew : goal.returns-clause-drew
returns-clause-drew g c b there =
    let took = g.S.StepSink.took in
    let batches : List Batch = c.args.history.now.batches in
    let tails : List Tail = c.args.history.now.tails in
    let place : ℕ = c.args.place in
    let joined : List Batch = take place batches in
    let read : Batch = c.index-as_slice-place.result in
    let same : read ≡ b = c.index-as_slice-place.is ∙ ap (λ (l : List Batch). get_or l place read) c.as_slice.ensures ∙ get_or_from_slice_get batches place b read there in
    let mine : read ≡ b = same in
    let below : b.client < length tails = client_at (length tails) batches place b c.requires.drawable.clients c.requires.within (sym (get_or_from_slice_get batches place b b there)) in
    let longer : take (place + 1) batches ≡ joined ++ b ∷ [] = take_more batches place b c.requires.within ∙ ap (λ (x : Batch). joined ++ x ∷ []) (get_or_from_slice_get batches place b b there) in
    let count : length joined ≡ place = length-take-le place batches (omega (arith, c.requires.within)) in
    let opening : Bool = is_zero (length (of_client b.client joined)) in
    let d : Drawing = drawing_of c.args.pen.now in
    let ran : Drawing = drawing_of c.run_batch.new.self in
    let pushed : Drawing = drawing_of c.push.new.self in
    let last : Drawing = drawing_of c.draw_forks.new.pen in
    let run : Draws = run_stretch b.client opening (stretch_of b) in
    let forks : Draws = forks_at batches (joined ++ b ∷ []) (length joined + 1) tails 0 in
    let x : Batch = read in
    let opens : c.is_opening-is_opening.result ≡ opening = c.is_opening-is_opening.ensures ∙ ap (λ (y : Batch). is_zero (count_at c.args.agenda.now y.client)) mine ∙ ap is_zero (c.requires.agenda.counts b.client below) in
    let same_run : run_stretch x.client c.is_opening-is_opening.result (stretch_of x) ≡ run = ap (λ (o : Bool). run_stretch x.client o (stretch_of x)) opens ∙ ap (λ (y : Batch). run_stretch y.client opening (stretch_of y)) mine in
    let same_forks : forks_at batches (take (place + 1) batches) (place + 1) tails 0 ≡ forks = ap (λ (l : List Batch). forks_at batches l (place + 1) tails 0) longer ∙ ap (λ (n : ℕ). forks_at batches (joined ++ b ∷ []) (n + 1) tails 0) (sym count) in
    let first : Drew took run c.args.sink.now d c.run_batch.new.sink ran = subst (λ (f : Draws). Drew took f c.args.sink.now d c.run_batch.new.sink ran) same_run c.in_ok-run_batch.ensures in
    let second : Drew took (push b.client) c.run_batch.new.sink ran c.push.new.sink pushed = subst (λ (y : Batch). Drew took (push y.client) c.run_batch.new.sink ran c.push.new.sink pushed) mine c.in_ok-push.ensures in
    let third : Drew took forks c.push.new.sink pushed c.draw_forks.new.sink last = subst (λ (f : Draws). Drew took f c.push.new.sink pushed c.draw_forks.new.sink last) same_forks c.in_ok-draw_forks.ensures in
    drew_then took (run then push b.client) forks c.args.sink.now d c.push.new.sink pushed c.draw_forks.new.sink last
    (drew_then took run (push b.client) c.args.sink.now d c.run_batch.new.sink ran c.push.new.sink pushed first second) third
