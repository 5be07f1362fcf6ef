-- What was sent, and what ran since.
use Rattle.std.proofs.Common.{◌≡◌, ◌∙◌, ◌+◌, ap, sym, ℕ, Bool, List, length}
use Rattle.std.specs.Prelude.{◌==◌, option_copied}
use Rattle.std.specs.Option.{option_to_list}
use Rattle.batch_history.specs.Batches.{unjoined}
use Rattle.cloud_base.specs.declared.batch.Batch.{Batch}
use Rattle.cloud_base.specs.declared.batch.Tail.{Tail}
use Rattle.record_diagram.specs.Steps.{Drawing, Draws, events_on, is_zero, not_opening, pull_if, run_sent, run_stretch, ◌then◌}
use Rattle.diagram_text.specs.Pens.{drawing_of}
use Rattle.diagram_text.proofs.Drawings.{drew_as, drew_then, zero_test}
use Rattle.diagram_text.proofs.draw.draw_tail.Goals as goal

pub returns : goal.returns
returns g c own count =
    let took = g.S.StepSink.took in
    let client : ℕ = c.args.client in
    let tail : Tail = c.args.tail.now in
    let sent : List Batch = option_to_list (option_copied c.unjoined-sent.result) in
    let same : sent ≡ unjoined own tail.sent = c.unjoined-sent.ensures own count in
    let d : Drawing = drawing_of c.args.pen.now in
    let mid : Drawing = drawing_of c.draw_sent.new.pen in
    let last : Drawing = drawing_of c.run.new.self in
    let opening : (c.args.joined == 0) ≡ is_zero (length own) = zero_test c.args.joined ∙ ap is_zero (sym count) in
    let ran : Draws = run_sent client (c.args.joined == 0) sent in
    let left : Draws = run_sent client (is_zero (length own)) (unjoined own tail.sent) in
    let first : ran ≡ left = ap (λ (o : Bool). run_sent client o sent) opening ∙ ap (run_sent client (is_zero (length own))) same in
    let number : c.args.joined + length sent ≡ length own + length (unjoined own tail.sent) = ap (λ (n : ℕ). n + length sent) (sym count) ∙ ap (λ (l : List Batch). length own + length l) same in
    let pulls : c.is_pulled-pulls.result ≡ not_opening (is_zero (length own + length (unjoined own tail.sent))) tail.now.base = c.is_pulled-pulls.ensures ∙ ap (λ (n : ℕ). not_opening (is_zero n) tail.now.base) number in
    let by : Bool → Draws = λ p. events_on client tail.now.before then pull_if p client then events_on client tail.now.rest in
    let now : Draws = run_stretch client (is_zero (length own + length (unjoined own tail.sent))) tail.now in
    drew_then took left now c.args.sink.now d c.draw_sent.new.sink mid c.run.new.sink last
    (drew_as took ran left c.args.sink.now d c.draw_sent.new.sink mid (ap (λ (f : Draws). f d) first) c.in_ok-draw_sent.ensures)
    (drew_as took (by c.is_pulled-pulls.result) now c.draw_sent.new.sink mid c.run.new.sink last (ap (λ (p : Bool). by p mid) pulls) c.in_ok-run.ensures)
