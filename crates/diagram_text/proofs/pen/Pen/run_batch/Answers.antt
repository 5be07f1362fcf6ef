-- A batch's stretch.
use Rattle.std.proofs.Common.{Bool, subst}
use Rattle.record_diagram.specs.Steps.{events_on, pull_if, ◌then◌}
use Rattle.diagram_text.specs.Pens.{drawing_of}
use Rattle.diagram_text.specs.Taken.{Drew}
use Rattle.diagram_text.proofs.Drawings.{pulls_unless}
use Rattle.diagram_text.proofs.pen.Pen.run_batch.Goals as goal

pub returns : goal.returns
returns g c =
    let b = c.args.batch.now in
    subst (λ (p : Bool). Drew g.S.StepSink.took (events_on c.args.client b.before then pull_if p c.args.client then events_on c.args.client b.rest) c.args.sink.now (drawing_of c.args.self.now) c.run.new.sink (drawing_of c.run.new.self))
    (pulls_unless c.args.is_opening b.base) c.in_ok-run.ensures
