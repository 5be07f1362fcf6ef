-- Three parts, one after another.
use Rattle.record_diagram.specs.Steps.{Drawing, Draws, events_on, pull_if, ◌then◌}
use Rattle.diagram_text.specs.Pens.{drawing_of}
use Rattle.diagram_text.proofs.Drawings.{drew_then}
use Rattle.diagram_text.proofs.pen.Pen.run.Goals as goal

pub returns : goal.returns
returns g c =
    let took = g.S.StepSink.took in
    let before : Draws = events_on c.args.client c.args.before.now in
    let pulls : Draws = pull_if c.args.pulls c.args.client in
    let d : Drawing = drawing_of c.args.self.now in
    let after : Drawing = drawing_of c.pull_if.new.self in
    drew_then took (before then pulls) (events_on c.args.client c.args.rest.now) c.args.sink.now d c.pull_if.new.sink after c.events-2.new.sink after
    (drew_then took before pulls c.args.sink.now d c.events.new.sink d c.pull_if.new.sink after c.in_ok-events.ensures c.in_ok-pull_if.ensures) c.in_ok-events-2.ensures
