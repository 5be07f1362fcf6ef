-- A fork, and a join into the server.
use Rattle.std.proofs.Common.{ap}
use Rattle.diagram_text.specs.Pens.{drawing_of}
use Rattle.diagram_text.proofs.Drawings.{drew_push, slots}
use Rattle.diagram_text.proofs.pen.Pen.push.Goals as goal

pub returns : goal.returns
returns g c = drew_push g.S.StepSink.took c.args.sink.now c.send.new.sink c.take.new.self (drawing_of c.args.self.now) (drawing_of c.send.new.self) c.args.client (slots c.args.self.now.standing c.from.result)
    (ap (slots c.args.self.now.standing) c.from.ensures) c.in_ok-send.ensures (λ first steps. c.in_ok-take.ensures first steps)
