-- A fork.
use Rattle.std.proofs.Common.{arith, ◌<◌, length}
use Rattle.diagram_text.proofs.Drawings.{drew_send}
use Rattle.diagram_text.proofs.pen.Pen.send.Goals as goal

pub returns : goal.returns
returns g c =
    let within : c.from-place.result < length c.args.self.now.standing = omega arith in
    drew_send g.S.StepSink.took c.args.sink.now c.take.new.self c.args.self.now.next c.args.client c.from-place.result c.number.result c.number.new.self.next c.args.self.now.standing c.args.self.now.received c.number.new.self.standing c.number.new.self.received
    c.from-place.ensures within c.number.ensures.number c.number.ensures.next c.number.ensures.standing c.number.ensures.received (λ first steps. c.in_ok-take.ensures first steps)
