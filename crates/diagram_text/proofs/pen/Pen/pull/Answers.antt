-- A join.
use Rattle.std.proofs.Common.{arith, ◌<◌, length}
use Rattle.diagram_text.proofs.Drawings.{drew_pull}
use Rattle.diagram_text.proofs.pen.Pen.pull.Goals as goal

pub returns : goal.returns
returns g c =
    let within : c.from-place.result < length c.args.self.now.standing = omega arith in
    drew_pull g.S.StepSink.took c.args.sink.now c.take.new.self c.args.self.now.next c.args.client c.from-place.result c.args.self.now.standing c.args.self.now.received c.from-place.ensures within (λ first steps. c.in_ok-take.ensures first steps)
