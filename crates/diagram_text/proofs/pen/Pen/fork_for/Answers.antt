-- A fork of the server.
use Rattle.std.proofs.Common.{arith, ◌<◌, length, sym, subst, Bool}
use Rattle.record_diagram.specs.Steps.{fork_for}
use Rattle.diagram_text.specs.Pens.{drawing_of}
use Rattle.diagram_text.specs.Taken.{Drew}
use Rattle.diagram_text.proofs.Drawings.{drew_opening, drew_received, drawing, slots}
use Rattle.std.specs.Prelude.{slice_set}
use Rattle.diagram_text.proofs.pen.Pen.fork_for.Goals as goal

pub returns-then-is_opening : goal.returns-then-is_opening
returns-then-is_opening g c =
    let within : c.from-place.result < length c.args.self.now.standing = omega arith in
    subst (λ (b : Bool). Drew g.S.StepSink.took (fork_for c.args.client b) c.args.sink.now (drawing_of c.args.self.now) c.take.new.self (drawing c.number-forked.new.self.next (slots (slice_set c.number-forked.new.self.standing c.from-place.result c.number-forked.result)) (slots c.number-forked.new.self.received))) (sym c.if-is_opening.true)
    (drew_opening g.S.StepSink.took c.args.sink.now c.take.new.self c.args.self.now.next c.args.client c.from-place.result c.number-forked.result c.number-forked.new.self.next c.args.self.now.standing c.args.self.now.received c.number-forked.new.self.standing c.number-forked.new.self.received
    c.from-place.ensures within c.number-forked.ensures.number c.number-forked.ensures.next c.number-forked.ensures.standing c.number-forked.ensures.received (λ first steps. c.in_ok-take.ensures first steps))

pub returns-else-is_opening : goal.returns-else-is_opening
returns-else-is_opening g c =
    let within : c.from-place.result < length c.args.self.now.received = omega arith in
    subst (λ (b : Bool). Drew g.S.StepSink.took (fork_for c.args.client b) c.args.sink.now (drawing_of c.args.self.now) c.take.new.self (drawing c.number-forked.new.self.next (slots c.number-forked.new.self.standing) (slots (slice_set c.number-forked.new.self.received c.from-place.result c.number-forked.result)))) (sym c.if-is_opening.false)
    (drew_received g.S.StepSink.took c.args.sink.now c.take.new.self c.args.self.now.next c.args.client c.from-place.result c.number-forked.result c.number-forked.new.self.next c.args.self.now.standing c.args.self.now.received c.number-forked.new.self.standing c.number-forked.new.self.received
    c.from-place.ensures within c.number-forked.ensures.number c.number-forked.ensures.next c.number-forked.ensures.standing c.number-forked.ensures.received (λ first steps. c.in_ok-take.ensures first steps))
