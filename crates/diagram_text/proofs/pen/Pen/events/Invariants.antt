use Rattle.std.proofs.Common.{take}
use Rattle.record_diagram.specs.Steps.{events_on}
use Rattle.diagram_text.specs.Pens.{drawing_of}
use Rattle.diagram_text.specs.Taken.{Drew}
use Rattle.diagram_text.proofs.pen.Pen.events.Given as goal

-- the events so far are drawn
abbrev pub invariant-loop-event : goal.invariant-loop-event
invariant-loop-event g l = Drew g.S.StepSink.took (events_on l.client (take l.event-index l.event-items)) l.initial.sink (drawing_of l.self) l.sink (drawing_of l.self)
