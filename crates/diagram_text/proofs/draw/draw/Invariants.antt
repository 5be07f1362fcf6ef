use Rattle.std.proofs.Common.{[], drop, take}
use Rattle.record_diagram.specs.Steps.{batches_from}
use Rattle.diagram_text.specs.Agendas.{IsAgenda}
use Rattle.diagram_text.specs.Pens.{drawing_of}
use Rattle.diagram_text.proofs.Begun.{Began}
use Rattle.diagram_text.proofs.Few.{IsFew}
use Rattle.diagram_text.proofs.draw.draw.Given as goal

-- the batches so far are drawn
abbrev pub invariant-loop-place : goal.invariant-loop-place
invariant-loop-place g l =
    let batches = l.history.batches in
    let tails = l.history.tails in
    record {
      began : Began g.S.StepSink.took (batches_from batches tails [] batches) (batches_from batches tails (take l.place batches) (drop l.place batches)) l.initial.sink (drawing_of l.initial.pen) l.sink (drawing_of l.pen);
      agenda : IsAgenda batches tails (take l.place batches) l.agenda;
      few : IsFew batches tails (take l.place batches) l.pen.next;
    }
