use Rattle.std.proofs.Common.{◌+◌, ◌≤◌, drop}
use Rattle.record_diagram.specs.Steps.{tails_from}
use Rattle.diagram_text.specs.Pens.{drawing_of}
use Rattle.diagram_text.proofs.Begun.{Began}
use Rattle.diagram_text.proofs.draw.draw_tails.Given as goal

-- the tails of the clients so far are drawn
abbrev pub invariant-loop-client : goal.invariant-loop-client
invariant-loop-client g l =
    let batches = l.history.batches in
    record {
      began : Began g.S.StepSink.took (tails_from batches l.history.tails 0) (tails_from batches (drop l.client l.history.tails) l.client) l.initial.sink (drawing_of l.initial.pen) l.sink (drawing_of l.pen);
      few : l.pen.next ≤ l.initial.pen.next + l.client;
    }
