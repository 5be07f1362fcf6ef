use Rattle.std.proofs.Common.{◌+◌, ◌≤◌, drop, take}
use Rattle.record_diagram.specs.Steps.{forks_at}
use Rattle.diagram_text.specs.Pens.{drawing_of}
use Rattle.diagram_text.proofs.Begun.{Began}
use Rattle.diagram_text.proofs.draw.draw_forks.Given as goal

-- the forks of the clients so far are drawn
abbrev pub invariant-loop-client : goal.invariant-loop-client
invariant-loop-client g l =
    let batches = l.history.batches in
    let joined = take l.joined batches in
    record {
      began : Began g.S.StepSink.took (forks_at batches joined l.joined l.history.tails 0) (forks_at batches joined l.joined (drop l.client l.history.tails) l.client) l.initial.sink (drawing_of l.initial.pen) l.sink (drawing_of l.pen);
      few : l.pen.next ≤ l.initial.pen.next + l.client;
    }
