use Rattle.std.proofs.Common.{◌≡◌, [], take}
use Rattle.batch_history.specs.Batches.{of_client}
use Rattle.diagram_text.proofs.agenda.next_base.Given as goal

-- none of the batches so far is the client's
abbrev pub invariant-loop-batch : goal.invariant-loop-batch
invariant-loop-batch l = of_client l.client (take l.batch-index l.left) ≡ []
