use Rattle.std.proofs.Common.{◌≡◌, take}
use Rattle.diagram_text.proofs.diagram.copy_names.Given as goal

abbrev pub invariant-loop-client : goal.invariant-loop-client
invariant-loop-client l = l.names ≡ take l.client l.program.names
