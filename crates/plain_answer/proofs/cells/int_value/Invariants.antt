use Rattle.std.proofs.Common.{◌≡◌, take}
use Rattle.cloud_base.specs.Log.{of_cell}
use Rattle.cloud_base.specs.PlainCell.{plain_int}
use Rattle.plain_answer.proofs.cells.int_value.Given as goal

abbrev pub invariant-loop-update : goal.invariant-loop-update
invariant-loop-update l = l.value ≡ plain_int (of_cell l.property l.keys (take l.update-index l.log))
