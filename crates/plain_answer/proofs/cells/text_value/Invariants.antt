use Rattle.std.proofs.Common.{◌≡◌, take}
use Rattle.cloud_base.specs.Log.{of_cell}
use Rattle.cloud_base.specs.PlainCell.{plain_text}
use Rattle.plain_answer.proofs.cells.text_value.Given as goal

abbrev pub invariant-loop-update : goal.invariant-loop-update
invariant-loop-update l = l.value ≡ plain_text (of_cell l.property l.keys (take l.update-index l.log))
