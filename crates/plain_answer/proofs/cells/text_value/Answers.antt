use Rattle.cloud_base.specs.PlainCell.{plain_text}
use Rattle.plain_answer.proofs.cells.text_value.Goals as goal

pub loop-update-init : goal.loop-update-init
unfolding plain_text
loop-update-init c = c.empty-value.ensures
