use Rattle.std.proofs.Common.{refl}
use Rattle.std.specs.Int.{int_wrap}
use Rattle.cloud_base.specs.PlainCell.{plain_int}
use Rattle.plain_answer.proofs.cells.int_value.Goals as goal

pub loop-update-init : goal.loop-update-init
unfolding plain_int int_wrap
loop-update-init c = refl
