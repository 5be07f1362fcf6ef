use Rattle.std.proofs.Common.{rules}
use Rattle.std.specs.Int.{int_wrap}
use Rattle.cloud_base.specs.PlainCell.{plain_int}
use Rattle.fj_core.proofs.int_cell.IntCellForkJoin.is_default.Goals as goal

pub returns : goal.returns
unfolding plain_int int_wrap
returns c = search rules
