use Rattle.std.proofs.Common.{[]}
use Rattle.fj_core.specs.IntLaws.{int_plain-empty}
use Rattle.fj_core.proofs.int_cell.IntCellForkJoin.fresh.Goals as goal

pub returns : goal.returns
returns c = c.of_value.ensures [] int_plain-empty
