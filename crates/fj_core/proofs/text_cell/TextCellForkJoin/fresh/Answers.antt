use Rattle.std.proofs.Common.{sym, []}
use Rattle.cloud_base.specs.PlainCell.{plain_text}
use Rattle.fj_core.proofs.text_cell.TextCellForkJoin.fresh.Goals as goal

pub returns : goal.returns
unfolding plain_text
returns c = c.of_value.ensures [] (sym c.empty.ensures)
