use Rattle.std.proofs.Common.{rules}
use Rattle.cloud_base.specs.PlainCell.{plain_text}
use Rattle.fj_core.proofs.text_cell.TextCellForkJoin.is_default.Goals as goal

pub returns : goal.returns
unfolding plain_text
returns c = search rules
