use Rattle.std.proofs.Common.{sym, ◌++◌}
use Rattle.fj_core.proofs.text_cell.TextCellForkJoin.fork.Goals as goal

pub returns : goal.returns
returns c base delta h = c.of_value.ensures (base ++ delta) (sym (c.ask.ensures base delta h))
