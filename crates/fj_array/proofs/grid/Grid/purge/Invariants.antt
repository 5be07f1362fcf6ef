use Rattle.std.proofs.Common.{◌≡◌, List, length, true, false}
use Rattle.std.specs.Prelude.{None}
use Rattle.std.specs.Ordering.{is_lt}
use Rattle.fj_array.specs.declared.cell.Cell.{Cell}
use Rattle.fj_array.specs.Cells.{cell_order, has_id}
use Rattle.fj_array.specs.Grids.{kept_at}
use Rattle.fj_array.proofs.StretchLemmas.{PurgedTo}
use Rattle.fj_array.proofs.grid.Grid.purge.Given as goal

abbrev pub invariant-loop-cell : goal.invariant-loop-cell
invariant-loop-cell g l = PurgedTo l.id l.initial.self l.self l.at

abbrev pub decreases-loop-cell : goal.decreases-loop-cell
decreases-loop-cell g l = length l.self
