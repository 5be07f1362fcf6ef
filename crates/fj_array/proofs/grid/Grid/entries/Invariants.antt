use Rattle.std.proofs.Common.{List, ◌++◌}
use Rattle.cloud_base.specs.Order.{keys_order}
use Rattle.fj_array.specs.Cells.{At}
use Rattle.fj_array.specs.Grids.{GridStands}
use Rattle.fj_array.proofs.WalkLemmas.{Looked}
use Rattle.fj_array.proofs.ListLemmas.{Listed, IsEntry, entry_cell}
use Rattle.fj_array.proofs.grid.Grid.entries.Given as goal

abbrev pub invariant-loop-cell : goal.invariant-loop-cell
invariant-loop-cell g l =
    let f = g.C.ForkJoin in
    Looked l.self l.cell-iterator
    × ((base delta : List (At g.row.C-Change.Denot)) → GridStands f.plain f.effect_of f.stands l.self base delta
    → Listed keys_order (entry_cell l.property) (IsEntry f.plain l.property (base ++ delta)) l.cell-iterator l.list)
