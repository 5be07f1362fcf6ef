use Rattle.fj_array.proofs.StretchLemmas.{Sought}
use Rattle.fj_array.proofs.grid.Grid.holder.Given as goal

abbrev pub invariant-loop-cell : goal.invariant-loop-cell
invariant-loop-cell g l = Sought l.id l.self l.from l.cell-iterator
