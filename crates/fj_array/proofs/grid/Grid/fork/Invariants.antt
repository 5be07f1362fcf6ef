use Rattle.fj_array.proofs.WalkLemmas.{Walked, Forked}
use Rattle.fj_array.proofs.TouchLemmas.{Same}
use Rattle.fj_array.proofs.grid.Grid.fork.Given as goal

abbrev pub invariant-loop-cell : goal.invariant-loop-cell
invariant-loop-cell g l =
    let f = g.C.ForkJoin in
    Walked l.cell-iterator (Same l.self l.child) (Forked f.plain f.effect_of f.stands l.self l.child)
