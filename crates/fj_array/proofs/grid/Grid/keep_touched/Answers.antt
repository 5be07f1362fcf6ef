use Rattle.std.proofs.Common.{subst, sym, List, ◌≡◌}
use Rattle.std.specs.Prelude.{Some}
use Rattle.fj_array.specs.declared.cell.Cell.{Cell}
use Rattle.fj_array.specs.Cells.{cell_order}
use Rattle.fj_array.specs.Grids.{kept_at}
use Rattle.fj_array.specs.Touched.{IsTold}
use Rattle.fj_array.proofs.TouchLemmas.{told_more, told_kept}
use Rattle.fj_array.proofs.grid.Grid.keep_touched.Goals as goal

pub invariant_of-self-in_err-insert-2 : goal.invariant_of-self-in_err-insert-2
invariant_of-self-in_err-insert-2 g c =
    let f = g.C.ForkJoin in
    rw c.in_err-insert-2.ensures.err
    (told_more f.effect_of f.stands c.cell_orders.ensures.apart c.cell_orders.ensures.total c.self.inside.cells c.self.inside.touched c.insert.new.self c.copied.result tt c.in_ok-insert.ensures.updates c.self.invariant)

pub invariant_of-self-2 : goal.invariant_of-self-2
invariant_of-self-2 g c =
    let f = g.C.ForkJoin in
    told_kept f.effect_of f.stands c.cell_orders.ensures.apart c.self.inside.cells c.insert-2.new.self c.insert.new.self c.args.cell c.args.state tt
    (subst (λ (q : Cell). kept_at c.insert.new.self q ≡ Some tt) c.copied.ensures c.in_ok-insert.ensures.updates.here)
    c.in_ok-insert-2.ensures.updates
    (told_more f.effect_of f.stands c.cell_orders.ensures.apart c.cell_orders.ensures.total c.self.inside.cells c.self.inside.touched c.insert.new.self c.copied.result tt c.in_ok-insert.ensures.updates c.self.invariant)
