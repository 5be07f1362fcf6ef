use Rattle.std.proofs.Common.{◌≡◌, subst, sym, ◌∙◌, ap, List, arith, length, ◌<◌}
use Rattle.std.specs.Prelude.{None}
use Rattle.fj_array.specs.declared.cell.Cell.{Cell}
use Rattle.fj_array.specs.Cells.{cell_order}
use Rattle.shared_map.specs.Entries.{Updates, without_key}
use Rattle.fj_array.proofs.GridLemmas.{purge_stands}
use Rattle.fj_array.proofs.StretchLemmas.{PurgedTo, purge_step, purge_end, purge_start, fewer}
use Rattle.fj_array.proofs.grid.Grid.purge.Goals as goal

pub loop-cell-init : goal.loop-cell-init
loop-cell-init g c = purge_start c.cell_orders.ensures.by_parts c.args.id c.args.self.now c.first_of-at.result c.first_of-at.ensures

pub loop-cell-smaller : goal.loop-cell-smaller
loop-cell-smaller g c =
    let old = c.loop-cell.self in
    rw c.remove.ensures.is
    (subst (λ (l : List (Cell × g.row.C.Denot)). length (without_key cell_order l c.in-Some.cell) < length old) (sym c.self.view_is) (fewer old c.in-Some.cell c.in-Some.ensures.kept))

pub loop-cell-preserved : goal.loop-cell-preserved
loop-cell-preserved g c =
    let old = c.loop-cell.self in
    purge_step c.cell_orders.ensures.total c.cell_orders.ensures.apart c.args.id c.args.self.now old c.remove.new.self c.loop-cell.at c.in-Some.cell c.in-Some.ensures
    (subst (λ (l : List (Cell × g.row.C.Denot)). Updates cell_order l c.remove.new.self c.in-Some.cell None) c.self.view_is c.remove.ensures.updates) c.loop-cell.invariant

pub returns : goal.returns
returns g c base delta h =
    let f = g.C.ForkJoin in
    purge_stands f.plain f.effect_of f.stands g.met.C.ForkJoin.effect_empty c.cell_orders.ensures.apart c.args.id c.args.self.now c.loop-cell.self
    (purge_end c.args.id c.args.self.now c.loop-cell.self c.loop-cell.at c.in_default.ensures c.loop-cell.invariant) base delta h
