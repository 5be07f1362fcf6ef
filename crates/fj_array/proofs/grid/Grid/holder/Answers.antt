use Rattle.std.proofs.Common.{◌≡◌, ◌∷◌, subst, sym, ◌∙◌, ap, List}
use Rattle.fj_array.specs.declared.cell.Cell.{Cell}
use Rattle.fj_array.specs.Cells.{cell_order, has_id}
use Rattle.fj_array.specs.Touched.{IsHolder}
use Rattle.shared_map.specs.Entries.{entries_from}
use Rattle.std.specs.List.Sorted.{IsStrictlySortedBy}
use Rattle.std.specs.Map.{keys_of}
use Rattle.fj_array.proofs.StretchLemmas.{Sought, seek_start, seek_step, seek_found, seek_end}
use Rattle.fj_array.proofs.grid.Grid.holder.Goals as goal

pub loop-cell-init : goal.loop-cell-init
loop-cell-init g c =
    let from = c.args.from.now in
    let cells = c.args.self.now in
    let whole : c.into_iter-cell-iterator.result ≡ entries_from cell_order c.self.inside.cells from = cc (c.into_iter-cell-iterator.ensures.into_iter_gives, c.iter_from-cell-items.ensures) in
    subst (λ (l : List (Cell × g.row.C.Denot)). Sought c.args.id cells from l) (sym (whole ∙ ap (λ (l : List (Cell × g.row.C.Denot)). entries_from cell_order l from) c.self.view_is))
    (seek_start c.cell_orders.ensures.total c.args.id cells from
    (subst (λ (l : List (Cell × g.row.C.Denot)). IsStrictlySortedBy cell_order (keys_of l)) c.self.view_is c.in_order.ensures))

pub loop-cell-preserved : goal.loop-cell-preserved
loop-cell-preserved g c =
    let e = c.in-Some.field-0.now in
    seek_step c.cell_orders.ensures.total c.cell_orders.ensures.apart c.args.id c.args.self.now c.args.from.now e.0 e.1 c.next.new.self (sym c.has_id.ensures ∙ c.if-has_id.false)
    (subst (λ (l : List (Cell × g.row.C.Denot)). Sought c.args.id c.args.self.now c.args.from.now l) c.in-Some.ensures.steps c.loop-cell.invariant)

pub returns-then-has_id : goal.returns-then-has_id
returns-then-has_id g c =
    let e = c.in-Some.field-0.now in
    subst (λ (k : Cell). IsHolder c.args.id c.args.self.now c.args.from.now k) (sym c.copied.ensures)
    (seek_found c.cell_orders.ensures.total c.args.id c.args.self.now c.args.from.now e.0 e.1 c.next.new.self (sym c.has_id.ensures ∙ c.if-has_id.true)
    (subst (λ (l : List (Cell × g.row.C.Denot)). Sought c.args.id c.args.self.now c.args.from.now l) c.in-Some.ensures.steps c.loop-cell.invariant))

pub returns : goal.returns
returns g c = seek_end c.args.id c.args.self.now c.args.from.now c.loop-cell.cell-iterator c.in-None.ensures.steps.0 c.loop-cell.invariant
