use Rattle.std.proofs.Common.{◌≡◌, subst, List, [], ◌∷◌, ◌++◌, sym, ◌∙◌, ap}
use Rattle.std.specs.List.Sorted.{IsStrictlySortedBy}
use Rattle.std.specs.Map.{keys_of}
use Rattle.fj_array.specs.declared.cell.Cell.{Cell}
use Rattle.fj_array.specs.Cells.{cell_order}
use Rattle.cloud_base.specs.declared.key.Key.{Key}
use Rattle.cloud_base.specs.Order.{keys_order}
use Rattle.shared_map.specs.Entries.{entries_from}
use Rattle.std.specs.declared.cmp.Ordering.TheVariants.{Less}
use Rattle.std.proofs.lemmas.Bool.{false≢true}
use Rattle.fj_array.specs.Grids.{kept_at}
use Rattle.fj_array.proofs.GridLemmas.{same_itself}
use Rattle.fj_array.proofs.WalkLemmas.{Looked, look_step, look_here}
use Rattle.fj_array.proofs.StretchLemmas.{look_from}
use Rattle.fj_array.proofs.ListLemmas.{Listed, IsEntry, entry_cell, entries_start, set_kept, list_push, list_skip, list_end, list_stop, stretch_over, less_keys}
use Rattle.fj_array.proofs.grid.Grid.entries.Goals as goal
use Rattle.fj_array.proofs.grid.Grid.entries.Goals.{else-cell-property-2-via-then-cell-property-2+else-is_set, else-cell-property-2-via-else-cell-property-2}

pub loop-cell-init : goal.loop-cell-init
loop-cell-init g c =
    let f = g.C.ForkJoin in
    let first = entry_cell c.args.property [] in
    let cells = c.args.self.now in
    let found : c.iter_from-cell-items.result ≡ entries_from cell_order cells first =
    c.iter_from-cell-items.ensures ∙ ap (λ (q : Cell). entries_from cell_order c.self.inside.cells q) c.first_of.ensures
    ∙ ap (λ (l : List (Cell × g.row.C.Denot)). entries_from cell_order l first) c.self.view_is in
    let whole : c.into_iter-cell-iterator.result ≡ entries_from cell_order cells first = cc (c.into_iter-cell-iterator.ensures.into_iter_gives, found) in
    let sorted = subst (λ (l : List (Cell × g.row.C.Denot)). IsStrictlySortedBy cell_order (keys_of l)) c.self.view_is c.in_order.ensures in (
      subst (λ (l : List (Cell × g.row.C.Denot)). Looked cells l) (sym whole) (look_from c.cell_orders.ensures.total cells first sorted),
      λ base delta h.
          subst (λ (l : List (Cell × g.row.C.Denot)). Listed keys_order (entry_cell c.args.property) (IsEntry f.plain c.args.property (base ++ delta)) l c.new-list.result) (sym whole)
          (subst (λ (l : List (List Key)). Listed keys_order (entry_cell c.args.property) (IsEntry f.plain c.args.property (base ++ delta)) (entries_from cell_order cells first) l) (sym c.new-list.ensures)
          (entries_start f.plain f.effect_of f.stands cells base delta c.cell_orders.ensures.total c.cell_orders.ensures.by_parts c.args.property sorted h)),
    )

pub returns-then-cell-property : goal.returns-then-cell-property
returns-then-cell-property g c base delta h =
    let f = g.C.ForkJoin in
    let e = c.in-Some.field-0.now in
    let listed = subst (λ (l : List (Cell × g.row.C.Denot)). Listed keys_order (entry_cell c.args.property) (IsEntry f.plain c.args.property (base ++ delta)) l c.loop-cell.list) c.in-Some.ensures.steps (c.loop-cell.invariant.1 base delta h) in
    list_stop keys_order (entry_cell c.args.property) (IsEntry f.plain c.args.property (base ++ delta)) (e ∷ c.next.new.self) c.loop-cell.list
    (stretch_over c.cell_orders.ensures.total c.cell_orders.ensures.by_parts c.args.property e.0 e.1 c.next.new.self listed.left c.if-cell-property.true) listed

pub loop-cell-preserved-then-is_set : goal.loop-cell-preserved-then-is_set
loop-cell-preserved-then-is_set g c =
    let f = g.C.ForkJoin in
    let o = c.cell_orders.ensures.total in
    let apart = c.cell_orders.ensures.apart in
    let e = c.in-Some.field-0.now in
    let k = e.0 in
    let s = e.1 in
    let looked = subst (λ (l : List (Cell × g.row.C.Denot)). Looked c.args.self.now l) c.in-Some.ensures.steps c.loop-cell.invariant.0 in
    let some = look_here o c.args.self.now k s c.next.new.self looked in
    let at : entry_cell c.args.property k.keys ≡ k = ap (λ p. entry_cell p k.keys) (sym c.if-cell-property-2.true) in (
      look_step apart o c.args.self.now k s c.next.new.self looked,
      λ base delta h.
          let says = set_kept f.plain f.effect_of f.stands c.args.self.now base delta c.args.property k.keys s c.is_set.result h (ap (kept_at c.args.self.now) at ∙ some) c.is_set.ensures in
          let entry = says.0 c.if-is_set.true in
          subst (λ (l : List (List Key)). Listed keys_order (entry_cell c.args.property) (IsEntry f.plain c.args.property (base ++ delta)) c.next.new.self l)
          (ap (λ (ks : List Key). c.loop-cell.list ++ ks ∷ []) (sym c.copied.ensures) ∙ sym c.in_ok-push.ensures.ok)
          (list_push keys_order (entry_cell c.args.property) (IsEntry f.plain c.args.property (base ++ delta)) apart o k s c.next.new.self c.loop-cell.list k.keys at entry
          (λ keys same p. sym (ap (λ (q : Cell). q.keys) same))
          (λ keys less. less_keys c.cell_orders.ensures.by_parts c.args.property keys k.keys (subst (λ (q : Cell). cell_order (entry_cell c.args.property keys) q ≡ Less) (sym at) less))
          (same_itself o k)
          (subst (λ (l : List (Cell × g.row.C.Denot)). Listed keys_order (entry_cell c.args.property) (IsEntry f.plain c.args.property (base ++ delta)) l c.loop-cell.list) c.in-Some.ensures.steps (c.loop-cell.invariant.1 base delta h))),
    )

pub loop-cell-preserved : goal.loop-cell-preserved
loop-cell-preserved g c =
    let f = g.C.ForkJoin in
    let o = c.cell_orders.ensures.total in
    let apart = c.cell_orders.ensures.apart in
    let e = c.in-Some.field-0.now in
    let k = e.0 in
    let s = e.1 in
    let looked = subst (λ (l : List (Cell × g.row.C.Denot)). Looked c.args.self.now l) c.in-Some.ensures.steps c.loop-cell.invariant.0 in
    let some = look_here o c.args.self.now k s c.next.new.self looked in (
      look_step apart o c.args.self.now k s c.next.new.self looked,
      λ base delta h.
          list_skip keys_order (entry_cell c.args.property) (IsEntry f.plain c.args.property (base ++ delta)) apart o k s c.next.new.self c.loop-cell.list
          (λ keys same entry.
          elim c.else-cell-property-2.branch [
            | else-cell-property-2-via-then-cell-property-2+else-is_set w ↦
                let says = set_kept f.plain f.effect_of f.stands c.args.self.now base delta c.args.property keys s w.is_set.result h (ap (kept_at c.args.self.now) same ∙ some) w.is_set.ensures in
                false≢true (sym w.if-is_set.false ∙ says.1 entry)
            | else-cell-property-2-via-else-cell-property-2 w ↦ w.if-cell-property-2.false (sym (ap (λ (q : Cell). q.property) same))
          ])
          (subst (λ (l : List (Cell × g.row.C.Denot)). Listed keys_order (entry_cell c.args.property) (IsEntry f.plain c.args.property (base ++ delta)) l c.loop-cell.list) c.in-Some.ensures.steps (c.loop-cell.invariant.1 base delta h)),
    )

pub returns : goal.returns
returns g c base delta h =
    let f = g.C.ForkJoin in
    list_end keys_order (entry_cell c.args.property) (IsEntry f.plain c.args.property (base ++ delta)) c.loop-cell.cell-iterator c.loop-cell.list c.in-None.ensures.steps.0 (c.loop-cell.invariant.1 base delta h)
