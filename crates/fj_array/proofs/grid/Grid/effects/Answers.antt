use Rattle.std.proofs.Common.{◌≡◌, subst, List, [], ◌∷◌, ◌++◌, sym, ◌∙◌, ap, refl}
use Rattle.std.specs.Prelude.{Some, None}
use Rattle.fj_array.specs.declared.cell.Cell.{Cell}
use Rattle.fj_array.specs.declared.effect.CellEffect.{CellEffect}
use Rattle.fj_array.specs.Effects.{cell_of, effect_order}
use Rattle.fj_array.specs.Grids.{kept_at}
use Rattle.fj_array.specs.Touched.{IsTold}
use Rattle.fj_array.proofs.GridLemmas.{same_itself}
use Rattle.fj_array.proofs.ListLemmas.{Listed, IsEffect, effect_kept, list_push, list_skip, list_end, same_effect_of, no_effect_of}
use Rattle.fj_array.proofs.TouchLemmas.{effects_start, effect_unkept}
use Rattle.fj_array.proofs.grid.Grid.effects.Goals as goal

pub loop-cell-init : goal.loop-cell-init
loop-cell-init g c base delta h =
    let f = g.C.ForkJoin in
    let whole : c.into_iter-cell-iterator.result ≡ c.self.inside.touched = cc (c.into_iter-cell-iterator.ensures.into_iter_gives, c.iter-cell-items.ensures) in
    subst (λ (l : List (Cell × Unit {0})). Listed effect_order cell_of (IsEffect f.effect_of delta) l c.new-list.result) (sym whole)
    (subst (λ (l : List CellEffect). Listed effect_order cell_of (IsEffect f.effect_of delta) c.self.inside.touched l) (sym c.new-list.ensures)
    (effects_start f.plain f.effect_of f.stands c.args.self.now c.self.inside.touched base delta
    (subst (λ (l : List (Cell × g.row.C.Denot)). IsTold f.effect_of f.stands l c.self.inside.touched) c.self.view_is c.self.invariant) c.in_order.ensures h))

pub loop-cell-preserved-in_default : goal.loop-cell-preserved-in_default
loop-cell-preserved-in_default g c base delta h =
    let f = g.C.ForkJoin in
    let e = c.in-Some.field-0.now in
    let none = ap (λ (l : List (Cell × g.row.C.Denot)). kept_at l e.0) (sym c.self.view_is) ∙ sym c.in_default.ensures in
    list_skip effect_order cell_of (IsEffect f.effect_of delta) c.cell_orders.ensures.apart c.cell_orders.ensures.total e.0 e.1 c.next.new.self c.loop-cell.list
    (λ it same is. no_effect_of f.effect_of delta it e.0 same (effect_unkept f.plain f.effect_of f.stands c.args.self.now base delta e.0 none h) is)
    (subst (λ (l : List (Cell × Unit {0})). Listed effect_order cell_of (IsEffect f.effect_of delta) l c.loop-cell.list) c.in-Some.ensures.steps (c.loop-cell.invariant base delta h))

pub loop-cell-preserved-in-Continue-1 : goal.loop-cell-preserved-in-Continue-1
loop-cell-preserved-in-Continue-1 g c base delta h =
    let f = g.C.ForkJoin in
    let o = c.cell_orders.ensures.total in
    let e = c.in-Some.field-0.now in
    let k = e.0 in
    let some = ap (λ (l : List (Cell × g.row.C.Denot)). kept_at l k) (sym c.self.view_is) ∙ sym c.in-Some-get.ensures in
    let it : CellEffect = record { property = k.property; keys = k.keys; effect = c.in-Some-effect.effect } in
    let is : IsEffect f.effect_of delta it =
    sym (effect_kept f.plain f.effect_of f.stands c.args.self.now base delta k c.in-Some-get.state.now (Some c.in-Some-effect.effect) h some (λ before after held. sym c.in-Some-effect.is ∙ c.effect.ensures before after held)) in
    subst (λ (l : List CellEffect). Listed effect_order cell_of (IsEffect f.effect_of delta) c.next.new.self l)
    (ap (λ keys. c.loop-cell.list ++ record { property = k.property; keys = keys; effect = c.in-Some-effect.effect } ∷ []) (sym c.copied.ensures) ∙ sym c.in_ok-push.ensures.ok)
    (list_push effect_order cell_of (IsEffect f.effect_of delta) c.cell_orders.ensures.apart o k e.1 c.next.new.self c.loop-cell.list it refl is
    (λ other same e'. same_effect_of f.effect_of delta it other (sym same) is e')
    (λ other less. less)
    (same_itself o k)
    (subst (λ (l : List (Cell × Unit {0})). Listed effect_order cell_of (IsEffect f.effect_of delta) l c.loop-cell.list) c.in-Some.ensures.steps (c.loop-cell.invariant base delta h)))

pub loop-cell-preserved : goal.loop-cell-preserved
loop-cell-preserved g c base delta h =
    let f = g.C.ForkJoin in
    let e = c.in-Some.field-0.now in
    let some = ap (λ (l : List (Cell × g.row.C.Denot)). kept_at l e.0) (sym c.self.view_is) ∙ sym c.in-Some-get.ensures in
    let none = effect_kept f.plain f.effect_of f.stands c.args.self.now base delta e.0 c.in-Some-get.state.now None h some (λ before after held. sym c.in_default-effect.is ∙ c.effect.ensures before after held) in
    list_skip effect_order cell_of (IsEffect f.effect_of delta) c.cell_orders.ensures.apart c.cell_orders.ensures.total e.0 e.1 c.next.new.self c.loop-cell.list
    (λ it same e'. no_effect_of f.effect_of delta it e.0 same none e')
    (subst (λ (l : List (Cell × Unit {0})). Listed effect_order cell_of (IsEffect f.effect_of delta) l c.loop-cell.list) c.in-Some.ensures.steps (c.loop-cell.invariant base delta h))

pub returns : goal.returns
returns g c base delta h =
    let f = g.C.ForkJoin in
    list_end effect_order cell_of (IsEffect f.effect_of delta) c.loop-cell.cell-iterator c.loop-cell.list c.in-None.ensures.steps.0 (c.loop-cell.invariant base delta h)
