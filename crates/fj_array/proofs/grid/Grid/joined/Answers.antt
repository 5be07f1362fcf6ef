use Rattle.std.proofs.Common.{◌≡◌, ◌∷◌, subst, sym, ◌∙◌, ap, List}
use Rattle.std.specs.Prelude.{Some, None}
use Rattle.fj_array.specs.declared.cell.Cell.{Cell}
use Rattle.fj_array.specs.Grids.{kept_at, Puts, CellStands}
use Rattle.fj_array.specs.Touched.{IsTold}
use Rattle.fj_array.proofs.CellLemmas.{IsLawful}
use Rattle.fj_array.proofs.GridLemmas.{joins_stands}
use Rattle.fj_array.proofs.WalkLemmas.{Walked, Joined, walk_end}
use Rattle.fj_array.proofs.TouchLemmas.{Same, join_start, join_step, join_pass}
use Rattle.fj_array.proofs.grid.Grid.joined.Goals as goal

pub loop-cell-init : goal.loop-cell-init
loop-cell-init g c =
    let f = g.C.ForkJoin in
    let m = g.met.C.ForkJoin in
    let laws : IsLawful f.plain f.effect_of f.stands = record { applied = f.applied; combined = f.combined; by_effect = m.stands_by_effect; plain_append = m.plain_append; effect_append = m.effect_append; effect_empty = m.effect_empty } in
    let old = c.args.self.now in
    let child = c.args.child.now in
    let new = c.in_ok-joined.joined in
    let whole : c.into_iter-cell-iterator.result ≡ c.child.inside.touched = cc (c.into_iter-cell-iterator.ensures.into_iter_gives, c.iter-cell-items.ensures) in
    subst (λ (l : List (Cell × Unit {0})). Walked l (Same old new) (Joined f.plain f.effect_of f.stands old child new)) (sym whole)
    (join_start f.plain f.effect_of f.stands laws old child new c.child.inside.touched
    (subst (λ (l : List (Cell × g.row.C.Denot)). IsTold f.effect_of f.stands l c.child.inside.touched) c.child.view_is c.child.invariant) c.in_order.ensures c.in_ok-joined.ensures.same)

pub loop-cell-preserved-in_default : goal.loop-cell-preserved-in_default
loop-cell-preserved-in_default g c =
    let f = g.C.ForkJoin in
    let m = g.met.C.ForkJoin in
    let laws : IsLawful f.plain f.effect_of f.stands = record { applied = f.applied; combined = f.combined; by_effect = m.stands_by_effect; plain_append = m.plain_append; effect_append = m.effect_append; effect_empty = m.effect_empty } in
    let old = c.args.self.now in
    let child = c.args.child.now in
    let new = c.loop-cell.joined in
    let e = c.in-Some.field-0.now in
    join_pass f.plain f.effect_of f.stands laws c.cell_orders.ensures.apart c.cell_orders.ensures.total old child new e.0 e.1 c.next.new.self
    (ap (λ (l : List (Cell × g.row.C.Denot)). kept_at l e.0) (sym c.child.view_is) ∙ sym c.in_default.ensures)
    (subst (λ (l : List (Cell × Unit {0})). Walked l (Same old new) (Joined f.plain f.effect_of f.stands old child new)) c.in-Some.ensures.steps c.loop-cell.invariant)

pub loop-cell-preserved : goal.loop-cell-preserved
loop-cell-preserved g c =
    let f = g.C.ForkJoin in
    let m = g.met.C.ForkJoin in
    let laws : IsLawful f.plain f.effect_of f.stands = record { applied = f.applied; combined = f.combined; by_effect = m.stands_by_effect; plain_append = m.plain_append; effect_append = m.effect_append; effect_empty = m.effect_empty } in
    let old = c.args.self.now in
    let child = c.args.child.now in
    let new = c.loop-cell.joined in
    let e = c.in-Some.field-0.now in
    join_step f.plain f.effect_of f.stands laws c.cell_orders.ensures.apart c.cell_orders.ensures.total old child new c.keep.new.self e.0 e.1 c.in-Some-get.theirs.now c.join.new.self c.next.new.self
    (ap (λ (l : List (Cell × g.row.C.Denot)). kept_at l e.0) (sym c.child.view_is) ∙ sym c.in-Some-get.ensures)
    (subst (λ (k : Cell). Puts f.plain f.effect_of f.stands k c.join.new.self new c.keep.new.self) c.copied-in-loop-cell.ensures c.in_ok-keep.ensures.ok)
    (λ base delta before after held theirs. c.join.ensures base delta before after (c.state_of-state.ensures base delta held) theirs)
    (subst (λ (l : List (Cell × Unit {0})). Walked l (Same old new) (Joined f.plain f.effect_of f.stands old child new)) c.in-Some.ensures.steps c.loop-cell.invariant)

pub returns : goal.returns
returns g c =
    let f = g.C.ForkJoin in
    let new = c.loop-cell.joined in
    joins_stands f.plain f.effect_of f.stands c.args.self.now c.args.child.now new
    (walk_end c.loop-cell.cell-iterator (Same c.args.self.now new) (Joined f.plain f.effect_of f.stands c.args.self.now c.args.child.now new) c.in-None.ensures.steps.0 c.loop-cell.invariant)
