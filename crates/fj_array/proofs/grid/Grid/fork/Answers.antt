use Rattle.std.proofs.Common.{◌≡◌, ◌∷◌, subst, sym, ◌∙◌, ap, List}
use Rattle.std.specs.Prelude.{Some, None}
use Rattle.fj_array.specs.declared.cell.Cell.{Cell}
use Rattle.fj_array.specs.Grids.{kept_at, Puts}
use Rattle.fj_array.specs.Touched.{IsTold}
use Rattle.fj_array.proofs.CellLemmas.{IsLawful}
use Rattle.fj_array.proofs.GridLemmas.{forks_stands}
use Rattle.fj_array.proofs.WalkLemmas.{Walked, Forked, walk_end}
use Rattle.fj_array.proofs.TouchLemmas.{Same, fork_start, fork_step, fork_pass}
use Rattle.fj_array.proofs.grid.Grid.fork.Goals as goal

pub loop-cell-init : goal.loop-cell-init
loop-cell-init g c =
    let f = g.C.ForkJoin in
    let m = g.met.C.ForkJoin in
    let laws : IsLawful f.plain f.effect_of f.stands = record { applied = f.applied; combined = f.combined; by_effect = m.stands_by_effect; plain_append = m.plain_append; effect_append = m.effect_append; effect_empty = m.effect_empty } in
    let parent = c.args.self.now in
    let child = c.in_ok-child.child in
    let whole : c.into_iter-cell-iterator.result ≡ c.self.inside.touched = cc (c.into_iter-cell-iterator.ensures.into_iter_gives, c.iter-cell-items.ensures) in
    subst (λ (l : List (Cell × Unit {0})). Walked l (Same parent child) (Forked f.plain f.effect_of f.stands parent child)) (sym whole)
    (fork_start f.plain f.effect_of f.stands laws parent child c.self.inside.touched
    (subst (λ (l : List (Cell × g.row.C.Denot)). IsTold f.effect_of f.stands l c.self.inside.touched) c.self.view_is c.self.invariant) c.in_order.ensures c.in_ok-child.ensures.same)

pub loop-cell-preserved-in_default : goal.loop-cell-preserved-in_default
loop-cell-preserved-in_default g c =
    let f = g.C.ForkJoin in
    let m = g.met.C.ForkJoin in
    let laws : IsLawful f.plain f.effect_of f.stands = record { applied = f.applied; combined = f.combined; by_effect = m.stands_by_effect; plain_append = m.plain_append; effect_append = m.effect_append; effect_empty = m.effect_empty } in
    let parent = c.args.self.now in
    let child = c.loop-cell.child in
    let e = c.in-Some.field-0.now in
    fork_pass f.plain f.effect_of f.stands laws c.cell_orders.ensures.apart c.cell_orders.ensures.total parent child e.0 e.1 c.next.new.self
    (ap (λ (l : List (Cell × g.row.C.Denot)). kept_at l e.0) (sym c.self.view_is) ∙ sym c.in_default.ensures)
    (subst (λ (l : List (Cell × Unit {0})). Walked l (Same parent child) (Forked f.plain f.effect_of f.stands parent child)) c.in-Some.ensures.steps c.loop-cell.invariant)

pub loop-cell-preserved : goal.loop-cell-preserved
loop-cell-preserved g c =
    let f = g.C.ForkJoin in
    let m = g.met.C.ForkJoin in
    let laws : IsLawful f.plain f.effect_of f.stands = record { applied = f.applied; combined = f.combined; by_effect = m.stands_by_effect; plain_append = m.plain_append; effect_append = m.effect_append; effect_empty = m.effect_empty } in
    let parent = c.args.self.now in
    let child = c.loop-cell.child in
    let e = c.in-Some.field-0.now in
    fork_step f.plain f.effect_of f.stands laws c.cell_orders.ensures.apart c.cell_orders.ensures.total parent child c.keep.new.self e.0 e.1 c.in-Some-get.state.now c.fork.result c.next.new.self
    (ap (λ (l : List (Cell × g.row.C.Denot)). kept_at l e.0) (sym c.self.view_is) ∙ sym c.in-Some-get.ensures)
    (subst (λ (k : Cell). Puts f.plain f.effect_of f.stands k c.fork.result child c.keep.new.self) c.copied-in-loop-cell.ensures c.in_ok-keep.ensures.ok)
    c.fork.ensures
    (subst (λ (l : List (Cell × Unit {0})). Walked l (Same parent child) (Forked f.plain f.effect_of f.stands parent child)) c.in-Some.ensures.steps c.loop-cell.invariant)

pub returns : goal.returns
returns g c =
    let f = g.C.ForkJoin in
    let child = c.loop-cell.child in
    forks_stands f.plain f.effect_of f.stands c.args.self.now child
    (walk_end c.loop-cell.cell-iterator (Same c.args.self.now child) (Forked f.plain f.effect_of f.stands c.args.self.now child) c.in-None.ensures.steps.0 c.loop-cell.invariant)
