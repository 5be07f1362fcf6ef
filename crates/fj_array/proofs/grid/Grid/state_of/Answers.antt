use Rattle.std.proofs.Common.{ap, ◌∙◌, List}
use Rattle.fj_array.specs.declared.cell.Cell.{Cell}
use Rattle.fj_array.specs.Grids.{kept_at}
use Rattle.fj_array.proofs.CellLemmas.{IsLawful, fresh_stands}
use Rattle.fj_array.proofs.GridLemmas.{when_none}
use Rattle.fj_array.proofs.grid.Grid.state_of.Goals as goal

pub returns-in-None : goal.returns-in-None
returns-in-None g c base delta h =
    let f = g.C.ForkJoin in
    let m = g.met.C.ForkJoin in
    let laws : IsLawful f.plain f.effect_of f.stands = record { applied = f.applied; combined = f.combined; by_effect = m.stands_by_effect; plain_append = m.plain_append; effect_append = m.effect_append; effect_empty = m.effect_empty } in
    let found = c.in-None.ensures ∙ ap (λ (l : List (Cell × g.row.C.Denot)). kept_at l c.args.cell.now) c.self.view_is in
    fresh_stands laws c.fresh.result base delta c.fresh.ensures (when_none f.plain f.effect_of f.stands (kept_at c.args.self.now c.args.cell.now) base delta found h)
