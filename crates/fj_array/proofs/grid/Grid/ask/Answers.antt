use Rattle.std.proofs.Common.{ap, sym, ◌∙◌, [], List}
use Rattle.cloud_base.specs.declared.key.Key.{Key}
use Rattle.fj_array.specs.declared.cell.Cell.{Cell}
use Rattle.fj_array.specs.Cells.{of_cell}
use Rattle.fj_array.specs.Grids.{kept_at}
use Rattle.fj_array.proofs.CellLemmas.{of_cell-append}
use Rattle.fj_array.proofs.GridLemmas.{when_some, when_none}
use Rattle.fj_array.proofs.grid.Grid.ask.Goals as goal

pub returns-in-Some : goal.returns-in-Some
returns-in-Some g c base delta h =
    let f = g.C.ForkJoin in
    let cell : Cell = record { property = c.args.property; keys = c.args.keys.now } in
    let found = c.in-Some.ensures ∙ ap (λ (l : List (Cell × g.row.C.Denot)). kept_at l (record { property = c.args.property; keys = c.copied.result })) c.self.view_is
    ∙ ap (λ (keys : List Key). kept_at c.args.self.now (record { property = c.args.property; keys = keys })) c.copied.ensures in
    let held = when_some f.plain f.effect_of f.stands (kept_at c.args.self.now cell) c.in-Some.state.now (of_cell cell base) (of_cell cell delta) found (h cell) in
    c.ask.ensures (of_cell cell base) (of_cell cell delta) held.0 ∙ ap f.plain (sym (of_cell-append cell base delta))

pub returns-in-None : goal.returns-in-None
returns-in-None g c base delta h =
    let f = g.C.ForkJoin in
    let cell : Cell = record { property = c.args.property; keys = c.args.keys.now } in
    let found = c.in-None.ensures ∙ ap (λ (l : List (Cell × g.row.C.Denot)). kept_at l (record { property = c.args.property; keys = c.copied.result })) c.self.view_is
    ∙ ap (λ (keys : List Key). kept_at c.args.self.now (record { property = c.args.property; keys = keys })) c.copied.ensures in
    let idle = when_none f.plain f.effect_of f.stands (kept_at c.args.self.now cell) (of_cell cell base) (of_cell cell delta) found (h cell) in
    c.ask-in-None.ensures [] [] c.fresh-fresh.ensures ∙ sym idle.0 ∙ ap f.plain (sym (of_cell-append cell base delta))
