use Rattle.std.proofs.Common.{◌∙◌, sym, subst, ◌++◌}
use Rattle.std.specs.Prelude.{map}
use Rattle.cloud_base.specs.declared.schema.CellType.TheVariants as cell
use Rattle.fj_core.specs.Changes.{ints, texts}
use Rattle.fj_core.specs.IntCells.{int_plain, int_effect, IntStands}
use Rattle.fj_core.specs.TextCells.{text_plain, text_effect, TextStands}
use Rattle.fj_array.specs.Grids.{GridStands}
use Rattle.fj_entity.proofs.GroupLemmas.{on_ok}
use Rattle.schema_fj.specs.Held.{Held}
use Rattle.schema_fj.specs.States.{changes_in, StateHolds}
use Rattle.schema_fj.proofs.StateSteps.{type_is, dead_cell, number_cell, text_cell}
use Rattle.schema_fj.proofs.state.State.change.Goals as goal

pub returns-then-has_dead-clause-ok : goal.returns-then-has_dead-clause-ok
returns-then-has_dead-clause-ok c schema base delta stands =
    let h = subst (λ (s : Held). StateHolds schema s base delta) (sym c.self.view_is) stands in
    dead_cell schema c.args.self.now base delta c.args.property c.args.keys.now c.args.change.now (record { parts = c.cell_orders.ensures.by_parts; total = c.cell_orders.ensures.total; apart = c.cell_orders.ensures.apart }) stands
    (sym (c.has_dead.ensures.means (base ++ delta) h.roster) ∙ c.if-has_dead.true)

pub returns-in-Int-clause-ok : goal.returns-in-Int-clause-ok
returns-in-Int-clause-ok c =
    on_ok c.change_cell.result
    (λ grid schema base delta stands.
    let held : Held = record { types = c.self.inside.types; numbers = c.self.inside.numbers; texts = c.self.inside.texts; fates = c.self.inside.roster; born = c.self.inside.born.keys; died = c.self.inside.died.keys } in
    let h : StateHolds schema held base delta = subst (λ (s : Held). StateHolds schema s base delta) (sym c.self.view_is) stands in
    number_cell schema held base delta c.args.property c.args.keys.now c.args.change.now (record { parts = c.cell_orders.ensures.by_parts; total = c.cell_orders.ensures.total; apart = c.cell_orders.ensures.apart }) c.change_cell.new.grid h
    (sym (c.has_dead.ensures.means (base ++ delta) h.roster) ∙ c.if-has_dead.false)
    (sym (type_is schema c.args.self.now.types c.args.property stands.types) ∙ sym c.type_of.ensures ∙ c.in-Int.is)
    (subst (λ l. GridStands int_plain int_effect IntStands c.change_cell.new.grid (changes_in schema cell.Int ints (base ++ delta) base) (changes_in schema cell.Int ints (base ++ delta) delta ++ map (λ x. record { cell = record { property = c.args.property; keys = c.args.keys.now }; change = x }) l)) c.number_change-change.ensures
    (grid (changes_in schema cell.Int ints (base ++ delta) base) (changes_in schema cell.Int ints (base ++ delta) delta) h.numbers)))
    c.change_cell.ensures.ok

pub returns-in-Text-clause-ok : goal.returns-in-Text-clause-ok
returns-in-Text-clause-ok c =
    on_ok c.change_cell-in-Text.result
    (λ grid schema base delta stands.
    let held : Held = record { types = c.self.inside.types; numbers = c.self.inside.numbers; texts = c.self.inside.texts; fates = c.self.inside.roster; born = c.self.inside.born.keys; died = c.self.inside.died.keys } in
    let h : StateHolds schema held base delta = subst (λ (s : Held). StateHolds schema s base delta) (sym c.self.view_is) stands in
    text_cell schema held base delta c.args.property c.args.keys.now c.args.change.now (record { parts = c.cell_orders.ensures.by_parts; total = c.cell_orders.ensures.total; apart = c.cell_orders.ensures.apart }) c.change_cell-in-Text.new.grid h
    (sym (c.has_dead.ensures.means (base ++ delta) h.roster) ∙ c.if-has_dead.false)
    (sym (type_is schema c.args.self.now.types c.args.property stands.types) ∙ sym c.type_of.ensures ∙ c.in-Text.is)
    (subst (λ l. GridStands text_plain text_effect TextStands c.change_cell-in-Text.new.grid (changes_in schema cell.Text texts (base ++ delta) base) (changes_in schema cell.Text texts (base ++ delta) delta ++ map (λ x. record { cell = record { property = c.args.property; keys = c.args.keys.now }; change = x }) l)) c.text_change-change.ensures
    (grid (changes_in schema cell.Text texts (base ++ delta) base) (changes_in schema cell.Text texts (base ++ delta) delta) h.texts)))
    c.change_cell-in-Text.ensures.ok
