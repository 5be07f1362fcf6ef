use Rattle.std.proofs.Common.{◌≡◌, ◌∙◌, sym, subst, List, [], ◌++◌}
use Rattle.cloud_base.specs.Answer.{entries}
use Rattle.cloud_base.specs.Order.{keys_order}
use Rattle.cloud_base.specs.Sorted.{Lists}
use Rattle.cloud_base.specs.declared.key.Key.{Key}
use Rattle.cloud_base.specs.declared.schema.Schema.{Schema}
use Rattle.cloud_base.specs.declared.schema.CellType.TheVariants as cell
use Rattle.cloud_base.specs.declared.update.Update.{Update}
use Rattle.fj_core.specs.Changes.{ints, texts}
use Rattle.fj_core.specs.IntCells.{int_plain, int_effect, IntStands}
use Rattle.fj_core.specs.TextCells.{text_plain, text_effect, TextStands}
use Rattle.fj_core.specs.declared.int_cell.IntChange.{IntChange}
use Rattle.fj_core.specs.declared.text_cell.TextChange.{TextChange}
use Rattle.fj_array.specs.Cells.{At, of_cell}
use Rattle.fj_array.specs.Grids.{GridStands}
use Rattle.fj_entity.proofs.RosterLemmas.{if_ok}
use Rattle.schema_fj.specs.Held.{Held}
use Rattle.schema_fj.specs.States.{changes_in, StateStands}
use Rattle.schema_fj.proofs.StateSteps.{type_is}
use Rattle.schema_fj.proofs.ValueLemmas.{entries_int, entries_text}
use Rattle.schema_fj.proofs.state.State.entries.Goals as goal

pub returns-in-Int : goal.returns-in-Int
returns-in-Int c =
    if_ok (λ (list : List (List Key)). (b d : List (At IntChange)) → GridStands int_plain int_effect IntStands c.self.inside.numbers b d → Lists keys_order list (λ ks. int_plain (of_cell (record { property = c.args.property; keys = ks }) (b ++ d)) ≡ int_plain [] → ⊥))
    (λ (list : List (List Key)). (schema : Schema) (base delta : List Update) → StateStands schema c.args.self.now base delta → list ≡ entries schema (base ++ delta) c.args.property)
    c.entries.result
    (λ list lists schema base delta stands.
    let h = subst (λ (s : Held). StateStands schema s base delta) (sym c.self.view_is) stands in
    entries_int c.cell_orders.ensures.by_parts schema base delta c.args.property list h.fit
    (sym (type_is schema c.args.self.now.types c.args.property stands.holds.types) ∙ sym c.type_of.ensures ∙ c.in-Int.is)
    (lists (changes_in schema cell.Int ints (base ++ delta) base) (changes_in schema cell.Int ints (base ++ delta) delta) h.holds.numbers))
    c.entries.ensures

pub returns-in-Text : goal.returns-in-Text
returns-in-Text c =
    if_ok (λ (list : List (List Key)). (b d : List (At TextChange)) → GridStands text_plain text_effect TextStands c.self.inside.texts b d → Lists keys_order list (λ ks. text_plain (of_cell (record { property = c.args.property; keys = ks }) (b ++ d)) ≡ text_plain [] → ⊥))
    (λ (list : List (List Key)). (schema : Schema) (base delta : List Update) → StateStands schema c.args.self.now base delta → list ≡ entries schema (base ++ delta) c.args.property)
    c.entries-in-Text.result
    (λ list lists schema base delta stands.
    let h = subst (λ (s : Held). StateStands schema s base delta) (sym c.self.view_is) stands in
    entries_text c.cell_orders.ensures.by_parts schema base delta c.args.property list h.fit
    (sym (type_is schema c.args.self.now.types c.args.property stands.holds.types) ∙ sym c.type_of.ensures ∙ c.in-Text.is)
    (lists (changes_in schema cell.Text texts (base ++ delta) base) (changes_in schema cell.Text texts (base ++ delta) delta) h.holds.texts))
    c.entries-in-Text.ensures
