use Rattle.std.proofs.Common.{◌≡◌, refl, sym, ◌∙◌, ap, subst, false, [], ◌∷◌}
use Rattle.std.specs.Prelude.{◌&&◌, is_some}
use Rattle.cloud_base.specs.declared.schema.CellType.{CellType}
use Rattle.cloud_base.specs.declared.schema.CellType.TheVariants as cell
use Rattle.fj_core.specs.IntCells.{int_plain, int_effect, IntStands}
use Rattle.fj_core.specs.TextCells.{text_plain, text_effect, TextStands}
use Rattle.fj_entity.proofs.GroupLemmas.{on_ok}
use Rattle.schema_fj.specs.Held.{Held}
use Rattle.schema_fj.specs.Placed.{number_in, text_in, counts, PutsCells}
use Rattle.schema_fj.specs.Sets.{type_at}
use Rattle.schema_fj.specs.States.{same_type}
use Rattle.schema_fj.proofs.Restored.{puts_of, puts_skip}
use Rattle.schema_fj.proofs.state.State.put_value.Goals as goal

pub returns-in-Int : goal.returns-in-Int
returns-in-Int c =
    on_ok c.put_one.result
    (λ one.
    let held : Held = record { types = c.self.inside.types; numbers = c.self.inside.numbers; texts = c.self.inside.texts; fates = c.self.inside.roster; born = c.self.inside.born.keys; died = c.self.inside.died.keys } in
    let new : Held = record { types = c.self.inside.types; numbers = c.put_one.new.grid; texts = c.self.inside.texts; fates = c.self.inside.roster; born = c.self.inside.born.keys; died = c.self.inside.died.keys } in
    let is : type_at held.types c.args.it.now.property ≡ cell.Int = ap (λ (s : Held). type_at s.types c.args.it.now.property) c.self.view_is ∙ sym c.type_of.ensures ∙ c.in-Int.is in
    let counted : counts held.types cell.Int number_in c.args.it.now ≡ is_some (number_in c.args.it.now.value) = ap (λ (t : CellType). same_type t cell.Int && is_some (number_in c.args.it.now.value)) is in
    let other : counts held.types cell.Text text_in c.args.it.now ≡ false = ap (λ (t : CellType). same_type t cell.Text && is_some (text_in c.args.it.now.value)) is in
    let puts : PutsCells (c.args.it.now ∷ []) held new = record {
      kept = record { types = refl; fates = refl; born = refl; died = refl };
      numbers = puts_of int_plain int_effect IntStands number_in (counts held.types cell.Int number_in) c.args.it.now held.numbers c.put_one.new.grid c.number_in.result c.number_in.ensures (counted ∙ ap is_some (sym c.number_in.ensures)) one;
      texts = puts_skip text_plain text_effect TextStands text_in (counts held.types cell.Text text_in) c.args.it.now held.texts other;
    } in
    subst (λ (s : Held). PutsCells (c.args.it.now ∷ []) s new) c.self.view_is puts)
    c.put_one.ensures

pub returns-in-Text : goal.returns-in-Text
returns-in-Text c =
    on_ok c.put_one-in-Text.result
    (λ one.
    let held : Held = record { types = c.self.inside.types; numbers = c.self.inside.numbers; texts = c.self.inside.texts; fates = c.self.inside.roster; born = c.self.inside.born.keys; died = c.self.inside.died.keys } in
    let new : Held = record { types = c.self.inside.types; numbers = c.self.inside.numbers; texts = c.put_one-in-Text.new.grid; fates = c.self.inside.roster; born = c.self.inside.born.keys; died = c.self.inside.died.keys } in
    let is : type_at held.types c.args.it.now.property ≡ cell.Text = ap (λ (s : Held). type_at s.types c.args.it.now.property) c.self.view_is ∙ sym c.type_of.ensures ∙ c.in-Text.is in
    let counted : counts held.types cell.Text text_in c.args.it.now ≡ is_some (text_in c.args.it.now.value) = ap (λ (t : CellType). same_type t cell.Text && is_some (text_in c.args.it.now.value)) is in
    let other : counts held.types cell.Int number_in c.args.it.now ≡ false = ap (λ (t : CellType). same_type t cell.Int && is_some (number_in c.args.it.now.value)) is in
    let puts : PutsCells (c.args.it.now ∷ []) held new = record {
      kept = record { types = refl; fates = refl; born = refl; died = refl };
      numbers = puts_skip int_plain int_effect IntStands number_in (counts held.types cell.Int number_in) c.args.it.now held.numbers other;
      texts = puts_of text_plain text_effect TextStands text_in (counts held.types cell.Text text_in) c.args.it.now held.texts c.put_one-in-Text.new.grid c.text_in.result c.text_in.ensures (counted ∙ ap is_some (sym c.text_in.ensures)) one;
    } in
    subst (λ (s : Held). PutsCells (c.args.it.now ∷ []) s new) c.self.view_is puts)
    c.put_one-in-Text.ensures
