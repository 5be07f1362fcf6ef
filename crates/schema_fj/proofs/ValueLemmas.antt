-- What a state answers is what the log answers.
use Rattle.std.proofs.Common.{◌≡◌, refl, sym, ◌∙◌, ap, subst, ℕ, Bool, true, false, cond, List, [], ◌++◌}
use Rattle.std.specs.Prelude.{IsTrue, ℤ, pos, not, ◌&&◌, ◌||◌}
use Rattle.std.specs.List.{flat_map}
use Rattle.std.proofs.lemmas.Bool.{and_parts, false≢true}
use Rattle.cloud_base.specs.Order.{keys_order}
use Rattle.cloud_base.specs.PlainCell.{plain_value, plain_int, plain_text, default_of, is_default}
use Rattle.cloud_base.specs.Answer.{entries, cell_value, is_entry}
use Rattle.cloud_base.specs.Dead.{has_dead}
use Rattle.cloud_base.specs.Log as plain_log
use Rattle.cloud_base.specs.Shaped.{Fit, IsValue, cell_type}
use Rattle.cloud_base.specs.Sorted.{Lists}
use Rattle.cloud_base.specs.declared.key.Key.{Key}
use Rattle.cloud_base.specs.declared.schema.Schema.{Schema}
use Rattle.cloud_base.specs.declared.schema.CellType.{CellType}
use Rattle.cloud_base.specs.declared.schema.CellType.TheVariants as cell
use Rattle.cloud_base.specs.declared.update.Answer.{Answer}
use Rattle.cloud_base.specs.declared.update.Answer.TheVariants as answers
use Rattle.cloud_base.specs.declared.update.CellChange.{CellChange}
use Rattle.cloud_base.specs.declared.update.Update.{Update}
use Rattle.cloud_base.proofs.OrderLemmas.{keys_order_total, keys_same}
use Rattle.cloud_base.proofs.SortedLemmas.{lists_one}
use Rattle.cloud_base.proofs.AnswerLemmas.{entries_lists}
use Rattle.cloud_base.proofs.ShapedLemmas.{default_decides, value_fits}
use Rattle.fj_core.specs.Changes.{ints, texts}
use Rattle.fj_core.specs.IntCells.{int_plain}
use Rattle.fj_core.specs.IntLaws.{int_plain-empty}
use Rattle.fj_core.specs.TextCells.{text_plain}
use Rattle.fj_core.proofs.ChangeLemmas.{plain_int-ints, plain_text-texts}
use Rattle.fj_array.specs.Cells.{of_cell}
use Rattle.schema_fj.specs.States.{changes_in, same_type}
use Rattle.schema_fj.proofs.Changes.{ByParts, changes_in-append}
use Rattle.schema_fj.proofs.CellLaws.{of_changes}
use Rattle.schema_fj.proofs.StateSteps.{lists_as, keys_apart}

-- the changes of a cell in the two logs of a grid
both : {C : Type 0} (parts : ByParts) (schema : Schema) (type : CellType) (of : CellChange → List C) (base delta : List Update) (p : ℕ) (ks : List Key) → same_type type type ≡ true → cell_type schema p ≡ type
    → of_cell (record { property = p; keys = ks }) (changes_in schema type of (base ++ delta) base ++ changes_in schema type of (base ++ delta) delta)
    ≡ cond (has_dead (base ++ delta) ks) [] (flat_map of (plain_log.of_cell p ks (base ++ delta)))
both parts schema type of base delta p ks same is =
    ap (of_cell (record { property = p; keys = ks })) (sym (changes_in-append schema type of (base ++ delta) base delta))
    ∙ of_changes parts keys_apart schema type of (base ++ delta) p ks (base ++ delta)
    ∙ ap (λ t. cond (not (same_type t type) || has_dead (base ++ delta) ks) [] (flat_map of (plain_log.of_cell p ks (base ++ delta)))) is
    ∙ ap (λ b. cond (not b || has_dead (base ++ delta) ks) [] (flat_map of (plain_log.of_cell p ks (base ++ delta)))) same

pub value_int : (parts : ByParts) (schema : Schema) (base delta : List Update) (p : ℕ) (ks : List Key) (n : ℤ) → cell_type schema p ≡ cell.Int
    → n ≡ int_plain (of_cell (record { property = p; keys = ks }) (changes_in schema cell.Int ints (base ++ delta) base ++ changes_in schema cell.Int ints (base ++ delta) delta))
    → cell_value schema (base ++ delta) p ks ≡ answers.Int n
unfolding plain_value
value_int parts schema base delta p ks n type e =
    ap (λ t. cond (has_dead (base ++ delta) ks) (default_of t) (plain_value t (plain_log.of_cell p ks (base ++ delta)))) type
    ∙ by (has_dead (base ++ delta) ks) (plain_log.of_cell p ks (base ++ delta))
    ∙ ap answers.Int (sym (e ∙ ap int_plain (both parts schema cell.Int ints base delta p ks refl type)))
  where
    by : (d : Bool) (changes : List CellChange) → cond d (answers.Int (pos 0)) (answers.Int (plain_int changes)) ≡ answers.Int (int_plain (cond d [] (flat_map ints changes)))
    by true changes = ap answers.Int (sym int_plain-empty)
    by false changes = ap answers.Int (plain_int-ints changes)

text_plain-empty : text_plain [] ≡ []
unfolding plain_text
text_plain-empty = refl

pub value_text : (parts : ByParts) (schema : Schema) (base delta : List Update) (p : ℕ) (ks : List Key) (t : List ℕ) → cell_type schema p ≡ cell.Text
    → t ≡ text_plain (of_cell (record { property = p; keys = ks }) (changes_in schema cell.Text texts (base ++ delta) base ++ changes_in schema cell.Text texts (base ++ delta) delta))
    → cell_value schema (base ++ delta) p ks ≡ answers.Text t
unfolding plain_value
value_text parts schema base delta p ks t type e =
    ap (λ t. cond (has_dead (base ++ delta) ks) (default_of t) (plain_value t (plain_log.of_cell p ks (base ++ delta)))) type
    ∙ by (has_dead (base ++ delta) ks) (plain_log.of_cell p ks (base ++ delta))
    ∙ ap answers.Text (sym (e ∙ ap text_plain (both parts schema cell.Text texts base delta p ks refl type)))
  where
    by : (d : Bool) (changes : List CellChange) → cond d (answers.Text []) (answers.Text (plain_text changes)) ≡ answers.Text (text_plain (cond d [] (flat_map texts changes)))
    by true changes = ap answers.Text (sym text_plain-empty)
    by false changes = ap answers.Text (plain_text-texts changes)

-- the listed keys are those of the cells with another value than the default
entries_are : {V : Type 0} (schema : Schema) (whole : List Update) (p : ℕ) (type : CellType) (wrap : V → Answer) (none : V) (value : List Key → V) (list : List (List Key)) → Fit schema whole → cell_type schema p ≡ type
    → wrap none ≡ default_of type → ((a b : V) → wrap a ≡ wrap b → a ≡ b) → ((ks : List Key) → cell_value schema whole p ks ≡ wrap (value ks)) → ((ks : List Key) → has_dead whole ks ≡ true → value ks ≡ none)
    → Lists keys_order list (λ ks. value ks ≡ none → ⊥) → list ≡ entries schema whole p
entries_are schema whole p type wrap none value list fit is default same values dead lists =
    lists_one keys_order_total keys_same list (entries schema whole p) (λ ks. IsTrue (is_entry schema whole p ks))
    (lists_as list (λ ks. value ks ≡ none → ⊥) (λ ks. IsTrue (is_entry schema whole p ks)) forward back lists) (entries_lists schema whole p)
  where
    fits : (ks : List Key) → IsValue type (cell_value schema whole p ks)
    fits ks = subst (λ t. IsValue t (cell_value schema whole p ks)) is (value_fits schema whole p ks fit.shaped)

    set : (ks : List Key) → is_default (cell_value schema whole p ks) ≡ true → value ks ≡ none
    set ks t = same (value ks) none (sym (values ks) ∙ (default_decides type (cell_value schema whole p ks) (fits ks)).0 t ∙ sym default)

    forward : (ks : List Key) → (value ks ≡ none → ⊥) → is_entry schema whole p ks ≡ true
    forward ks h = at (has_dead whole ks) refl (is_default (cell_value schema whole p ks)) refl
      where
        at : (d : Bool) → has_dead whole ks ≡ d → (z : Bool) → is_default (cell_value schema whole p ks) ≡ z → is_entry schema whole p ks ≡ true
        at true e z f = absurd (h (dead ks e))
        at false e true f = absurd (h (set ks f))
        at false e false f = λ i. not (e i) && not (f i)

    back : (ks : List Key) → is_entry schema whole p ks ≡ true → value ks ≡ none → ⊥
    back ks t e =
        let parts = and_parts (not (has_dead whole ks)) (not (is_default (cell_value schema whole p ks))) t in
        let z : is_default (cell_value schema whole p ks) ≡ true = (default_decides type (cell_value schema whole p ks) (fits ks)).1 (values ks ∙ ap wrap e ∙ default) in
        false≢true (ap not (sym z) ∙ parts.1)

pub entries_int : (parts : ByParts) (schema : Schema) (base delta : List Update) (p : ℕ) (list : List (List Key)) → Fit schema (base ++ delta) → cell_type schema p ≡ cell.Int
    → Lists keys_order list (λ ks. int_plain (of_cell (record { property = p; keys = ks }) (changes_in schema cell.Int ints (base ++ delta) base ++ changes_in schema cell.Int ints (base ++ delta) delta)) ≡ int_plain [] → ⊥)
    → list ≡ entries schema (base ++ delta) p
entries_int parts schema base delta p list fit type =
    entries_are schema (base ++ delta) p cell.Int answers.Int (int_plain [])
    (λ ks. int_plain (of_cell (record { property = p; keys = ks }) (changes_in schema cell.Int ints (base ++ delta) base ++ changes_in schema cell.Int ints (base ++ delta) delta))) list fit type
    (ap answers.Int int_plain-empty) (λ a b e. same a b e) (λ ks. value_int parts schema base delta p ks _ type refl)
    (λ ks d. ap int_plain (both parts schema cell.Int ints base delta p ks refl type ∙ ap (λ b. cond b [] (flat_map ints (plain_log.of_cell p ks (base ++ delta)))) d))
  where
    same : (a b : ℤ) → answers.Int a ≡ answers.Int b → a ≡ b
    same a b e = cc

pub entries_text : (parts : ByParts) (schema : Schema) (base delta : List Update) (p : ℕ) (list : List (List Key)) → Fit schema (base ++ delta) → cell_type schema p ≡ cell.Text
    → Lists keys_order list (λ ks. text_plain (of_cell (record { property = p; keys = ks }) (changes_in schema cell.Text texts (base ++ delta) base ++ changes_in schema cell.Text texts (base ++ delta) delta)) ≡ text_plain [] → ⊥)
    → list ≡ entries schema (base ++ delta) p
entries_text parts schema base delta p list fit type =
    entries_are schema (base ++ delta) p cell.Text answers.Text (text_plain [])
    (λ ks. text_plain (of_cell (record { property = p; keys = ks }) (changes_in schema cell.Text texts (base ++ delta) base ++ changes_in schema cell.Text texts (base ++ delta) delta))) list fit type
    (ap answers.Text text_plain-empty) (λ a b e. same a b e) (λ ks. value_text parts schema base delta p ks _ type refl)
    (λ ks d. ap text_plain (both parts schema cell.Text texts base delta p ks refl type ∙ ap (λ b. cond b [] (flat_map texts (plain_log.of_cell p ks (base ++ delta)))) d))
  where
    same : (a b : List ℕ) → answers.Text a ≡ answers.Text b → a ≡ b
    same a b e = cc
