-- What a log of a schema's shape did, and what it comes to, is of the schema's shape.
use Rattle.std.proofs.Common.{◌≡◌, refl, sym, ◌∙◌, ap, subst, ℕ, zero, suc, ℤ, pos, negsuc, ◌^◌, ◌<◌, ◌≤◌, Bool, true, false, cond, List, [], ◌∷◌, ◌++◌, length, inl, inr, arith}
use Rattle.std.specs.Prelude.{All, Contains, FitsSigned, Option, Some, None}
use Rattle.std.specs.Cmp.{IsTotalOrder}
use Rattle.std.specs.Int.{w64, int_wrap}
use Rattle.std.specs.List.{flat_map}
use Rattle.std.specs.Ordering.{is_eq}
use Rattle.std.proofs.lemmas.Int.{SFits-int_wrap}
use Rattle.std.proofs.lemmas.List.Elements.{All-append, All-contains, All-contains_itself, All-head, All-tail, All-weaker}
use Rattle.cloud_base.specs.Answer.{answer, cell_value}
use Rattle.cloud_base.specs.Dead.{is_dead}
use Rattle.cloud_base.specs.Log.{Creation, creation, of_cell, parents}
use Rattle.cloud_base.specs.Order.{id_order}
use Rattle.cloud_base.specs.PlainCell.{plain_int, plain_text, plain_value}
use Rattle.cloud_base.specs.Shaped.{IsId, IsCell, IsChange, IsShaped, IsValue, cell_type}
use Rattle.cloud_base.specs.Values.{Id, IsText}
use Rattle.cloud_base.specs.declared.key.Key.{Key}
use Rattle.cloud_base.specs.declared.schema.CellType.{CellType}
use Rattle.cloud_base.specs.declared.schema.CellType.TheVariants as cell
use Rattle.cloud_base.specs.declared.schema.Schema.{Schema}
use Rattle.cloud_base.specs.declared.update.Answer.{Answer}
use Rattle.cloud_base.specs.declared.update.CellChange.{CellChange}
use Rattle.cloud_base.specs.declared.update.CellChange.TheVariants as change
use Rattle.cloud_base.specs.declared.update.Update.{Update}
use Rattle.cloud_base.specs.declared.update.Update.TheVariants.{Cell as Changes, Create, Delete}
use Rattle.cloud_base.proofs.LogLemmas.{created_member}
use Rattle.cloud_base.proofs.PlainLemmas.{int_fits}
use Rattle.cloud_base.proofs.ShapedLemmas.{plain_is_value, changes_fit, value_fits}
use Rattle.cloud_base.proofs.SortedLemmas.{none_in, split_member}
use Rattle.fj_core.specs.Changes.{ints, texts, of_int}
use Rattle.fj_core.specs.IntCells.{int_plain, has_int_set, added, add_effect}
use Rattle.fj_core.specs.TextCells.{text_plain, has_text_set, offer_or, first_offer, offer_effect}
use Rattle.fj_core.specs.declared.effect.Effect.{Effect}
use Rattle.fj_core.specs.declared.effect.Effect.TheVariants.{Add, SetInt, SetText, IfEmpty}
use Rattle.fj_core.proofs.ChangeLemmas.{plain_text-texts}
use Rattle.fj_array.specs.declared.cell.Cell.{Cell}
use Rattle.fj_array.specs.declared.effect.CellEffect.{CellEffect}
use Rattle.fj_array.specs.Cells.{cell_order}
use Rattle.fj_array.specs.Effects.{cell_of}
use Rattle.fj_entity.specs.declared.created.Created.{Created}
use Rattle.change_lists.specs.Effects.{effect_of, IsDone, IsEffect}
use Rattle.change_lists.specs.Images.{answer_of, IsHeld, IsImage}
use Rattle.change_lists.specs.Lists.{ChangeLists, ImageLists, IsFilled, place_of}
use Rattle.change_lists.specs.declared.value.CellValue.{CellValue}
use Rattle.change_lists.specs.declared.value.Content.{Content}
use Rattle.change_lists.specs.declared.value.Content.TheVariants as content
use Rattle.change_lists.proofs.Told.{effect_is_effective, effect_lists, image_lists}
use Rattle.packet_bytes.specs.Spelling.{IsEffectOn, IsContentOf, IsCreatedOf, IsEffectOf, IsValueOf, IsListOf, IsChangeOf, IsImageOf}
use Rattle.packet_codec.proofs.Counted.{named, changed, dead_named, done_changed, held_changed, few_told, few_held}

is_the : {A : Type 0} (x y : A) → Some x ≡ Some y → x ≡ y
is_the x y e = cc

all_members : {A : Type 0} (P : A → Type 0) (xs : List A) → ((x : A) → Contains xs x → P x) → All P xs
all_members P xs f = All-weaker (Contains xs) P f xs (All-contains_itself xs)

-- ---- what a shaped log names

named_id : (schema : Schema) (log : List Update) (id : Id) → All (IsShaped schema) log → Contains (named log) id → IsId id
named_id schema [] id all h = absurd (none_in id h)
named_id schema (Changes p ks c ∷ log) id all h = named_id schema log id (All-tail (IsShaped schema) (Changes p ks c) log all) h
named_id schema (Create v e ks ∷ log) id all h = elim (split_member v id (named log) h) [
  | inl is ↦ subst IsId is (All-head (IsShaped schema) (Create v e ks) log all).0
  | inr m ↦ named_id schema log id (All-tail (IsShaped schema) (Create v e ks) log all) m
]
named_id schema (Delete v ∷ log) id all h = elim (split_member v id (named log) h) [
  | inl is ↦ subst IsId is (All-head (IsShaped schema) (Delete v) log all)
  | inr m ↦ named_id schema log id (All-tail (IsShaped schema) (Delete v) log all) m
]

changed_cell : (schema : Schema) (log : List Update) (it : Cell) → All (IsShaped schema) log → Contains (changed log) it → IsCell schema it.property it.keys
changed_cell schema [] it all h = absurd (none_in it h)
changed_cell schema (Create v e ks ∷ log) it all h = changed_cell schema log it (All-tail (IsShaped schema) (Create v e ks) log all) h
changed_cell schema (Delete v ∷ log) it all h = changed_cell schema log it (All-tail (IsShaped schema) (Delete v) log all) h
changed_cell schema (Changes p ks c ∷ log) it all h = elim (split_member (record { property = p; keys = ks }) it (changed log) h) [
  | inl is ↦ let P : Cell → Type 0 = λ it. IsCell schema it.property it.keys in subst P is (All-head (IsShaped schema) (Changes p ks c) log all).0
  | inr m ↦ changed_cell schema log it (All-tail (IsShaped schema) (Changes p ks c) log all) m
]

made_shaped : (schema : Schema) (log : List Update) (c : Created) → All (IsShaped schema) log → creation c.id log ≡ Some (record { entity = c.entity; keys = c.keys }) → IsCreatedOf schema c
made_shaped schema log c all h = All-contains (IsShaped schema) log (Create c.id c.entity c.keys) all (created_member c.id log (record { entity = c.entity; keys = c.keys }) h)

-- ---- effects

add_fits : (z : ℤ) (e : Effect) → FitsSigned w64 z → add_effect z ≡ Some e → IsEffectOn cell.Int e
add_fits (pos zero) e fits h = cc
add_fits (pos (suc n)) e fits h = subst (IsEffectOn cell.Int) (is_the (Add (pos (suc n))) e h) fits
add_fits (negsuc n) e fits h = subst (IsEffectOn cell.Int) (is_the (Add (negsuc n)) e h) fits

offer_or_is_text : (text : List ℕ) (other : Option (List ℕ)) (t : List ℕ) → IsText text → (other ≡ Some t → IsText t) → offer_or text other ≡ Some t → IsText t
offer_or_is_text [] other t first rest h = rest h
offer_or_is_text (b ∷ text) other t first rest h = subst IsText (is_the (b ∷ text) t h) first

offered_is_text : (changes : List CellChange) (t : List ℕ) → All (IsChange cell.Text) changes → first_offer (flat_map texts changes) ≡ Some t → IsText t
offered_is_text [] t all h = cc
offered_is_text (change.Add n ∷ changes) t all h = absurd (All-head (IsChange cell.Text) (change.Add n) changes all)
offered_is_text (change.SetInt n ∷ changes) t all h = absurd (All-head (IsChange cell.Text) (change.SetInt n) changes all)
offered_is_text (change.SetText text ∷ changes) t all h = offered_is_text changes t (All-tail (IsChange cell.Text) (change.SetText text) changes all) h
offered_is_text (change.SetIfEmpty text ∷ changes) t all h =
    offer_or_is_text text (first_offer (flat_map texts changes)) t (All-head (IsChange cell.Text) (change.SetIfEmpty text) changes all) (offered_is_text changes t (All-tail (IsChange cell.Text) (change.SetIfEmpty text) changes all)) h

offer_is_on : (o : Option (List ℕ)) (e : Effect) → ((t : List ℕ) → o ≡ Some t → IsText t) → offer_effect o ≡ Some e → IsEffectOn cell.Text e
offer_is_on None e each h = cc
offer_is_on (Some t) e each h = subst (IsEffectOn cell.Text) (is_the (IfEmpty t) e h) (each t refl)

walked_is_text : (changes : List CellChange) → All (IsChange cell.Text) changes → IsText (plain_text changes)
unfolding plain_value
walked_is_text changes all = plain_is_value cell.Text changes all

-- what changes of a type come to is an effect on cells of that type
effect_is_on : (type : CellType) (changes : List CellChange) (e : Effect) → All (IsChange type) changes → effect_of type changes ≡ Some e → IsEffectOn type e
effect_is_on cell.Int changes e all h =
    let its = flat_map ints changes in
    let P : Bool → Type 0 = λ b. cond b (Some (SetInt (int_plain its))) (add_effect (int_wrap w64 (added its))) ≡ Some e → IsEffectOn cell.Int e in
    let at : P (has_int_set its) = elim (has_int_set its) as P [
      | true ↦ λ k. subst (IsEffectOn cell.Int) (is_the (SetInt (int_plain its)) e k) (int_fits _)
      | false ↦ λ k. add_fits (int_wrap w64 (added its)) e (SFits-int_wrap w64 (added its)) k
    ] in
    at h
effect_is_on cell.Text changes e all h =
    let its = flat_map texts changes in
    let P : Bool → Type 0 = λ b. cond b (Some (SetText (text_plain its))) (offer_effect (first_offer its)) ≡ Some e → IsEffectOn cell.Text e in
    let at : P (has_text_set its) = elim (has_text_set its) as P [
      | true ↦ λ k. subst (IsEffectOn cell.Text) (is_the (SetText (text_plain its)) e k) (subst IsText (plain_text-texts changes) (walked_is_text changes all))
      | false ↦ λ k. offer_is_on (first_offer its) e (λ t o. offered_is_text changes t all o) k
    ] in
    at h

done_is_of : (schema : Schema) (base delta : List Update) (it : CellEffect) → All (IsShaped schema) delta → IsDone schema base delta it → IsEffectOf schema it
done_is_of schema base delta it all done =
    let type = cell_type schema it.property in
    let changes = of_cell it.property it.keys delta in (
      changed_cell schema delta (cell_of it) all (done_changed schema base delta it done),
      (effect_is_on type changes it.effect (changes_fit schema it.property it.keys delta all) done.1, effect_is_effective type changes it.effect done.1),
    )

-- ---- values

value_is_content : (type : CellType) (value : Content) → IsValue type (answer_of value) → IsContentOf type value
value_is_content cell.Int (content.Int n) h = h
value_is_content cell.Int (content.Text t) h = absurd h
value_is_content cell.Text (content.Int n) h = absurd h
value_is_content cell.Text (content.Text t) h = h

held_is_content : (schema : Schema) (log : List Update) (it : CellValue) → All (IsShaped schema) log → IsHeld schema log it → IsContentOf (cell_type schema it.property) it.value
unfolding answer
held_is_content schema log it all held =
    let type = cell_type schema it.property in
    value_is_content type it.value (subst (IsValue type) held.0 (value_fits schema log it.property it.keys all))

-- ---- whole lists

module _ (total : IsTotalOrder cell_order) (apart : (a b : Cell) → is_eq (cell_order a b) ≡ true → a ≡ b) where
  pub change_is_of : (schema : Schema) (base delta : List Update) (change : ChangeLists) → All (IsShaped schema) base → All (IsShaped schema) delta → length (base ++ delta) < 2 ^ 32 → IsEffect schema base delta change → IsChangeOf schema change
  change_is_of schema base delta change first second short effect =
      let few = few_told total apart schema base delta change effect in
      let all = All-append (IsShaped schema) base delta first second in
      let made = few.0 in let dead = few.1 in let cells = few.2 in
      record {
        created = record { few = omega arith; ascends = effect.created.ascends; each = all_members (IsCreatedOf schema) change.created (λ c m. made_shaped schema delta c second (effect.created.only c m).0) };
        dead = record { few = omega arith; ascends = effect.dead.ascends; each = all_members IsId change.dead (λ id m. named_id schema (base ++ delta) id all (dead_named (base ++ delta) id (effect.dead.only id m).0)) };
        cells = record { few = omega arith; ascends = effect.cells.ascends; each = all_members (IsEffectOf schema) change.cells (λ it m. done_is_of schema base delta it second (effect.cells.only it m)) };
      }

  pub image_is_of : (schema : Schema) (log : List Update) (image : ImageLists) → All (IsShaped schema) log → length log < 2 ^ 32 → IsImage schema log image → IsImageOf schema image
  image_is_of schema log image all short is =
      let few = few_held total apart schema log image is in
      let made = few.0 in let dead = few.1 in let cells = few.2 in
      let lists = image_lists schema log image is in
      record {
        created = record { few = omega arith; ascends = is.created.ascends; each = all_members (IsCreatedOf schema) image.created (λ c m. made_shaped schema log c all (is.created.only c m).0) };
        dead = record { few = omega arith; ascends = is.dead.ascends; each = all_members IsId image.dead (λ id m. named_id schema log id all (dead_named log id (is.dead.only id m))) };
        cells = record {
          few = omega arith;
          ascends = is.cells.ascends;
          each = all_members (IsValueOf schema) image.cells (λ it m. (
            changed_cell schema log (place_of it) all (held_changed schema log it (is.cells.only it m)),
            (held_is_content schema log it all (is.cells.only it m), All-contains (λ (v : CellValue). IsFilled v.value) image.cells it lists.values m),
          ));
        };
      }
