-- A list that ascends and has exactly the items of which each name has one is the only one.
use Rattle.std.proofs.Common.{◌≡◌, refl, sym, ◌∙◌, ap, subst, ℕ, zero, suc, ℤ, pos, negsuc, Bool, true, false, cond, List, [], ◌∷◌, inl, inr, arith}
use Rattle.std.specs.Prelude.{◌⊎◌, ◌≢◌, ◌++◌, Option, Some, None, Contains, All, IsTrue}
use Rattle.std.specs.List.{AllByRecursion, flat_map}
use Rattle.std.specs.List.Sorted.{IsStrictlySortedBy}
use Rattle.std.specs.Int.{w64, int_wrap}
use Rattle.std.specs.Ordering.{is_eq}
use Rattle.std.specs.declared.cmp.Ordering.{Ordering}
use Rattle.std.specs.declared.cmp.Ordering.TheVariants.{Less, Equal, Greater}
use Rattle.std.specs.Cmp.{IsTotalOrder}
use Rattle.std.proofs.lemmas.Cmp.{tied_itself, on_total}
use Rattle.std.proofs.lemmas.Map.Keys.{sorted_head, sorted_tail}
use Rattle.std.proofs.lemmas.List.Elements.{All-from_recursion, All-contains, All-weaker, All-contains_itself}
use Rattle.cloud_base.specs.Values.{Id}
use Rattle.cloud_base.specs.Order.{id_order}
use Rattle.cloud_base.specs.Sorted.{Lists}
use Rattle.cloud_base.specs.Log.{Creation, creation, of_cell}
use Rattle.cloud_base.specs.PlainCell.{is_default}
use Rattle.cloud_base.specs.Shaped.{cell_type}
use Rattle.cloud_base.specs.Dead.{is_dead}
use Rattle.cloud_base.specs.Answer.{answer}
use Rattle.cloud_base.specs.declared.schema.CellType.{CellType}
use Rattle.cloud_base.specs.declared.schema.CellType.TheVariants as cell
use Rattle.cloud_base.specs.declared.schema.Schema.{Schema}
use Rattle.cloud_base.specs.declared.key.Key.{Key}
use Rattle.cloud_base.specs.declared.update.Answer.{Answer}
use Rattle.cloud_base.specs.declared.update.Answer.TheVariants.{Int, Text}
use Rattle.cloud_base.specs.declared.update.CellChange.{CellChange}
use Rattle.cloud_base.specs.declared.update.Query.TheVariants.{Get}
use Rattle.cloud_base.specs.declared.update.Update.{Update}
use Rattle.cloud_base.proofs.SortedLemmas.{here, there, split_member, none_in, lists_one}
use Rattle.cloud_base.proofs.OrderLemmas.{id_order_total, id_same}
use Rattle.fj_core.specs.Changes.{ints, texts}
use Rattle.fj_core.specs.IntCells.{has_int_set, int_plain, added, add_effect, int_effect}
use Rattle.fj_core.specs.TextCells.{has_text_set, text_plain, offer_or, first_offer, offer_effect, text_effect}
use Rattle.fj_core.specs.declared.text_cell.TextChange.{TextChange}
use Rattle.fj_core.specs.declared.text_cell.TextChange.TheVariants.{Set, IfEmpty as Offer}
use Rattle.fj_core.specs.declared.effect.Effect.{Effect}
use Rattle.fj_core.specs.declared.effect.Effect.TheVariants.{Add, SetInt, SetText, IfEmpty}
use Rattle.fj_array.specs.declared.cell.Cell.{Cell}
use Rattle.fj_array.specs.declared.effect.CellEffect.{CellEffect}
use Rattle.fj_array.specs.Cells.{cell_order}
use Rattle.fj_array.specs.Effects.{cell_of, effect_order}
use Rattle.fj_entity.specs.declared.created.Created.{Created}
use Rattle.fj_entity.specs.Rosters.{created_order, IsNewlyDead, IsLiving}
use Rattle.change_lists.specs.Lists.{ChangeLists, ImageLists, IsChangeLists, IsImageLists, IsEffective, IsFilled, place_of, value_order}
use Rattle.change_lists.specs.Effects.{effect_of, IsBorn, IsDone, IsEffect}
use Rattle.change_lists.specs.Images.{answer_of, IsHeld, IsImage}
use Rattle.change_lists.specs.declared.value.Content.{Content}
use Rattle.change_lists.specs.declared.value.Content.TheVariants as content
use Rattle.change_lists.specs.declared.value.CellValue.{CellValue}

above : {A : Type 0} (P : A → Type 0) (xs : List A) (y : A) → AllByRecursion P xs → Contains xs y → P y
above P xs y a m = All-contains P xs y (All-from_recursion P xs a) m

module _ {A : Type 0} {R : A → A → Ordering} (total : IsTotalOrder R) (P : A → Type 0) (same : (x y : A) → P x → P y → R x y ≡ Equal → x ≡ y) where
  not_below : (x : A) → R x x ≡ Less → ⊥
  not_below x e = let tied : R x x ≡ Equal = tied_itself total x in cc

  heads_at : (r : Ordering) (x y : A) (xs ys : List A) → R x y ≡ r → AllByRecursion (λ z. R x z ≡ Less) xs → AllByRecursion (λ z. R y z ≡ Less) ys → P x → P y → Contains (y ∷ ys) x → Contains (x ∷ xs) y → x ≡ y
  heads_at Less x y xs ys e a b p q m n = elim (split_member y x ys m) [ inl s ↦ sym s | inr s ↦ absurd (not_below x (total.trans x y x e (above (λ z. R y z ≡ Less) ys x b s))) ]
  heads_at Equal x y xs ys e a b p q m n = same x y p q e
  heads_at Greater x y xs ys e a b p q m n = elim (split_member x y xs n) [ inl s ↦ s | inr s ↦ let f = above (λ z. R x z ≡ Less) xs y a s in cc ]

  tail_has : (x : A) (xs ys : List A) → AllByRecursion (λ z. R x z ≡ Less) xs → ((z : A) → Contains (x ∷ xs) z → Contains (x ∷ ys) z) → (z : A) → Contains xs z → Contains ys z
  tail_has x xs ys a f z m = elim (split_member x z ys (f z (there x z xs m))) [
    | inl e ↦ absurd (not_below x (subst (λ w. R x w ≡ Less) (sym e) (above (λ w. R x w ≡ Less) xs z a m)))
    | inr n ↦ n
  ]

  same_lists : (xs ys : List A) → IsStrictlySortedBy R xs → IsStrictlySortedBy R ys → ((z : A) → Contains xs z → P z) → ((z : A) → Contains xs z → Contains ys z) → ((z : A) → Contains ys z → Contains xs z) → xs ≡ ys
  same_lists [] [] s t p f g = refl
  same_lists [] (y ∷ ys) s t p f g = absurd (none_in y (g y (here y ys)))
  same_lists (x ∷ xs) [] s t p f g = absurd (none_in x (f x (here x xs)))
  same_lists (x ∷ xs) (y ∷ ys) s t p f g =
      let a = sorted_head R x xs s in
      let b = sorted_head R y ys t in
      let e : x ≡ y = heads_at (R x y) x y xs ys refl a b (p x (here x xs)) (p y (g y (here y ys))) (f x (here x xs)) (g y (here y ys)) in
      let b' : AllByRecursion (λ z. R x z ≡ Less) ys = subst (λ w. AllByRecursion (λ z. R w z ≡ Less) ys) (sym e) b in
      let f' : (z : A) → Contains (x ∷ xs) z → Contains (x ∷ ys) z = λ z m. subst (λ w. Contains (w ∷ ys) z) (sym e) (f z m) in
      let g' : (z : A) → Contains (x ∷ ys) z → Contains (x ∷ xs) z = λ z m. g z (subst (λ w. Contains (w ∷ ys) z) e m) in
      let rest = same_lists xs ys (sorted_tail R x xs s) (sorted_tail R y ys t) (λ z m. p z (there x z xs m)) (tail_has x xs ys a f') (tail_has x ys xs b' g') in
      λ i. e i ∷ rest i

  pub told_once : (xs ys : List A) → Lists R xs P → Lists R ys P → xs ≡ ys
  told_once xs ys l k = same_lists xs ys l.ascends k.ascends l.only (λ z m. k.every z (l.only z m)) (λ z m. l.every z (k.only z m))

-- ---- created ids

is_the : {A : Type 0} (x y : A) → Some x ≡ Some y → x ≡ y
is_the x y e = cc

abbrev made : Created → Creation
made c = record { entity = c.entity; keys = c.keys }

abbrev some_made : Created → Option Creation
some_made c = Some (made c)

same_created : (c d : Created) → c.id ≡ d.id → some_made c ≡ some_made d → c ≡ d
same_created c d p e =
    let inner : made c ≡ made d = is_the (made c) (made d) e in
    λ i. record { id = p i; entity = (inner i).entity; keys = (inner i).keys }

same_born : (base delta : List Update) (c d : Created) → IsBorn base delta c → IsBorn base delta d → created_order c d ≡ Equal → c ≡ d
same_born base delta c d h k e =
    let p : c.id ≡ d.id = id_same c.id d.id e in
    same_created c d p (sym h.0 ∙ ap (λ (id : Id). creation id delta) p ∙ k.0)

same_living : (log : List Update) (c d : Created) → IsLiving log c → IsLiving log d → created_order c d ≡ Equal → c ≡ d
same_living log c d h k e =
    let p : c.id ≡ d.id = id_same c.id d.id e in
    same_created c d p (sym h.0 ∙ ap (λ (id : Id). creation id log) p ∙ k.0)

pub created_total : IsTotalOrder created_order
created_total = on_total (λ (c : Created). c.id) id_order_total

-- ---- cells

module _ (total : IsTotalOrder cell_order) (apart : (a b : Cell) → IsTrue (is_eq (cell_order a b)) → a ≡ b) where
  pub effect_total : IsTotalOrder effect_order
  effect_total = on_total cell_of total

  pub value_total : IsTotalOrder value_order
  value_total = on_total place_of total

  same_done : (schema : Schema) (base delta : List Update) (it other : CellEffect) → IsDone schema base delta it → IsDone schema base delta other → effect_order it other ≡ Equal → it ≡ other
  same_done schema base delta it other h k e =
      let p : cell_of it ≡ cell_of other = apart (cell_of it) (cell_of other) (ap is_eq e) in
      let f : Some it.effect ≡ Some other.effect = sym h.1 ∙ ap (λ (c : Cell). effect_of (cell_type schema c.property) (of_cell c.property c.keys delta)) p ∙ k.1 in
      let inner : it.effect ≡ other.effect = cc in
      λ i. record { property = (p i).property; keys = (p i).keys; effect = inner i }

  same_content : (a b : Content) → answer_of a ≡ answer_of b → a ≡ b
  same_content (content.Int m) (content.Int n) e = let inner : m ≡ n = cc in ap content.Int inner
  same_content (content.Int m) (content.Text t) e = cc
  same_content (content.Text s) (content.Int n) e = cc
  same_content (content.Text s) (content.Text t) e = let inner : s ≡ t = cc in ap content.Text inner

  same_held : (schema : Schema) (log : List Update) (it other : CellValue) → IsHeld schema log it → IsHeld schema log other → value_order it other ≡ Equal → it ≡ other
  same_held schema log it other h k e =
      let p : place_of it ≡ place_of other = apart (place_of it) (place_of other) (ap is_eq e) in
      let f : answer_of it.value ≡ answer_of other.value = sym h.0 ∙ ap (λ (c : Cell). answer schema log (Get c.property c.keys)) p ∙ k.0 in
      let inner : it.value ≡ other.value = same_content it.value other.value f in
      λ i. record { property = (p i).property; keys = (p i).keys; value = inner i }

  pub one_change : (schema : Schema) (base delta : List Update) (change other : ChangeLists) → IsEffect schema base delta change → IsEffect schema base delta other → change ≡ other
  one_change schema base delta change other h k =
      let created = told_once created_total (IsBorn base delta) (same_born base delta) change.created other.created h.created k.created in
      let dead = lists_one id_order_total id_same change.dead other.dead (IsNewlyDead base (base ++ delta)) h.dead k.dead in
      let cells = told_once effect_total (IsDone schema base delta) (same_done schema base delta) change.cells other.cells h.cells k.cells in
      λ i. record { created = created i; dead = dead i; cells = cells i }

  pub one_of_log : (schema : Schema) (log : List Update) (image other : ImageLists) → IsImage schema log image → IsImage schema log other → image ≡ other
  one_of_log schema log image other h k =
      let created = told_once created_total (IsLiving log) (same_living log) image.created other.created h.created k.created in
      let dead = lists_one id_order_total id_same image.dead other.dead (λ (id : Id). is_dead log id ≡ true) h.dead k.dead in
      let cells = told_once value_total (IsHeld schema log) (same_held schema log) image.cells other.cells h.cells k.cells in
      λ i. record { created = created i; dead = dead i; cells = cells i }

-- ---- what isn't idle

all_members : {A : Type 0} (P : A → Type 0) (xs : List A) → ((x : A) → Contains xs x → P x) → All P xs
all_members P xs f = All-weaker (Contains xs) P f xs (All-contains_itself xs)

add_is_effective : (z : ℤ) (e : Effect) → add_effect z ≡ Some e → IsEffective e
add_is_effective (pos zero) e h = cc
add_is_effective (pos (suc n)) e h = subst IsEffective (is_the (Add (pos (suc n))) e h) (λ z. cc)
add_is_effective (negsuc n) e h = subst IsEffective (is_the (Add (negsuc n)) e h) (λ z. cc)

offered : (changes : List TextChange) (t : List ℕ) → first_offer changes ≡ Some t → t ≢ []
offered [] t h = cc
offered (Set set ∷ changes) t h = offered changes t h
offered (Offer [] ∷ changes) t h = offered changes t h
offered (Offer (b ∷ text) ∷ changes) t h = λ z. let e : (b ∷ text) ≡ t = is_the (b ∷ text) t h in cc

offer_is_effective : (o : Option (List ℕ)) (e : Effect) → ((t : List ℕ) → o ≡ Some t → t ≢ []) → offer_effect o ≡ Some e → IsEffective e
offer_is_effective None e f h = cc
offer_is_effective (Some t) e f h = subst IsEffective (is_the (IfEmpty t) e h) (f t refl)

pub effect_is_effective : (type : CellType) (changes : List CellChange) (e : Effect) → effect_of type changes ≡ Some e → IsEffective e
effect_is_effective cell.Int changes e h =
    let its = flat_map ints changes in
    let P : Bool → Type 0 = λ b. cond b (Some (SetInt (int_plain its))) (add_effect (int_wrap w64 (added its))) ≡ Some e → IsEffective e in
    let at : P (has_int_set its) = elim (has_int_set its) as P [
      | true ↦ λ k. subst IsEffective (is_the (SetInt (int_plain its)) e k) tt
      | false ↦ λ k. add_is_effective (int_wrap w64 (added its)) e k
    ] in
    at h
effect_is_effective cell.Text changes e h =
    let its = flat_map texts changes in
    let P : Bool → Type 0 = λ b. cond b (Some (SetText (text_plain its))) (offer_effect (first_offer its)) ≡ Some e → IsEffective e in
    let at : P (has_text_set its) = elim (has_text_set its) as P [
      | true ↦ λ k. subst IsEffective (is_the (SetText (text_plain its)) e k) tt
      | false ↦ λ k. offer_is_effective (first_offer its) e (offered its) k
    ] in
    at h

pub effect_lists : (schema : Schema) (base delta : List Update) (change : ChangeLists) → IsEffect schema base delta change → IsChangeLists change
effect_lists schema base delta change h = record {
  created = h.created.ascends;
  dead = h.dead.ascends;
  cells = h.cells.ascends;
  effects = all_members (λ (it : CellEffect). IsEffective it.effect) change.cells (λ it m. effect_is_effective (cell_type schema it.property) (of_cell it.property it.keys delta) it.effect (h.cells.only it m).1);
}

held_is_filled : (v : Content) → is_default (answer_of v) ≡ false → IsFilled v
held_is_filled (content.Int n) h = λ e. let z : is_default (Int n) ≡ true = ap (λ (m : ℤ). is_default (Int m)) e in cc
held_is_filled (content.Text t) h = λ e. let z : is_default (Text t) ≡ true = ap (λ (s : List ℕ). is_default (Text s)) e in cc

pub image_lists : (schema : Schema) (log : List Update) (image : ImageLists) → IsImage schema log image → IsImageLists image
image_lists schema log image h = record {
  created = h.created.ascends;
  dead = h.dead.ascends;
  cells = h.cells.ascends;
  values = all_members (λ (it : CellValue). IsFilled it.value) image.cells (λ it m. held_is_filled it.value (h.cells.only it m).1);
}
