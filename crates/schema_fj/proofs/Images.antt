-- The listed values of all properties are what the log holds.
use Rattle.std.proofs.Common.{◌≡◌, refl, sym, ◌∙◌, ap, subst, ℕ, zero, suc, ◌<◌, Bool, true, false, cond, List, [], ◌∷◌, ◌++◌, length, inl, inr, arith, ◌^◌}
use Rattle.std.specs.Prelude.{◌⊎◌, ◌&&◌, not, Contains, IsTrue, map, MatchOption, Option, Some, None}
use Rattle.std.specs.List.{AllByRecursion}
use Rattle.std.specs.List.Sorted.{IsStrictlySortedBy}
use Rattle.std.specs.Ordering.{ordering_then, nat_cmp}
use Rattle.std.specs.declared.cmp.Ordering.{Ordering}
use Rattle.std.specs.declared.cmp.Ordering.TheVariants.{Less}
use Rattle.std.proofs.lemmas.Bool.{and_parts, false≢true}
use Rattle.std.proofs.lemmas.Bool.Decides.{nat_tests}
use Rattle.std.proofs.lemmas.Cmp.{tied_itself, nat_cmp_total}
use Rattle.std.proofs.lemmas.List.Elements.{All-nil, All-contains, All-from_recursion, recursion_from_All, All-append, All-weaker, All-contains_itself, Contains-append_left, Contains-append_right, Contains-append_cases}
use Rattle.std.proofs.lemmas.List.{length-map}
use Rattle.std.proofs.lemmas.Map.Keys.{sorted_head, sorted_tail}
use Rattle.std.proofs.lemmas.Option.{slice_get_within}
use Rattle.cloud_base.specs.Values.{Id}
use Rattle.cloud_base.specs.Order.{id_order, keys_order}
use Rattle.cloud_base.specs.PlainCell.{plain_value, default_of, is_default}
use Rattle.cloud_base.specs.Log.{of_cell, touched}
use Rattle.cloud_base.specs.Dead.{has_dead}
use Rattle.cloud_base.specs.Answer.{answer, entries, cell_value, is_entry}
use Rattle.cloud_base.specs.Shaped.{Fit, IsCell, IsValue, AreKeys, cell_type, property_at}
use Rattle.cloud_base.specs.Sorted.{Lists}
use Rattle.cloud_base.specs.declared.key.Key.{Key}
use Rattle.cloud_base.specs.declared.schema.CellType.{CellType}
use Rattle.cloud_base.specs.declared.schema.CellType.TheVariants as cell
use Rattle.cloud_base.specs.declared.schema.Property.{Property}
use Rattle.cloud_base.specs.declared.schema.Schema.{Schema}
use Rattle.cloud_base.specs.declared.update.Answer.{Answer}
use Rattle.cloud_base.specs.declared.update.Answer.TheVariants.{Int, Text}
use Rattle.cloud_base.specs.declared.update.Query.TheVariants.{Get}
use Rattle.cloud_base.specs.declared.update.Update.{Update}
use Rattle.cloud_base.proofs.SortedLemmas.{here, there, none_in, split_member}
use Rattle.cloud_base.proofs.AnswerLemmas.{entries_lists, entry_touched, default_is_default}
use Rattle.cloud_base.proofs.ShapedLemmas.{value_fits, touched_fits}
use Rattle.fj_entity.specs.declared.created.Created.{Created}
use Rattle.fj_entity.specs.Rosters.{created_order}
use Rattle.change_lists.specs.declared.value.Content.{Content}
use Rattle.change_lists.specs.declared.value.Content.TheVariants as content
use Rattle.change_lists.specs.declared.value.CellValue.{CellValue}
use Rattle.change_lists.specs.Lists.{IsImageLists, IsFilled, place_of, value_order}
use Rattle.change_lists.specs.Images.{answer_of, IsHeld}
use Rattle.schema_fj.specs.Valued.{content_of, value_in, values_of, values_below}
use Rattle.schema_fj.proofs.Changes.{ByParts}
use Rattle.schema_fj.proofs.Effects.{nothing}
use Rattle.schema_fj.proofs.JoinOne.{not_true}
use Rattle.schema_fj.proofs.StateSteps.{lists_as}

-- ---- lists: one after another, and mapped

all_both : {A : Type 0} (P : A → Type 0) (xs ys : List A) → AllByRecursion P xs → ((y : A) → Contains ys y → P y) → AllByRecursion P (xs ++ ys)
all_both P xs ys a f = recursion_from_All P (xs ++ ys) (All-append P xs ys (All-from_recursion P xs a) (All-weaker (Contains ys) P f ys (All-contains_itself ys)))

sorted_both : {A : Type 0} (R : A → A → Ordering) (xs ys : List A) → IsStrictlySortedBy R xs → IsStrictlySortedBy R ys → ((x y : A) → Contains xs x → Contains ys y → R x y ≡ Less) → IsStrictlySortedBy R (xs ++ ys)
unfolding IsStrictlySortedBy
sorted_both R [] ys s t f = t
sorted_both R (x ∷ xs) ys s t f = (
  all_both (λ y. R x y ≡ Less) xs ys (sorted_head R x xs s) (λ y m. f x y (here x xs) m),
  sorted_both R xs ys (sorted_tail R x xs s) t (λ z y m n. f z y (there x z xs m) n),
)

lists_both : {A : Type 0} (R : A → A → Ordering) (xs ys : List A) (P Q : A → Type 0) → Lists R xs P → Lists R ys Q → ((x y : A) → P x → Q y → R x y ≡ Less) → Lists R (xs ++ ys) (λ a. P a ⊎ Q a)
lists_both R xs ys P Q l k f = record {
  ascends = sorted_both R xs ys l.ascends k.ascends (λ x y m n. f x y (l.only x m) (k.only y n));
  only = λ a m. elim (Contains-append_cases xs ys a m) [ inl n ↦ inl (l.only a n) | inr n ↦ inr (k.only a n) ];
  every = λ a e. elim e [ inl p ↦ Contains-append_left xs ys a (l.every a p) | inr q ↦ Contains-append_right xs ys a (k.every a q) ];
}

module _ {A B : Type 0} (f : A → B) where
  map_member : (xs : List A) (y : B) → Contains (map f xs) y → (x : A) × Contains xs x × (f x ≡ y)
  map_member [] y h = absurd (none_in y h)
  map_member (x ∷ xs) y h = elim (split_member (f x) y (map f xs) h) [
    | inl e ↦ (x, here x xs, e)
    | inr m ↦ let w = map_member xs y m in (w.0, there x w.0 xs w.1, w.2)
  ]

  member_map : (xs : List A) (x : A) → Contains xs x → Contains (map f xs) (f x)
  member_map [] x h = absurd (none_in x h)
  member_map (y ∷ xs) x h = elim (split_member y x xs h) [
    | inl e ↦ subst (λ z. Contains (map f (y ∷ xs)) (f z)) e (here (f y) (map f xs))
    | inr m ↦ there (f y) (f x) (map f xs) (member_map xs x m)
  ]

  module _ (R : A → A → Ordering) (S : B → B → Ordering) (keeps : (a b : A) → R a b ≡ Less → S (f a) (f b) ≡ Less) where
    all_below : (x : A) (xs : List A) → AllByRecursion (λ y. R x y ≡ Less) xs → AllByRecursion (λ y. S (f x) y ≡ Less) (map f xs)
    all_below x [] h = tt
    all_below x (y ∷ xs) h = (keeps x y h.0, all_below x xs h.1)

    sorted_map : (xs : List A) → IsStrictlySortedBy R xs → IsStrictlySortedBy S (map f xs)
    unfolding IsStrictlySortedBy
    sorted_map [] s = tt
    sorted_map (x ∷ xs) s = (all_below x xs s.0, sorted_map xs s.1)

-- ---- what a cell holds and what is answered of it

pub content_back : (value : Content) → content_of (answer_of value) ≡ value
content_back (content.Int n) = refl
content_back (content.Text text) = refl

pub answer_back : (type : CellType) (value : Answer) → IsValue type value → answer_of (content_of value) ≡ value
answer_back cell.Int (Int n) h = refl
answer_back cell.Int value h = absurd h
answer_back cell.Text (Text text) h = refl
answer_back cell.Text value h = absurd h

pub get_is : (schema : Schema) (log : List Update) (p : ℕ) (ks : List Key) → answer schema log (Get p ks) ≡ cell_value schema log p ks
unfolding answer
get_is schema log p ks = refl

-- a cell that holds something has no dead key
pub held_lives : (schema : Schema) (log : List Update) (it : CellValue) → IsHeld schema log it → has_dead log it.keys ≡ false
held_lives schema log it h = at (has_dead log it.keys) refl
  where
    at : (d : Bool) → has_dead log it.keys ≡ d → has_dead log it.keys ≡ false
    at false e = e
    at true e =
        let default : cell_value schema log it.property it.keys ≡ default_of (cell_type schema it.property) =
        ap (λ b. cond b (default_of (cell_type schema it.property)) (plain_value (cell_type schema it.property) (of_cell it.property it.keys log))) e in
        absurd (false≢true (sym h.1 ∙ ap is_default (sym h.0 ∙ get_is schema log it.property it.keys ∙ default) ∙ default_is_default (cell_type schema it.property)))

held_entry : (schema : Schema) (log : List Update) (it : CellValue) → IsHeld schema log it → is_entry schema log it.property it.keys ≡ true
held_entry schema log it h =
    let set : is_default (cell_value schema log it.property it.keys) ≡ false = ap is_default (sym (get_is schema log it.property it.keys) ∙ h.0) ∙ h.1 in
    λ i. not (held_lives schema log it h i) && not (set i)

-- it is one of the schema, which the log changes
held_within : (schema : Schema) (log : List Update) (it : CellValue) → Fit schema log → IsHeld schema log it → (it.property < 2 ^ 16) × (it.property < length schema.properties)
held_within schema log it fit h =
    let fits : IsCell schema it.property it.keys = All-contains (IsCell schema it.property) (touched it.property log) it.keys (touched_fits schema it.property log fit.shaped) (entry_touched schema log it.property it.keys (held_entry schema log it h)) in
    (fits.0, at (property_at schema it.property) refl fits.1)
  where
    at : (o : Option Property) → property_at schema it.property ≡ o → MatchOption o ⊥ (λ p. AreKeys p.keys it.keys) → it.property < length schema.properties
    at None e f = absurd f
    at (Some p) e f = slice_get_within schema.properties it.property p e

-- ---- the values of one property, and of those below a number

module _ (parts : ByParts) (schema : Schema) (log : List Update) (fit : Fit schema log) where
  values_listed : (p : ℕ) → Lists value_order (values_of schema log p) (λ it. (it.property ≡ p) × IsHeld schema log it)
  values_listed p = record {
    ascends = sorted_map (value_in schema log p) keys_order value_order keeps (entries schema log p) lists.ascends;
    only = λ it m.
        let w = map_member (value_in schema log p) (entries schema log p) it m in
        subst (λ (v : CellValue). (v.property ≡ p) × IsHeld schema log v) w.2 (refl, held w.0 (lists.only w.0 w.1));
    every = λ it h. subst (Contains (values_of schema log p)) (same it h) (member_map (value_in schema log p) (entries schema log p) it.keys
        (lists.every it.keys (subst (λ q. is_entry schema log q it.keys ≡ true) h.0 (held_entry schema log it h.1))));
  }
    where
      lists : Lists keys_order (entries schema log p) (λ ks. IsTrue (is_entry schema log p ks))
      lists = entries_lists schema log p

      keeps : (a b : List Key) → keys_order a b ≡ Less → value_order (value_in schema log p a) (value_in schema log p b) ≡ Less
      keeps a b e =
          parts (place_of (value_in schema log p a)) (place_of (value_in schema log p b))
          ∙ ap (λ o. ordering_then o (keys_order a b)) (tied_itself nat_cmp_total p) ∙ e

      held : (ks : List Key) → is_entry schema log p ks ≡ true → IsHeld schema log (value_in schema log p ks)
      held ks t =
          let set = not_true (is_default (cell_value schema log p ks)) (and_parts (not (has_dead log ks)) (not (is_default (cell_value schema log p ks))) t).1 in
          let back : answer_of (content_of (cell_value schema log p ks)) ≡ cell_value schema log p ks = answer_back (cell_type schema p) (cell_value schema log p ks) (value_fits schema log p ks fit.shaped) in
          let given : answer_of (content_of (answer schema log (Get p ks))) ≡ cell_value schema log p ks = ap (λ a. answer_of (content_of a)) (get_is schema log p ks) ∙ back in
          (get_is schema log p ks ∙ sym given, ap is_default given ∙ set)

      same : (it : CellValue) → (it.property ≡ p) × IsHeld schema log it → value_in schema log p it.keys ≡ it
      same it h =
          let q : p ≡ it.property = sym h.0 in
          let v : content_of (answer schema log (Get p it.keys)) ≡ it.value =
          ap content_of (ap (λ n. answer schema log (Get n it.keys)) q ∙ h.1.0) ∙ content_back it.value in
          λ i. record { property = q i; keys = it.keys; value = v i }

  below_is : (a b : ℕ) → a < b → nat_cmp a b ≡ Less
  below_is a b h = grind (arith, nat_tests, h)

  values_below_listed : (n : ℕ) → Lists value_order (values_below schema log n) (λ it. (it.property < n) × IsHeld schema log it)
  values_below_listed zero = record {
    ascends = nothing value_order;
    only = λ it m. absurd (none_in it m);
    every = λ it h. let never : it.property < 0 = h.0 in absurd (omega arith);
  }
  values_below_listed (suc n) =
      lists_as (values_below schema log n ++ values_of schema log n) (λ it. ((it.property < n) × IsHeld schema log it) ⊎ ((it.property ≡ n) × IsHeld schema log it)) (λ it. (it.property < suc n) × IsHeld schema log it)
      (λ it e. elim e [ inl h ↦ (let l : it.property < n = h.0 in omega arith, h.1) | inr h ↦ (let l : it.property ≡ n = h.0 in omega arith, h.1) ])
      (λ it h. at it h.1 (split it.property h.0))
      (lists_both value_order (values_below schema log n) (values_of schema log n) (λ it. (it.property < n) × IsHeld schema log it) (λ it. (it.property ≡ n) × IsHeld schema log it)
      (values_below_listed n) (values_listed n)
      (λ a b h k. parts (place_of a) (place_of b) ∙ ap (λ o. ordering_then o (keys_order a.keys b.keys)) (ap (nat_cmp a.property) k.0 ∙ below_is a.property n h.0)))
    where
      split : (p : ℕ) → p < suc n → (p < n) ⊎ (p ≡ n)
      split p h = grind (arith, h)

      at : (it : CellValue) → IsHeld schema log it → (it.property < n) ⊎ (it.property ≡ n) → ((it.property < n) × IsHeld schema log it) ⊎ ((it.property ≡ n) × IsHeld schema log it)
      at it h (inl l) = inl (l, h)
      at it h (inr e) = inr (e, h)

  pub values_held : (n : ℕ) (list : List CellValue) → list ≡ values_below schema log n → ((p : ℕ) → p < 2 ^ 16 → p < length schema.properties → p < n) → Lists value_order list (IsHeld schema log)
  values_held n list is all =
      subst (λ (l : List CellValue). Lists value_order l (IsHeld schema log)) (sym is)
      (lists_as (values_below schema log n) (λ it. (it.property < n) × IsHeld schema log it) (IsHeld schema log) (λ it h. h.1)
      (λ it h. let w = held_within schema log it fit h in (all it.property w.0 w.1, h)) (values_below_listed n))

-- ---- the lists of nothing

pub no_images : (created : List Created) (dead : List Id) (cells : List CellValue) → created ≡ [] → dead ≡ [] → cells ≡ [] → IsImageLists (record { created = created; dead = dead; cells = cells })
no_images created dead cells a b d =
    subst (λ (l : List Created). IsImageLists (record { created = l; dead = dead; cells = cells })) (sym a)
    (subst (λ (l : List Id). IsImageLists (record { created = []; dead = l; cells = cells })) (sym b)
    (subst (λ (l : List CellValue). IsImageLists (record { created = []; dead = []; cells = l })) (sym d)
    (record { created = nothing created_order; dead = nothing id_order; cells = nothing value_order; values = All-nil (λ it. IsFilled it.value) })))

-- ---- the number of properties

pub types_count : (schema : Schema) (types : List CellType) → types ≡ map (λ (q : Property). q.cell) schema.properties → length types ≡ length schema.properties
types_count schema types e = ap length e ∙ length-map schema.properties (λ (q : Property). q.cell)
