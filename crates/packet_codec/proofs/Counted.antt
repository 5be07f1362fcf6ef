-- The lists of a change and of an image are no longer than the log.
use Rattle.std.proofs.Common.{◌≡◌, refl, sym, ◌∙◌, ap, subst, ℕ, zero, suc, ◌+◌, ◌<◌, ◌≤◌, Bool, true, false, ◌&&◌, cond, List, [], ◌∷◌, ◌++◌, length, map, inl, inr, arith}
use Rattle.std.specs.Prelude.{◌⊎◌, ◌==◌, All, Contains, Option, Some, None, if◌then◌else◌}
use Rattle.std.specs.Bool.{Decides}
use Rattle.std.specs.Cmp.{IsTotalOrder}
use Rattle.std.specs.List.{AllByRecursion, flat_map}
use Rattle.std.specs.List.Sorted.{IsStrictlySortedBy}
use Rattle.std.specs.Ordering.{eq_by_cmp, is_eq}
use Rattle.std.specs.Set.{is_member}
use Rattle.std.specs.declared.cmp.Ordering.{Ordering}
use Rattle.std.specs.declared.cmp.Ordering.TheVariants.{Less, Equal, Greater}
use Rattle.std.proofs.lemmas.Bool.{cases_Bool, false≢true, and_parts}
use Rattle.std.proofs.lemmas.Bool.Decides.{nat_tests}
use Rattle.std.proofs.lemmas.Cmp.{eq_by_cmp_equiv, tied_itself}
use Rattle.std.proofs.lemmas.List.{length-append}
use Rattle.std.proofs.lemmas.Map.Keys.{IsDistinct-from_sorted, sorted_tail}
use Rattle.std.proofs.lemmas.Map.Made.{length-le_from_is_member, is_member-Decides}
use Rattle.cloud_base.specs.Answer.{answer, cell_value}
use Rattle.cloud_base.specs.Dead.{Chain, is_dead, has_dead}
use Rattle.cloud_base.specs.Log.{Creation, creation, of_cell, parents}
use Rattle.cloud_base.specs.Order.{id_order, same_keys}
use Rattle.cloud_base.specs.PlainCell.{plain_value, default_of, is_default}
use Rattle.cloud_base.specs.Shaped.{cell_type}
use Rattle.cloud_base.specs.Values.{Id}
use Rattle.cloud_base.specs.declared.key.Key.{Key}
use Rattle.cloud_base.specs.declared.schema.CellType.{CellType}
use Rattle.cloud_base.specs.declared.schema.CellType.TheVariants as cell
use Rattle.cloud_base.specs.declared.schema.Schema.{Schema}
use Rattle.cloud_base.specs.declared.update.CellChange.{CellChange}
use Rattle.cloud_base.specs.declared.update.Update.{Update}
use Rattle.cloud_base.specs.declared.update.Update.TheVariants.{Cell as Changes, Create, Delete}
use Rattle.cloud_base.proofs.AnswerLemmas.{default_is_default}
use Rattle.cloud_base.proofs.DeadLemmas.{is_dead_decides, made}
use Rattle.cloud_base.proofs.LogLemmas.{deleted_member, created_member}
use Rattle.cloud_base.proofs.OrderLemmas.{id_order_total, id_same, same_keys_decides}
use Rattle.cloud_base.proofs.PlainLemmas.{nothing_is_default}
use Rattle.cloud_base.proofs.SortedLemmas.{here, there, none_in, split_member}
use Rattle.fj_core.specs.IntLaws.{int_effect-empty}
use Rattle.fj_core.specs.TextLaws.{text_effect-empty}
use Rattle.fj_array.specs.declared.cell.Cell.{Cell}
use Rattle.fj_array.specs.declared.effect.CellEffect.{CellEffect}
use Rattle.fj_array.specs.Cells.{cell_order}
use Rattle.fj_array.specs.Effects.{cell_of, effect_order}
use Rattle.fj_core.specs.declared.effect.Effect.{Effect}
use Rattle.fj_entity.specs.declared.created.Created.{Created}
use Rattle.fj_entity.specs.Rosters.{created_order, IsNewlyDead, IsLiving}
use Rattle.change_lists.specs.Effects.{effect_of, IsBorn, IsDone, IsEffect}
use Rattle.change_lists.specs.Images.{answer_of, IsHeld, IsImage}
use Rattle.change_lists.specs.Lists.{ChangeLists, ImageLists, place_of, value_order}
use Rattle.change_lists.specs.declared.value.CellValue.{CellValue}

-- ---- a list without repeats is no longer than a list that has its members

module _ {A N : Type 0} {order : N → N → Ordering} (total : IsTotalOrder order) (same : (x y : N) → order x y ≡ Equal → x ≡ y) (name : A → N) where
  tied : (r : Ordering) → is_eq r ≡ true → r ≡ Equal
  tied Less h = cc
  tied Equal h = refl
  tied Greater h = cc

  equal_decides : (x y : N) → Decides (eq_by_cmp order x y) (x ≡ y)
  equal_decides x y = (λ t. same x y (tied (order x y) t), λ e. subst (λ z. eq_by_cmp order x z ≡ true) e (ap is_eq (tied_itself total x)))

  names_above : (x : A) (xs : List A) → AllByRecursion (λ y. order (name x) (name y) ≡ Less) xs → AllByRecursion (λ n. order (name x) n ≡ Less) (map name xs)
  names_above x [] all = tt
  names_above x (y ∷ xs) all = (all.0, names_above x xs all.1)

  names_ascend : (xs : List A) → IsStrictlySortedBy (λ x y. order (name x) (name y)) xs → IsStrictlySortedBy order (map name xs)
  unfolding IsStrictlySortedBy
  names_ascend [] sorted = tt
  names_ascend (x ∷ xs) sorted = (names_above x xs sorted.0, names_ascend xs sorted.1)

  named_member : (xs : List A) (n : N) → Contains (map name xs) n → (x : A) × Contains xs x × (name x ≡ n)
  named_member [] n h = absurd (none_in n h)
  named_member (x ∷ xs) n h = elim (split_member (name x) n (map name xs) h) [
    | inl e ↦ (x, here x xs, e)
    | inr m ↦ let found = named_member xs n m in (found.0, there x found.0 xs found.1, found.2)
  ]

  names_counted : (xs : List A) → length (map name xs) ≡ length xs
  names_counted [] = refl
  names_counted (x ∷ xs) = ap suc (names_counted xs)

  pub no_longer : (xs : List A) (names : List N) → IsStrictlySortedBy (λ x y. order (name x) (name y)) xs → ((x : A) → Contains xs x → Contains names (name x)) → length xs ≤ length names
  no_longer xs names sorted each =
      let distinct = IsDistinct-from_sorted order (map name xs) (names_ascend xs sorted) in
      let fewer = length-le_from_is_member (eq_by_cmp_equiv total) (map name xs) names distinct (λ n t.
      let found = named_member xs n ((is_member-Decides equal_decides (map name xs) n).0 t) in
      (is_member-Decides equal_decides names n).1 (subst (Contains names) found.2 (each found.0 found.1))) in
      let count = names_counted xs in
      omega arith

-- ---- what a log names

-- the ids that a log creates or deletes
abbrev pub named : List Update → List Id
named [] = []
named (Changes p ks change ∷ log) = named log
named (Create id e ks ∷ log) = id ∷ named log
named (Delete id ∷ log) = id ∷ named log

-- the cells that a log changes
abbrev pub changed : List Update → List Cell
changed [] = []
changed (Changes p ks change ∷ log) = record { property = p; keys = ks } ∷ changed log
changed (Create id e ks ∷ log) = changed log
changed (Delete id ∷ log) = changed log

few_named : (log : List Update) → length (named log) ≤ length log
few_named [] = omega arith
few_named (Changes p ks change ∷ log) = let h = few_named log in omega arith
few_named (Create id e ks ∷ log) = let h = few_named log in omega arith
few_named (Delete id ∷ log) = let h = few_named log in omega arith

few_changed : (log : List Update) → length (changed log) ≤ length log
few_changed [] = omega arith
few_changed (Changes p ks change ∷ log) = let h = few_changed log in omega arith
few_changed (Create id e ks ∷ log) = let h = few_changed log in omega arith
few_changed (Delete id ∷ log) = let h = few_changed log in omega arith

creation_named : (id : Id) (e : ℕ) (ks : List Key) (log : List Update) → Contains log (Create id e ks) → Contains (named log) id
creation_named id e ks [] h = absurd (none_in (Create id e ks) h)
creation_named id e ks (Changes p k c ∷ log) h = elim (split_member (Changes p k c) (Create id e ks) log h) [ inl k ↦ cc | inr m ↦ creation_named id e ks log m ]
creation_named id e ks (Delete v ∷ log) h = elim (split_member (Delete v) (Create id e ks) log h) [ inl k ↦ cc | inr m ↦ there v id (named log) (creation_named id e ks log m) ]
creation_named id e ks (Create v d k ∷ log) h = elim (split_member (Create v d k) (Create id e ks) log h) [
  | inl k ↦ let s : v ≡ id = cc in subst (Contains (v ∷ named log)) s (here v (named log))
  | inr m ↦ there v id (named log) (creation_named id e ks log m)
]

deletion_named : (id : Id) (log : List Update) → Contains log (Delete id) → Contains (named log) id
deletion_named id [] h = absurd (none_in (Delete id) h)
deletion_named id (Changes p k c ∷ log) h = elim (split_member (Changes p k c) (Delete id) log h) [ inl k ↦ cc | inr m ↦ deletion_named id log m ]
deletion_named id (Create v d k ∷ log) h = elim (split_member (Create v d k) (Delete id) log h) [ inl k ↦ cc | inr m ↦ there v id (named log) (deletion_named id log m) ]
deletion_named id (Delete v ∷ log) h = elim (split_member (Delete v) (Delete id) log h) [
  | inl k ↦ let s : v ≡ id = cc in subst (Contains (v ∷ named log)) s (here v (named log))
  | inr m ↦ there v id (named log) (deletion_named id log m)
]

chain_named : (log : List Update) (n : ℕ) (id : Id) → Chain log n id → Contains (named log) id
chain_named log zero id deleted = deletion_named id log (deleted_member id log deleted)
chain_named log (suc n) id link =
    let c = made (creation id log) link.0 link.1 in
    creation_named id (c.0).entity (c.0).keys log (created_member id log c.0 c.1)

pub dead_named : (log : List Update) (id : Id) → is_dead log id ≡ true → Contains (named log) id
dead_named log id h = let dead = (is_dead_decides log id).0 h in chain_named log dead.0 id dead.2

-- a cell that the log changed
pub cell_changed : (property : ℕ) (keys : List Key) (log : List Update) → (of_cell property keys log ≡ [] → ⊥) → Contains (changed log) (record { property = property; keys = keys })
cell_changed property keys [] some = absurd (some refl)
cell_changed property keys (Create id e ks ∷ log) some = cell_changed property keys log some
cell_changed property keys (Delete id ∷ log) some = cell_changed property keys log some
cell_changed property keys (Changes p ks c ∷ log) some =
    let it : Cell = record { property = property; keys = keys } in
    let first : Cell = record { property = p; keys = ks } in
    let P : Bool → Type 0 = λ b. ((p == property) && same_keys ks keys) ≡ b → (cond b (c ∷ of_cell property keys log) (of_cell property keys log) ≡ [] → ⊥) → Contains (first ∷ changed log) it in
    let at : P ((p == property) && same_keys ks keys) = elim ((p == property) && same_keys ks keys) as P [
      | true ↦ λ t k.
          let parts = and_parts (p == property) (same_keys ks keys) t in
          let number : p ≡ property = grind (arith, nat_tests, parts.0) in
          let names = (same_keys_decides ks keys).0 parts.1 in
          let is : first ≡ it = λ i. record { property = number i; keys = names i } in
          subst (Contains (first ∷ changed log)) is (here first (changed log))
      | false ↦ λ t k. there first it (changed log) (cell_changed property keys log k)
    ] in
    at refl some

nothing_done : (type : CellType) → effect_of type [] ≡ None
nothing_done cell.Int = int_effect-empty
nothing_done cell.Text = text_effect-empty

pub done_changed : (schema : Schema) (base delta : List Update) (it : CellEffect) → IsDone schema base delta it → Contains (changed delta) (cell_of it)
done_changed schema base delta it done =
    let type = cell_type schema it.property in
    cell_changed it.property it.keys delta (λ e.
    let nothing : effect_of type (of_cell it.property it.keys delta) ≡ None = ap (effect_of type) e ∙ nothing_done type in
    let some : effect_of type (of_cell it.property it.keys delta) ≡ Some it.effect = done.1 in
    cc)

pub held_changed : (schema : Schema) (log : List Update) (it : CellValue) → IsHeld schema log it → Contains (changed log) (place_of it)
unfolding answer
held_changed schema log it held =
    let type = cell_type schema it.property in
    let changes = of_cell it.property it.keys log in
    cell_changed it.property it.keys log (λ e.
    let P : Bool → Type 0 = λ b. is_default (cond b (default_of type) (plain_value type changes)) ≡ true in
    let default : P (has_dead log it.keys) = elim (has_dead log it.keys) as P [
      | true ↦ default_is_default type
      | false ↦ ap (λ c. is_default (plain_value type c)) e ∙ ap is_default (nothing_is_default type) ∙ default_is_default type
    ] in
    let value : is_default (cell_value schema log it.property it.keys) ≡ false = ap is_default held.0 ∙ held.1 in
    false≢true (sym value ∙ default))

-- ---- the lists

born_named : (delta : List Update) (c : Created) → creation c.id delta ≡ Some (record { entity = c.entity; keys = c.keys }) → Contains (named delta) c.id
born_named delta c h = creation_named c.id c.entity c.keys delta (created_member c.id delta (record { entity = c.entity; keys = c.keys }) h)

few_born : (log : List Update) (list : List Created) → IsStrictlySortedBy created_order list → ((c : Created) → Contains list c → creation c.id log ≡ Some (record { entity = c.entity; keys = c.keys })) → length list ≤ length log
few_born log list ascends each =
    let few = no_longer id_order_total id_same (λ (c : Created). c.id) list (named log) ascends (λ c m. born_named log c (each c m)) in
    let short = few_named log in
    omega arith

few_dead : (log : List Update) (list : List Id) → IsStrictlySortedBy id_order list → ((id : Id) → Contains list id → is_dead log id ≡ true) → length list ≤ length log
few_dead log list ascends each =
    let few = no_longer id_order_total id_same (λ (id : Id). id) list (named log) ascends (λ id m. dead_named log id (each id m)) in
    let short = few_named log in
    omega arith

module _ (total : IsTotalOrder cell_order) (apart : (a b : Cell) → is_eq (cell_order a b) ≡ true → a ≡ b) where
  same_cells : (a b : Cell) → cell_order a b ≡ Equal → a ≡ b
  same_cells a b e = apart a b (ap is_eq e)

  -- how many there may be of each list
  pub few_told : (schema : Schema) (base delta : List Update) (change : ChangeLists) → IsEffect schema base delta change → (length change.created ≤ length (base ++ delta)) × (length change.dead ≤ length (base ++ delta)) × (length change.cells ≤ length (base ++ delta))
  few_told schema base delta change effect =
      let both = length-append base delta in
      let born = few_born delta change.created effect.created.ascends (λ c m. (effect.created.only c m).0) in
      let died = few_dead (base ++ delta) change.dead effect.dead.ascends (λ id m. (effect.dead.only id m).0) in
      let done = no_longer total same_cells cell_of change.cells (changed delta) effect.cells.ascends (λ it m. done_changed schema base delta it (effect.cells.only it m)) in
      let short = few_changed delta in
      (omega arith, died, omega arith)

  pub few_held : (schema : Schema) (log : List Update) (image : ImageLists) → IsImage schema log image → (length image.created ≤ length log) × (length image.dead ≤ length log) × (length image.cells ≤ length log)
  few_held schema log image is =
      let living = few_born log image.created is.created.ascends (λ c m. (is.created.only c m).0) in
      let dead = few_dead log image.dead is.dead.ascends is.dead.only in
      let held = no_longer total same_cells place_of image.cells (changed log) is.cells.ascends (λ it m. held_changed schema log it (is.cells.only it m)) in
      let short = few_changed log in
      (living, dead, omega arith)
