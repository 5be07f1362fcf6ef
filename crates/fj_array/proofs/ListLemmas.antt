-- A list that is filled in a walk over the kept cells, with exactly the items that are asked for.
use Rattle.std.proofs.Common.{◌≡◌, Bool, true, false, List, [], ◌∷◌, ◌++◌, inl, inr, cond, refl, sym, ◌∙◌, ap, subst, ℕ, ◌<◌, arith}
use Rattle.std.specs.Prelude.{Option, Some, None, ◌↔◌, Contains}
use Rattle.std.specs.List.{AllByRecursion}
use Rattle.std.specs.List.Sorted.{IsStrictlySortedBy}
use Rattle.std.specs.Map.{lookup, keys_of}
use Rattle.std.specs.BTreeMap.{is_at}
use Rattle.std.specs.declared.cmp.Ordering.{Ordering}
use Rattle.std.specs.declared.cmp.Ordering.TheVariants.{Less}
use Rattle.std.specs.Cmp.{IsTotalOrder}
use Rattle.std.proofs.lemmas.Map.{lookup-none}
use Rattle.std.proofs.lemmas.Map.Entries.{none_below_head}
use Rattle.std.proofs.lemmas.Map.Keys.{sorted_head, sorted_tail}
use Rattle.std.proofs.lemmas.List.Elements.{Contains-push, Contains-push_cases, Contains-append_left}
use Rattle.cloud_base.specs.Sorted.{Lists}
use Rattle.fj_array.specs.declared.cell.Cell.{Cell}
use Rattle.cloud_base.specs.declared.key.Key.{Key}
use Rattle.fj_core.specs.declared.effect.Effect.{Effect}
use Rattle.fj_array.specs.declared.effect.CellEffect.{CellEffect}
use Rattle.fj_array.specs.Effects.{cell_of}
use Rattle.fj_array.specs.Cells.{cell_order, same_cell, At, of_cell}
use Rattle.fj_array.proofs.GridLemmas.{Apart, by_cases}
use Rattle.fj_array.specs.Grids.{kept_at, GridStands}
use Rattle.fj_array.proofs.CellLemmas.{of_cell-append}
use Rattle.fj_array.proofs.GridLemmas.{when_some, when_none}
use Rattle.shared_map.specs.Entries.{entries_from}
use Rattle.fj_array.proofs.StretchLemmas.{kept_from, sorted_from, first_in, later}
use Rattle.fj_array.proofs.WalkLemmas.{none_after}
use Rattle.cloud_base.specs.Order.{keys_order}
use Rattle.fj_array.specs.Effects.{effect_order}
use Rattle.std.specs.Prelude.{IsTrue}
use Rattle.std.specs.Ordering.{ordering_then, nat_cmp}
use Rattle.std.proofs.lemmas.Cmp.{nat_cmp_total, tied_itself}

-- the keys of the entries are above a cell
abbrev pub Below : {S : Type 0} → Cell → List (Cell × S) → Type 0
Below cell rest = AllByRecursion (λ e. cell_order cell e ≡ Less) (keys_of rest)

-- the list ascends, is below what is left of the walk, and has exactly the items asked for whose cell isn't left
pub record Listed {S X : Type 0} (order : X → X → Ordering) (cell : X → Cell) (P : X → Type 0) (rest : List (Cell × S)) (list : List X) : Type 0 where
  pub left : IsStrictlySortedBy cell_order (keys_of rest)
  pub ascends : IsStrictlySortedBy order list
  pub below : AllByRecursion (λ x. Below (cell x) rest) list
  pub only : (x : X) → Contains list x → P x × (lookup (is_at (cell_order (cell x))) rest ≡ None)
  pub every : (x : X) → P x → lookup (is_at (cell_order (cell x))) rest ≡ None → Contains list x

all_map : {X : Type 0} (P Q : X → Type 0) (xs : List X) → ((x : X) → P x → Q x) → AllByRecursion P xs → AllByRecursion Q xs
all_map P Q [] f h = h
all_map P Q (x ∷ xs) f h = (f x h.0, all_map P Q xs f h.1)

all_push : {X : Type 0} (P : X → Type 0) (xs : List X) (y : X) → AllByRecursion P xs → P y → AllByRecursion P (xs ++ y ∷ [])
all_push P [] y h p = (p, tt)
all_push P (x ∷ xs) y h p = (h.0, all_push P xs y h.1 p)

sorted_push : {X : Type 0} (order : X → X → Ordering) (xs : List X) (y : X) → IsStrictlySortedBy order xs → AllByRecursion (λ x. order x y ≡ Less) xs → IsStrictlySortedBy order (xs ++ y ∷ [])
unfolding IsStrictlySortedBy
sorted_push order [] y s h = (tt, tt)
sorted_push order (x ∷ xs) y s h = (all_push (λ z. order x z ≡ Less) xs y s.0 h.0, sorted_push order xs y s.1 h.1)

nothing_in : {X P : Type 0} (x : X) → Contains [] x → P
nothing_in x h = absurd (omega (arith, h.1))

module _ {S X : Type 0} (order : X → X → Ordering) (cell : X → Cell) (P : X → Type 0) where
  pub list_start : (rest : List (Cell × S)) → IsStrictlySortedBy cell_order (keys_of rest) → ((x : X) → P x → lookup (is_at (cell_order (cell x))) rest ≡ None → ⊥)
      → Listed order cell P rest []
  unfolding IsStrictlySortedBy
  list_start rest sorted none = record {
    left = sorted;
    ascends = tt;
    below = tt;
    only = λ x h. nothing_in x h;
    every = λ x p e. absurd (none x p e);
  }

  look : (k : Cell) (s : S) (rest : List (Cell × S)) (q : Cell) → same_cell q k ≡ false → lookup (is_at (cell_order q)) rest ≡ None → lookup (is_at (cell_order q)) ((k, s) ∷ rest) ≡ None
  look k s rest q is e = ap (λ (b : Bool). cond b (Some s) (lookup (is_at (cell_order q)) rest)) is ∙ e

  gone : IsTotalOrder cell_order → (k : Cell) (s : S) (rest : List (Cell × S)) → IsStrictlySortedBy cell_order (keys_of ((k, s) ∷ rest)) → (q : Cell)
      → lookup (is_at (cell_order q)) ((k, s) ∷ rest) ≡ None → lookup (is_at (cell_order q)) rest ≡ None
  gone o k s rest sorted q e =
      by_cases (same_cell q k) (λ is. none_after o k s rest sorted q is)
      (λ is. sym (ap (λ (b : Bool). cond b (Some s) (lookup (is_at (cell_order q)) rest)) is) ∙ e)

  -- the first that is left has no item
  pub list_skip : Apart → IsTotalOrder cell_order → (k : Cell) (s : S) (rest : List (Cell × S)) (list : List X) → ((x : X) → cell x ≡ k → P x → ⊥)
      → Listed order cell P ((k, s) ∷ rest) list → Listed order cell P rest list
  list_skip apart o k s rest list none h = record {
    left = sorted_tail cell_order k (keys_of rest) h.left;
    ascends = h.ascends;
    below = all_map (λ x. Below (cell x) ((k, s) ∷ rest)) (λ x. Below (cell x) rest) list (λ x b. b.1) h.below;
    only = λ x is. ((h.only x is).0, gone o k s rest h.left (cell x) (h.only x is).1);
    every = λ x p e. by_cases (same_cell (cell x) k) (λ is. absurd (none x (apart (cell x) k is) p)) (λ is. h.every x p (look k s rest (cell x) is e));
  }

  -- the first that is left has one item
  pub list_push : Apart → IsTotalOrder cell_order → (k : Cell) (s : S) (rest : List (Cell × S)) (list : List X) (y : X)
      → cell y ≡ k → P y → ((x : X) → cell x ≡ k → P x → y ≡ x) → ((x : X) → cell_order (cell x) k ≡ Less → order x y ≡ Less)
      → same_cell k k ≡ true
      → Listed order cell P ((k, s) ∷ rest) list → Listed order cell P rest (list ++ y ∷ [])
  list_push apart o k s rest list y at p one agrees itself h = record {
    left = sorted_tail cell_order k (keys_of rest) h.left;
    ascends = sorted_push order list y h.ascends (all_map (λ x. Below (cell x) ((k, s) ∷ rest)) (λ x. order x y ≡ Less) list (λ x b. agrees x b.0) h.below);
    below = all_push (λ x. Below (cell x) rest) list y
        (all_map (λ x. Below (cell x) ((k, s) ∷ rest)) (λ x. Below (cell x) rest) list (λ x b. b.1) h.below)
        (subst (λ (c : Cell). Below c rest) (sym at) (sorted_head cell_order k (keys_of rest) h.left));
    only = λ x is. elim (Contains-push_cases list y x is) [
      | inl old ↦ ((h.only x old).0, gone o k s rest h.left (cell x) (h.only x old).1)
      | inr new ↦ (
        subst P new p,
        subst (λ (z : X). lookup (is_at (cell_order (cell z))) rest ≡ None) new
            (none_after o k s rest h.left (cell y) (subst (λ (c : Cell). same_cell c k ≡ true) (sym at) itself)),
      )
    ];
    every = λ x p' e. by_cases (same_cell (cell x) k)
        (λ is. subst (λ (z : X). Contains (list ++ y ∷ []) z) (one x (apart (cell x) k is) p') (Contains-push list y))
        (λ is. Contains-append_left list (y ∷ []) x (h.every x p' (look k s rest (cell x) is e)));
  }

  -- nothing that is asked for is left
  pub list_stop : (rest : List (Cell × S)) (list : List X) → ((x : X) → lookup (is_at (cell_order (cell x))) rest ≡ None) → Listed order cell P rest list → Lists order list P
  list_stop rest list none h = record { ascends = h.ascends; only = λ x is. (h.only x is).0; every = λ x p. h.every x p (none x) }

  pub list_end : (rest : List (Cell × S)) (list : List X) → rest ≡ [] → Listed order cell P rest list → Lists order list P
  list_end rest list e h =
      let done : Listed order cell P [] list = subst (λ (r : List (Cell × S)). Listed order cell P r list) e h in
      record { ascends = done.ascends; only = λ x is. (done.only x is).0; every = λ x p. done.every x p refl }

-- cells come by property, and then by keys
abbrev pub ByParts : Type 0
ByParts = (a b : Cell) → cell_order a b ≡ ordering_then (nat_cmp a.property b.property) (keys_order a.keys b.keys)

-- what `entries` lists: key lists whose cell hasn't its default
abbrev pub entry_cell : ℕ → List Key → Cell
entry_cell property keys = record { property = property; keys = keys }

abbrev pub IsEntry : {C V : Type 0} → (List C → V) → ℕ → List (At C) → List Key → Type 0
IsEntry plain property log keys = plain (of_cell (entry_cell property keys) log) ≡ plain [] → ⊥

-- what `effects` lists
abbrev pub IsEffect : {C : Type 0} → (List C → Option Effect) → List (At C) → CellEffect → Type 0
IsEffect effect_of delta it = effect_of (of_cell (cell_of it) delta) ≡ Some it.effect

module _ {S C V : Type 0} (plain : List C → V) (effect_of : List C → Option Effect) (stands : S → List C → List C → Type 0) (cells : List (Cell × S)) (base delta : List (At C)) where
  default_unkept : (cell : Cell) → GridStands plain effect_of stands cells base delta → kept_at cells cell ≡ None → plain (of_cell cell (base ++ delta)) ≡ plain []
  default_unkept cell h none =
      ap plain (of_cell-append cell base delta) ∙ (when_none plain effect_of stands (kept_at cells cell) (of_cell cell base) (of_cell cell delta) (sym none) (h cell)).0

  pub entries_start : IsTotalOrder cell_order → ByParts → (property : ℕ) → IsStrictlySortedBy cell_order (keys_of cells) → GridStands plain effect_of stands cells base delta
      → Listed keys_order (entry_cell property) (IsEntry plain property (base ++ delta)) (entries_from cell_order cells (entry_cell property [])) []
  entries_start o by_parts property sorted h =
      list_start keys_order (entry_cell property) (IsEntry plain property (base ++ delta)) (entries_from cell_order cells (entry_cell property [])) (sorted_from (entry_cell property []) cells sorted)
      (λ keys entry none. entry (default_unkept (entry_cell property keys) h
      (sym (kept_from o cells (entry_cell property []) (entry_cell property keys) (first_in by_parts property keys)) ∙ none)))

  -- a kept state that says whether its value is another than the default
  pub set_kept : (property : ℕ) (keys : List Key) (s : S) (r : Bool) → GridStands plain effect_of stands cells base delta → kept_at cells (entry_cell property keys) ≡ Some s
      → ((before after : List C) → stands s before after → IsTrue r ↔ (plain (before ++ after) ≡ plain [] → ⊥))
      → IsTrue r ↔ IsEntry plain property (base ++ delta) keys
  set_kept property keys s r h some says =
      let cell : Cell = entry_cell property keys in
      let said = says (of_cell cell base) (of_cell cell delta) (when_some plain effect_of stands (kept_at cells cell) s (of_cell cell base) (of_cell cell delta) (sym some) (h cell)).0 in
      let both = ap plain (of_cell-append cell base delta) in
      (λ e is. said.0 e (sym both ∙ is), λ entry. said.1 (λ is. entry (both ∙ is)))

  -- a kept state that says what was done to it
  pub effect_kept : (cell : Cell) (s : S) (r : Option Effect) → GridStands plain effect_of stands cells base delta → kept_at cells cell ≡ Some s
      → ((before after : List C) → stands s before after → r ≡ effect_of after) → r ≡ effect_of (of_cell cell delta)
  effect_kept cell s r h some says =
      says (of_cell cell base) (of_cell cell delta) (when_some plain effect_of stands (kept_at cells cell) s (of_cell cell base) (of_cell cell delta) (sym some) (h cell)).0

-- where a cell of a higher property comes next, no cell of the property is left
pub stretch_over : {S : Type 0} → IsTotalOrder cell_order → ByParts → (property : ℕ) (k : Cell) (s : S) (rest : List (Cell × S)) → IsStrictlySortedBy cell_order (keys_of ((k, s) ∷ rest))
    → property < k.property → (keys : List Key) → lookup (is_at (cell_order (entry_cell property keys))) ((k, s) ∷ rest) ≡ None
stretch_over o by_parts property k s rest sorted low keys =
    lookup-none (is_at (cell_order (entry_cell property keys))) ((k, s) ∷ rest)
    (none_below_head o (entry_cell property keys) (k, s) rest sorted (later o by_parts (entry_cell property keys) k low))

-- cells of one property by their keys
pub less_keys : ((a b : Cell) → cell_order a b ≡ ordering_then (nat_cmp a.property b.property) (keys_order a.keys b.keys)) → (property : ℕ) (a b : List Key)
    → cell_order (entry_cell property a) (entry_cell property b) ≡ Less → keys_order a b ≡ Less
less_keys by_parts property a b less =
    sym (by_parts (entry_cell property a) (entry_cell property b) ∙ ap (λ (r : Ordering). ordering_then r (keys_order a b)) (tied_itself nat_cmp_total property)) ∙ less

-- a cell has one effect
pub same_effect_of : {C : Type 0} (effect_of : List C → Option Effect) (delta : List (At C)) (it other : CellEffect) → cell_of it ≡ cell_of other
    → IsEffect effect_of delta it → IsEffect effect_of delta other → it ≡ other
same_effect_of effect_of delta it other same a b =
    let e : Some it.effect ≡ Some other.effect = sym a ∙ ap (λ (q : Cell). effect_of (of_cell q delta)) same ∙ b in
    let f : it.effect ≡ other.effect = cc in
    let p : it.property ≡ other.property = ap (λ (q : Cell). q.property) same in
    let k : it.keys ≡ other.keys = ap (λ (q : Cell). q.keys) same in
    by_fields it other p k f
  where
    by_fields : (it other : CellEffect) → it.property ≡ other.property → it.keys ≡ other.keys → it.effect ≡ other.effect → it ≡ other
    by_fields it other p k f =
        ap (λ (x : ℕ). let y : CellEffect = record { property = x; keys = it.keys; effect = it.effect } in y) p
        ∙ ap (λ (x : List Key). let y : CellEffect = record { property = other.property; keys = x; effect = it.effect } in y) k
        ∙ ap (λ (x : Effect). let y : CellEffect = record { property = other.property; keys = other.keys; effect = x } in y) f

pub no_effect_of : {C : Type 0} (effect_of : List C → Option Effect) (delta : List (At C)) (it : CellEffect) (k : Cell) → cell_of it ≡ k
    → None ≡ effect_of (of_cell k delta) → IsEffect effect_of delta it → ⊥
no_effect_of effect_of delta it k same none is =
    none_not_some it.effect (none ∙ sym (ap (λ (q : Cell). effect_of (of_cell q delta)) same) ∙ is)
  where
    none_not_some : (e : Effect) → None ≡ Some e → ⊥
    none_not_some e is = cc
