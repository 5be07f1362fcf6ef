-- A list ascends where each item is below the next.
use Rattle.std.proofs.Common.{◌≡◌, refl, sym, ◌∙◌, ap, subst, ℕ, zero, suc, ◌+◌, ◌-◌, ◌<◌, ◌≤◌, Bool, true, false, List, [], ◌∷◌, length, get_or, inl, inr, arith}
use Rattle.std.proofs.lemmas.Bool.{cases_lt}
use Rattle.std.proofs.lemmas.List.{get_or_default}
use Rattle.std.specs.List.{AllByRecursion}
use Rattle.std.specs.List.Sorted.{IsStrictlySortedBy}
use Rattle.std.specs.Ordering.{is_lt}
use Rattle.std.specs.declared.cmp.Ordering.{Ordering}
use Rattle.std.specs.declared.cmp.Ordering.TheVariants.{Less, Equal, Greater}
use Rattle.std.specs.Cmp.{IsTotalOrder}

pub less_of : (r : Ordering) → is_lt r ≡ true → r ≡ Less
less_of Less e = refl
less_of Equal e = cc
less_of Greater e = cc

module _ {A : Type 0} (R : A → A → Ordering) where
  below_all : IsTotalOrder R → (x y : A) (xs : List A) → R x y ≡ Less → AllByRecursion (λ z. R y z ≡ Less) xs → AllByRecursion (λ z. R x z ≡ Less) xs
  below_all total x y [] h a = tt
  below_all total x y (z ∷ xs) h a = (total.trans x y z h a.0, below_all total x y xs h a.1)

  -- each item is below the next
  abbrev pub Neighbours : List A → ℕ → Type 0
  Neighbours xs high = (k : ℕ) (d : A) → k + 1 < high → is_lt (R (get_or xs k d) (get_or xs (k + 1) d)) ≡ true

  next_ones : (x : A) (xs : List A) → Neighbours (x ∷ xs) (length (x ∷ xs)) → Neighbours xs (length xs)
  next_ones x xs h k d lt =
      let e : k + 1 ≡ suc k = omega arith in
      let f : suc k + 1 ≡ suc (suc k) = omega arith in
      let lt' : suc k + 1 < length (x ∷ xs) = omega arith in
      let at : is_lt (R (get_or xs k d) (get_or (x ∷ xs) (suc k + 1) d)) ≡ true = h (suc k) d lt' in
      let at' : is_lt (R (get_or xs k d) (get_or xs (suc k) d)) ≡ true = subst (λ (n : ℕ). is_lt (R (get_or xs k d) (get_or (x ∷ xs) n d)) ≡ true) f at in
      subst (λ (n : ℕ). is_lt (R (get_or xs k d) (get_or xs n d)) ≡ true) (sym e) at'

  pub from_neighbours : IsTotalOrder R → (xs : List A) → Neighbours xs (length xs) → IsStrictlySortedBy R xs
  unfolding IsStrictlySortedBy
  from_neighbours total [] h = tt
  from_neighbours total (x ∷ []) h = (tt, tt)
  from_neighbours total (x ∷ y ∷ ys) h =
      let rest : IsStrictlySortedBy R (y ∷ ys) = from_neighbours total (y ∷ ys) (next_ones x (y ∷ ys) h) in
      let lt : R x y ≡ Less = less_of (R x y) (h 0 x (omega arith)) in
      ((lt, below_all total x y ys lt rest.0), rest)

  pub neighbours_of : (xs : List A) → IsStrictlySortedBy R xs → Neighbours xs (length xs)
  unfolding IsStrictlySortedBy
  neighbours_of [] s k d lt = absurd (omega arith)
  neighbours_of (x ∷ []) s k d lt = absurd (omega arith)
  neighbours_of (x ∷ y ∷ ys) s zero d lt = ap is_lt s.0.0
  neighbours_of (x ∷ y ∷ ys) s (suc k) d lt =
      let f : suc k + 1 ≡ suc (k + 1) = omega arith in
      subst (λ (n : ℕ). is_lt (R (get_or (y ∷ ys) k d) (get_or (x ∷ y ∷ ys) n d)) ≡ true) (sym f) (neighbours_of (y ∷ ys) s.1 k d (omega arith))

  -- what stands at two places, whatever stands beyond the end
  at_places : (xs : List A) (i : ℕ) (a b d : A) → 1 ≤ i → i < length xs → a ≡ get_or xs (i - 1) a → b ≡ get_or xs i b → R a b ≡ R (get_or xs (i - 1) d) (get_or xs i d)
  at_places xs i a b d low high p q =
      let lt : i - 1 < length xs = omega arith in
      let left : a ≡ get_or xs (i - 1) d = p ∙ get_or_default xs (i - 1) a d lt in
      let right : b ≡ get_or xs i d = q ∙ get_or_default xs i b d high in
      λ n. R (left n) (right n)

  -- one item more, above the one before
  pub one_more : (xs : List A) (i : ℕ) (a b : A) → 1 ≤ i → i < length xs → a ≡ get_or xs (i - 1) a → b ≡ get_or xs i b → is_lt (R a b) ≡ true → Neighbours xs i → Neighbours xs (i + 1)
  one_more xs i a b low high p q e so_far k d lt =
      elim (cases_lt (k + 1) i) [
        | inl below ↦ so_far k d below
        | inr above ↦
            let this : k ≡ i - 1 = omega arith in
            let next : k + 1 ≡ i = omega arith in
            rw (next, this) (sym (ap is_lt (at_places xs i a b d low high p q)) ∙ e)
      ]

  -- one that isn't
  pub not_above : (xs : List A) (i : ℕ) (a b : A) → 1 ≤ i → i < length xs → a ≡ get_or xs (i - 1) a → b ≡ get_or xs i b → is_lt (R a b) ≡ false → IsStrictlySortedBy R xs → false ≡ true
  not_above xs i a b low high p q e s =
      let lt : i - 1 + 1 < length xs = omega arith in
      let next : i - 1 + 1 ≡ i = omega arith in
      let at : is_lt (R (get_or xs (i - 1) a) (get_or xs (i - 1 + 1) a)) ≡ true = neighbours_of xs s (i - 1) a lt in
      let at' : is_lt (R (get_or xs (i - 1) a) (get_or xs i a)) ≡ true = rw next at at in
      sym e ∙ ap is_lt (at_places xs i a b a low high p q) ∙ at'
