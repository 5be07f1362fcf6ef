-- Where a key is, and what an edit there makes of the entries.
use Rattle.std.proofs.Common.{◌≡◌, ◌⊎◌, inl, inr, List, [], ◌∷◌, ◌++◌, sym, ◌∙◌, ap, subst, ℕ, zero, suc, ◌<◌, ◌≤◌, length, take, drop, get_or, arith, add-one}
use Rattle.std.specs.Prelude.{MatchResult, Result}
use Rattle.std.specs.declared.result.Result.TheVariants.{Ok, Err}
use Rattle.std.specs.List.{insert, remove}
use Rattle.std.specs.List.Sorted.{IsSortedBy, IsBinarySearchResult, IsSearchInRange}
use Rattle.std.specs.Ordering.{is_eq, is_lt}
use Rattle.std.specs.Cmp.{IsTotalOrder, eq_by_cmp_equiv}
use Rattle.std.specs.declared.cmp.Ordering.{Ordering}
use Rattle.std.specs.declared.cmp.Ordering.TheVariants.{Less, Equal, Greater}
use Rattle.std.specs.declared.sync.Arc.{Arc}
use Rattle.std.specs.Arc.{arc_value}
use Rattle.std.proofs.lemmas.List.{map-append, take-map, drop-map, length-map}
use Rattle.std.proofs.Math.ListN.{get_or-map}
use Rattle.std.proofs.lemmas.List.Sorted.{searchable_from_sorted}
use Rattle.shared_map.specs.Places.{IsPlaceOf, IsGapFor, IsStartOf}
use Rattle.shared_map.specs.Shelves.{pointed}
use Rattle.shared_map.proofs.EntryLemmas.{Ascends, Below, is_eq_equal, less_back, greater_back, head_below, tail_ascends}

-- ---- what pointers point to
module _ {E Z : Type 0} where
  pub at_pointed : (P : E → Type 0) (xs : List (Arc E Z)) (k : ℕ) (d : E) → k < length xs → ((p : Arc E Z) → P (arc_value (get_or xs k p))) → P (get_or (pointed xs) k d)
  at_pointed P [] k d low h = let no : ⊥ = omega (arith, low) in absurd no
  at_pointed P (x ∷ xs) zero d low h = h x
  at_pointed P (x ∷ xs) (suc k) d low h = at_pointed P xs k d (omega (arith, low)) h

  pub pointed_insert : (xs : List (Arc E Z)) (i : ℕ) (x : Arc E Z) → pointed (insert xs i x) ≡ insert (pointed xs) i (arc_value x)
  pointed_insert xs i x =
      map-append arc_value (take i xs) (x ∷ drop i xs) ∙ ap (λ l. l ++ arc_value x ∷ pointed (drop i xs)) (sym (take-map arc_value i xs))
      ∙ ap (λ l. take i (pointed xs) ++ arc_value x ∷ l) (sym (drop-map arc_value i xs))

  pub pointed_remove : (xs : List (Arc E Z)) (i : ℕ) → pointed (remove xs i) ≡ remove (pointed xs) i
  pointed_remove xs i =
      map-append arc_value (take i xs) (drop (suc i) xs) ∙ ap (λ l. l ++ pointed (drop (suc i) xs)) (sym (take-map arc_value i xs))
      ∙ ap (λ l. take i (pointed xs) ++ l) (sym (drop-map arc_value (suc i) xs))

-- what an element that was read points to
pub pointed_at : {E Z : Type 0} (xs : List (Arc E Z)) (i : ℕ) (p : Arc E Z) → p ≡ get_or xs i p → get_or (pointed xs) i (arc_value p) ≡ arc_value p
pointed_at xs i p is = get_or-map arc_value xs i p ∙ ap arc_value (sym is)

-- ---- the search
abbrev pub key_at : {K V Z : Type 0} → Arc (K × V) Z → K
key_at {K} {V} p = let e : K × V = arc_value p in e.0

equal_turned : {K : Type 0} {cmp : K → K → Ordering} → IsTotalOrder cmp → (a b : K) → cmp a b ≡ Equal → cmp b a ≡ Equal
equal_turned {K} {cmp} o a b h = is_eq_equal (cmp b a) ((eq_by_cmp_equiv o).symm b a ∙ ap is_eq h)

module _ {K V Z : Type 0} {cmp : K → K → Ordering} (o : IsTotalOrder cmp) where
  adjacent : (xs : List (Arc (K × V) Z)) (k : ℕ) (p : Arc (K × V) Z) → Ascends cmp (pointed xs) → suc k < length xs
      → cmp (key_at (get_or xs k p)) (arc_value (get_or xs (suc k) p)).0 ≡ Less
  adjacent [] k p up low = let no : ⊥ = omega (arith, low) in absurd no
  adjacent (x ∷ []) k p up low = let no : ⊥ = omega (arith, low) in absurd no
  adjacent (x ∷ y ∷ xs) zero p up low = (head_below cmp (arc_value x) (pointed (y ∷ xs)) up).0
  adjacent (x ∷ y ∷ xs) (suc k) p up low = adjacent (y ∷ xs) k p (tail_ascends cmp (arc_value x) (pointed (y ∷ xs)) up) (omega (arith, low))

  never_back : (xs : List (Arc (K × V) Z)) → Ascends cmp (pointed xs) → IsSortedBy (λ (a b : Arc (K × V) Z). is_lt (cmp (key_at a) (key_at b))) xs
  never_back xs up k p from low =
      let less = adjacent xs k p up (subst (λ (n : ℕ). n < length xs) (add-one k) low) in
      ap (λ (n : ℕ). is_lt (cmp (key_at (get_or xs n p)) (key_at (get_or xs k p)))) (add-one k)
      ∙ ap is_lt (less_back o (key_at (get_or xs k p)) (arc_value (get_or xs (suc k) p)).0 less)

below_at : {K V : Type 0} (cmp : K → K → Ordering) (key : K) (entries : List (K × V)) (k : ℕ) (d : K × V) → Below cmp key entries → k < length entries → cmp key (get_or entries k d).0 ≡ Less
below_at cmp key [] k d below low = let no : ⊥ = omega (arith, low) in absurd no
below_at cmp key (e ∷ entries) zero d below low = below.0
below_at cmp key (e ∷ entries) (suc k) d below low = below_at cmp key entries k d below.1 (omega (arith, low))

far : {K V : Type 0} (cmp : K → K → Ordering) (entries : List (K × V)) (i j : ℕ) (d : K × V) → Ascends cmp entries → i < j → j < length entries
    → cmp (get_or entries i d).0 (get_or entries j d).0 ≡ Less
far cmp [] i j d up under low = let no : ⊥ = omega (arith, low) in absurd no
far cmp (e ∷ entries) i zero d up under low = let no : ⊥ = omega (arith, under) in absurd no
far cmp (e ∷ entries) zero (suc j) d up under low = below_at cmp e.0 entries j d (head_below cmp e entries up) (omega (arith, low))
far cmp (e ∷ entries) (suc i) (suc j) d up under low = far cmp entries i j d (tail_ascends cmp e entries up) (omega (arith, under)) (omega (arith, low))

module _ {K V Z : Type 0} {cmp : K → K → Ordering} (o : IsTotalOrder cmp) where
  -- what a binary search says
  pub placed : (xs : List (Arc (K × V) Z)) (key : K) (r : Result ℕ ℕ) → Ascends cmp (pointed xs) → IsSearchInRange r (length xs)
      → IsBinarySearchResult (λ (p : Arc (K × V) Z). cmp (key_at p) key) xs r → MatchResult r (IsPlaceOf cmp (pointed xs) key) (IsGapFor cmp (pointed xs) key)
  placed xs key (Ok i) up range at =
      let here : (d : K × V) → cmp key (get_or (pointed xs) i d).0 ≡ Equal =
      λ d. at_pointed (λ (e : K × V). cmp key e.0 ≡ Equal) xs i d range (λ p. equal_turned o (key_at (get_or xs i p)) key (at p)) in
      let low : i < length (pointed xs) = subst (λ (n : ℕ). i < n) (sym (length-map xs arc_value)) range in
      record {
        within = low;
        here = here;
        before = λ k d under. o.congr key (get_or (pointed xs) i d).0 (get_or (pointed xs) k d).0 (here d)
            ∙ less_back o (get_or (pointed xs) k d).0 (get_or (pointed xs) i d).0 (far cmp (pointed xs) k i d up under low);
        after = λ k d over lower. o.congr key (get_or (pointed xs) i d).0 (get_or (pointed xs) k d).0 (here d) ∙ far cmp (pointed xs) i k d up over lower;
      }
  placed xs key (Err i) up range at =
      let parts = at (searchable_from_sorted o key_at xs key (never_back o xs up)) in
      record {
        within = subst (λ (n : ℕ). i ≤ n) (sym (length-map xs arc_value)) range;
        before = λ k d under. at_pointed (λ (e : K × V). cmp key e.0 ≡ Greater) xs k d (omega arith) (λ p. less_back o (key_at (get_or xs k p)) key (parts.0 k p (omega arith) under));
        after = λ k d over low. at_pointed (λ (e : K × V). cmp key e.0 ≡ Less) xs k d (subst (λ (n : ℕ). k < n) (length-map xs arc_value) low)
            (λ p. greater_back o (key_at (get_or xs k p)) key (parts.1 k p over (subst (λ (n : ℕ). k < n) (length-map xs arc_value) low)));
      }

place_or_after : (i k : ℕ) → i ≤ k → (k ≡ i) ⊎ (i < k)
place_or_after i k h = grind arith

module _ {K V : Type 0} {cmp : K → K → Ordering} (o : IsTotalOrder cmp) (entries : List (K × V)) (key : K) where
  pub start_at_place : (i : ℕ) → IsPlaceOf cmp entries key i → IsStartOf cmp entries key i
  start_at_place i at = record {
    within = omega (arith, at.within);
    before = λ k d under. ap is_lt (greater_back o key (get_or entries k d).0 (at.before k d under));
    after = λ k d over low. elim (place_or_after i k over) [
      | inl same ↦ ap is_lt (equal_turned o key (get_or entries k d).0 (subst (λ (n : ℕ). cmp key (get_or entries n d).0 ≡ Equal) (sym same) (at.here d)))
      | inr later ↦ ap is_lt (less_back o key (get_or entries k d).0 (at.after k d later low))
    ];
  }

  pub start_at_gap : (i : ℕ) → IsGapFor cmp entries key i → IsStartOf cmp entries key i
  start_at_gap i at = record {
    within = at.within;
    before = λ k d under. ap is_lt (greater_back o key (get_or entries k d).0 (at.before k d under));
    after = λ k d over low. ap is_lt (less_back o key (get_or entries k d).0 (at.after k d over low));
  }
