-- Where a search in an index ends, the first item stands that goes by the key.
use Rattle.std.proofs.Common.{◌≡◌, refl, ◌∙◌, ap, subst, ℕ, zero, suc, ◌<◌, ◌≤◌, inl, inr, Bool, true, false, List, [], ◌∷◌, ◌++◌, length, Some, None, option_map, if◌then◌else◌, slice_index_or, arith}
use Rattle.std.specs.List.{All, Contains, HoldsAt}
use Rattle.std.specs.List.Sorted.{IsNonDecreasingBy, IsPartitionedBy, IsPartitionPoint}
use Rattle.std.specs.declared.cmp.Ordering.{Ordering}
use Rattle.std.specs.declared.cmp.Ordering.TheVariants.{Less, Equal, Greater}
use Rattle.std.specs.Ordering.{nat_cmp, ordering_then, ordering_index, is_eq, is_lt}
use Rattle.std.specs.Cmp.{Equal-is}
use Rattle.std.proofs.lemmas.Cmp.{tied_back}
use Rattle.std.proofs.lemmas.Bool.{cases_lt, cases_Bool}
use Rattle.std.proofs.lemmas.Bool.Decides.{nat_tests}
use Rattle.std.proofs.lemmas.List.Elements.{All-push, All-weaker, All-nil, Contains-push, Contains-append_left, at_from_Contains}
use Rattle.std.proofs.lemmas.List.Sorted.{ranks_by, sorted_far, searchable_from_sorted, All-permutation, Contains-permutation}
use Rattle.cloud_base.specs.declared.schema.Owner.TheVariants as owner
use Rattle.kind_rules.specs.Names.{first_place}
use Rattle.kind_names.specs.Keys.{Named, named_order, goes_by}
use Rattle.kind_names.specs.Indexes.{named_at, number_order, below, Indexes}
use Rattle.kind_names.proofs.Orders.{named_order_total, number_order_total}

-- ---- what an item goes by

pub named_within : {A : Type 0} (seen : A → Named) (xs : List A) (n : ℕ) (d : A) → n < length xs → seen (slice_index_or xs n d) ≡ named_at seen xs n
named_within seen [] n d lt = absurd (omega arith)
named_within seen (x ∷ xs) zero d lt = refl
named_within seen (x ∷ xs) (suc n) d lt = named_within seen xs n d (omega arith)

pub named_beyond : {A : Type 0} (seen : A → Named) (xs : List A) (n : ℕ) → length xs ≤ n → (owner.Global, []) ≡ named_at seen xs n
named_beyond seen [] n le = refl
named_beyond seen (x ∷ xs) zero le = absurd (omega arith)
named_beyond seen (x ∷ xs) (suc n) le = named_beyond seen xs n (omega arith)

-- ---- first places

first_at : {A : Type 0} (seen : A → Named) (test : Named → Bool) (xs : List A) (p : ℕ) → p < length xs → test (named_at seen xs p) ≡ true → ((q : ℕ) → q < p → test (named_at seen xs q) ≡ false) → first_place (λ x. test (seen x)) xs ≡ Some p
first_at seen test [] p lt hit miss = absurd (omega arith)
first_at seen test (x ∷ xs) zero lt hit miss = ap (λ b. if b then Some 0 else option_map suc (first_place (λ x. test (seen x)) xs)) hit
first_at seen test (x ∷ xs) (suc p) lt hit miss =
    ap (λ b. if b then Some 0 else option_map suc (first_place (λ x. test (seen x)) xs)) (miss 0 (omega arith))
    ∙ ap (option_map suc) (first_at seen test xs p (omega arith) hit (λ q h. miss (suc q) (omega arith)))

first_nowhere : {A : Type 0} (seen : A → Named) (test : Named → Bool) (xs : List A) → ((q : ℕ) → q < length xs → test (named_at seen xs q) ≡ false) → first_place (λ x. test (seen x)) xs ≡ None
first_nowhere seen test [] miss = refl
first_nowhere seen test (x ∷ xs) miss =
    ap (λ b. if b then Some 0 else option_map suc (first_place (λ x. test (seen x)) xs)) (miss 0 (omega arith))
    ∙ ap (option_map suc) (first_nowhere seen test xs (λ q h. miss (suc q) (omega arith)))

-- ---- the numbers below a number

all_below : (n : ℕ) → All (λ m. m < n) (below n)
all_below zero = All-nil (λ m. m < 0)
all_below (suc n) = All-push (λ m. m < suc n) (below n) n (All-weaker (λ m. m < n) (λ m. m < suc n) (λ m h. omega arith) (below n) (all_below n)) (omega arith)

each_below : (n q : ℕ) → q < n → Contains (below n) q
each_below zero q lt = absurd (omega arith)
each_below (suc n) q lt = elim (cases_lt q n) [
  | inl h ↦ Contains-append_left (below n) (n ∷ []) q (each_below n q h)
  | inr h ↦ subst (Contains (below n ++ n ∷ [])) (omega (arith, h)) (Contains-push (below n) n)
]

-- ---- the order of the numbers in an index

less_first : (o : Ordering) → is_lt o ≡ true → ordering_index o ≡ 0
less_first Less h = refl
less_first Equal h = cc
less_first Greater h = cc

first_less : (o : Ordering) → ordering_index o ≤ 0 → is_lt o ≡ true
first_less Less h = refl
first_less Equal h = absurd (omega (arith, h))
first_less Greater h = absurd (omega (arith, h))

less_apart : (o : Ordering) → is_lt o ≡ true → is_eq o ≡ false
less_apart Less h = refl
less_apart Equal h = cc
less_apart Greater h = cc

above_apart : (o r : Ordering) → is_lt o ≡ false → is_eq o ≡ false → ordering_index o ≤ ordering_index r → is_eq r ≡ false
above_apart Less r l e h = cc
above_apart Equal r l e h = cc
above_apart Greater Less l e h = refl
above_apart Greater Equal l e h = absurd (omega (arith, h))
above_apart Greater Greater l e h = refl

no_less : (r s : Ordering) → is_lt (ordering_then r s) ≡ false → is_lt r ≡ false
no_less Less s h = h
no_less Equal s h = refl
no_less Greater s h = refl

sooner : (m n : ℕ) → m < n → is_lt (nat_cmp m n) ≡ true
sooner m n lt = grind (arith, nat_tests, lt)

-- of two that go by one name, the sooner one comes first
ties_ascend : (a b k : Named) (m n : ℕ) → is_eq (named_order a k) ≡ true → is_eq (named_order b k) ≡ true → m < n → is_lt (ordering_then (named_order a b) (nat_cmp m n)) ≡ true
ties_ascend a b k m n ea eb lt =
    let tie : named_order a b ≡ Equal = named_order_total.congr a k b ((Equal-is (named_order a k)).0 ea) ∙ tied_back named_order_total b k ((Equal-is (named_order b k)).0 eb) in
    ap (λ o. is_lt (ordering_then o (nat_cmp m n))) tie ∙ sooner m n lt

clash : (b : Bool) → b ≡ true → b ≡ false → ⊥
clash b t f = cc

module _ {A : Type 0} (seen : A → Named) (items : List A) (k : Named) (numbers : List ℕ) (index : Indexes seen items numbers) where
  abbrev at : ℕ → Ordering
  at m = named_order (named_at seen items m) k

  climbs : IsNonDecreasingBy (λ m. ordering_index (at m)) numbers
  climbs = searchable_from_sorted named_order_total (named_at seen items) numbers k (λ m d l h. no_less _ _ (index.ascend m d l h))

  pub parted : IsPartitionedBy (λ m. is_lt (at m)) numbers
  parted i j d le lt t =
      let up = climbs i j d le lt in
      let low = less_first (at (slice_index_or numbers j d)) t in
      first_less (at (slice_index_or numbers i d)) (omega (arith, up, low))

  stands : (q : ℕ) → q < length items → (j : ℕ) × (j < length numbers) × HoldsAt (λ m. m ≡ q) numbers j
  stands q lt = at_from_Contains numbers q (Contains-permutation (below (length items)) numbers q index.all (each_below (length items) q lt))

  within : (i : ℕ) → i < length numbers → slice_index_or numbers i 0 < length items
  within i lt = All-permutation (λ m. m < length items) (below (length items)) numbers index.all (all_below (length items)) i 0 lt

  module _ (i : ℕ) (point : IsPartitionPoint (λ m. is_lt (at m) ≡ true) (λ m. is_lt (at m) ≡ false) numbers i) where
    abbrev first : ℕ
    first = slice_index_or numbers i 0

    -- a number that stands before the point
    passed : (j q : ℕ) → HoldsAt (λ m. m ≡ q) numbers j → j < i → is_eq (at q) ≡ false
    passed j q is lt = less_apart (at q) (subst (λ m. is_lt (at m) ≡ true) (is 0) (point.0 j 0 (omega arith) lt))

    -- one that stands behind it, and has the same name, isn't less
    behind : (j q : ℕ) → HoldsAt (λ m. m ≡ q) numbers j → j < length numbers → i ≤ j → is_eq (at first) ≡ true → q < first → is_eq (at q) ≡ true → ⊥
    behind j q is lt le hit h e =
        let far = subst (λ m. is_lt (number_order seen items m first) ≡ false) (is 0) (sorted_far (λ m n. is_lt (number_order seen items m n)) (ranks_by (number_order_total seen items) (λ m. m)) numbers index.ascend i j 0 le lt) in
        clash _ (ties_ascend (named_at seen items q) (named_at seen items first) k q first e hit h) far

    sooner_apart : i < length numbers → is_eq (at first) ≡ true → (q : ℕ) → q < first → is_eq (at q) ≡ true → is_eq (at q) ≡ false
    sooner_apart lt hit q h e =
        let inside = within i lt in
        let there = stands q (omega (arith, inside, h)) in
        elim (cases_lt there.0 i) [
          | inl l ↦ passed there.0 q there.2 l
          | inr l ↦ absurd (behind there.0 q there.2 there.1 l hit h e)
        ]

    pub found : i < length numbers → is_eq (at first) ≡ true → first_place (goes_by seen k) items ≡ Some first
    found lt hit = first_at seen (λ x. is_eq (named_order x k)) items first (within i lt) hit (λ q h. elim (cases_Bool (is_eq (at q))) [
      | inl e ↦ sooner_apart lt hit q h e
      | inr e ↦ e
    ])

    beyond : (j q : ℕ) → HoldsAt (λ m. m ≡ q) numbers j → j < length numbers → i ≤ j → (i < length numbers → is_eq (at first) ≡ false) → is_eq (at q) ≡ false
    beyond j q is lt le miss =
        let inside : i < length numbers = omega (arith, le, lt) in
        let up = subst (λ m. ordering_index (at first) ≤ ordering_index (at m)) (is 0) (climbs i j 0 le lt) in
        above_apart (at first) (at q) (point.1 i 0 (omega arith) inside) (miss inside) up

    apart : (i < length numbers → is_eq (at first) ≡ false) → (q : ℕ) → q < length items → is_eq (at q) ≡ false
    apart miss q h =
        let there = stands q h in
        elim (cases_lt there.0 i) [
          | inl l ↦ passed there.0 q there.2 l
          | inr l ↦ beyond there.0 q there.2 there.1 l miss
        ]

    pub missed : (i < length numbers → is_eq (at first) ≡ false) → first_place (goes_by seen k) items ≡ None
    missed miss = first_nowhere seen (λ x. is_eq (named_order x k)) items (apart miss)
