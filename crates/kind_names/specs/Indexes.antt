-- The numbers of a list's items, in the order of what the items go by.
use Rattle.std.specs.Prelude.{ℕ, zero, suc, Bool, List, [], ◌∷◌, ◌++◌, length}
use Rattle.std.specs.declared.cmp.Ordering.{Ordering}
use Rattle.std.specs.Ordering.{nat_cmp, ordering_then, is_lt, is_eq}
use Rattle.std.specs.List.Sorted.{IsPermutation, IsSortedBy}
use Rattle.cloud_base.specs.declared.schema.Owner.TheVariants as owner
use Rattle.kind_names.specs.Keys.{Named, named_order}

-- what the item with a number goes by, and out of range the empty name
abbrev pub named_at : {A : Type 0} → (A → Named) → List A → ℕ → Named
named_at seen [] n = (owner.Global, [])
named_at seen (x ∷ xs) zero = seen x
named_at seen (x ∷ xs) (suc n) = named_at seen xs n

-- numbers by what the items go by, and equal ones by number
abbrev pub number_order : {A : Type 0} → (A → Named) → List A → ℕ → ℕ → Ordering
number_order seen xs m n = ordering_then (named_order (named_at seen xs m) (named_at seen xs n)) (nat_cmp m n)

-- whether the item with a number comes before that name, and whether it goes by it
abbrev pub is_before : {A : Type 0} → (A → Named) → List A → Named → ℕ → Bool
is_before seen xs k n = is_lt (named_order (named_at seen xs n) k)

abbrev pub is_at : {A : Type 0} → (A → Named) → List A → Named → ℕ → Bool
is_at seen xs k n = is_eq (named_order (named_at seen xs n) k)

-- the numbers below n, ascending
abbrev pub below : ℕ → List ℕ
below zero = []
below (suc n) = below n ++ n ∷ []

-- all numbers of items, ascending
pub record Indexes {A : Type 0} (seen : A → Named) (items : List A) (numbers : List ℕ) : Type 0 where
  pub all : IsPermutation (below (length items)) numbers
  pub ascend : IsSortedBy (λ m n. is_lt (number_order seen items m n)) numbers
