-- Ascending lists without repeats.
use Rattle.std.specs.Prelude.{◌≡◌, refl, ℕ, List, [], ◌∷◌, Contains}
use Rattle.std.proofs.Common.{sym, subst, T, lit<}
use Rattle.std.proofs.lemmas.List.Elements.{All-nil, All-cons}
use Rattle.std.specs.declared.cmp.Ordering.{Ordering}
use Rattle.std.specs.Ordering.{nat_cmp, is_eq}
use Rattle.std.specs.List.{fold}
use Rattle.std.specs.List.Sorted.{IsStrictlySortedBy}
use Rattle.std.specs.BTreeSet.{insert_key}

-- xs ascends strictly, and its members are exactly those that meet P
pub record Lists {A : Type 0} (order : A → A → Ordering) (xs : List A) (P : A → Type 0) : Type 0 where
  pub ascends : IsStrictlySortedBy order xs
  pub only : (x : A) → Contains xs x → P x
  pub every : (x : A) → P x → Contains xs x

-- the members of a list, ascending and without repeats: each is put at its place unless it is there
abbrev pub ascending : {A : Type 0} → (A → A → Ordering) → List A → List A
ascending order xs = fold (insert_key order) [] xs

pub example_ascending : ascending nat_cmp (2 ∷ 3 ∷ 1 ∷ 2 ∷ []) ≡ 1 ∷ 2 ∷ 3 ∷ []
example_ascending = refl

-- a list of one lists what is its member, and one with a repeat lists nothing
pub example_lists : Lists nat_cmp (4 ∷ []) (λ n. n ≡ 4) × ((P : ℕ → Type 0) → ¬ Lists nat_cmp (2 ∷ 2 ∷ []) P)
unfolding IsStrictlySortedBy
example_lists = (record { ascends = (tt, tt); only = λ x h. subst (λ n. n ≡ 4) h.2 (All-cons (λ n. n ≡ 4) 4 [] refl (All-nil (λ n. n ≡ 4)) h.0 x h.1); every = λ x e. (0, lit< tt, sym e) }, λ P h. subst (λ o. T (is_eq o)) h.ascends.0.0 tt)
