-- Parts of a list.
use Rattle.std.proofs.Common.{◌≡◌, refl, subst, arith}
use Rattle.std.specs.Prelude.{ℕ, suc, ◌+◌, ⊤, List, [], ◌∷◌, ◌++◌, length, Some, slice_get}

-- a list has a part at a place
abbrev pub Has : {A : Type 0} → List A → ℕ → List A → Type 0
Has xs at [] = ⊤
Has xs at (x ∷ part) = (slice_get xs at ≡ Some x) × Has xs (suc at) part

pub has_moved : {A : Type 0} (xs : List A) (at to : ℕ) (part : List A) → at ≡ to → Has xs at part → Has xs to part
has_moved xs at to part e h = subst (λ p. Has xs p part) e h

pub has_front : {A : Type 0} (xs : List A) (at : ℕ) (front back : List A) → Has xs at (front ++ back) → Has xs at front
has_front xs at [] back h = tt
has_front xs at (x ∷ front) back h = (h.0, has_front xs (suc at) front back h.1)

pub has_back : {A : Type 0} (xs : List A) (at : ℕ) (front back : List A) → Has xs at (front ++ back) → Has xs (at + length front) back
has_back xs at [] back h = has_moved xs at (at + 0) back (omega arith) h
has_back xs at (x ∷ front) back h = has_moved xs (suc at + length front) (at + suc (length front)) back (omega arith) (has_back xs (suc at) front back h.1)

has_later : {A : Type 0} (x : A) (xs : List A) (at : ℕ) (part : List A) → Has xs at part → Has (x ∷ xs) (suc at) part
has_later x xs at [] h = tt
has_later x xs at (y ∷ part) h = (h.0, has_later x xs (suc at) part h.1)

-- a list has itself
pub has_all : {A : Type 0} (xs : List A) → Has xs 0 xs
has_all [] = tt
has_all (x ∷ xs) = (refl, has_later x xs 0 xs (has_all xs))
