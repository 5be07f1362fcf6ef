-- The kinds of slots.
use Rattle.std.proofs.Common.{◌≡◌, refl, sym, ap, ◌∙◌, arith}
use Rattle.std.proofs.lemmas.Bool.Decides.{eqb_tells}
use Rattle.std.specs.Prelude.{ℕ, zero, suc, ◌+◌, ◌<◌, ◌≢◌, ◌⊎◌, true, false, ◌==◌, List, [], ◌∷◌, ◌++◌, length, Option, None, Some, if◌then◌else◌, slice_get}
use mathlib.Core.Logic.{inl, inr}
use Rattle.typed_program.specs.declared.expression.Kind.{Kind}
use Rattle.plain_vm.specs.Valid.{with_slot}

abbrev pub Slots : Type 0
Slots = ℕ → Option Kind

-- they know all that others know
abbrev pub Know : Slots → Slots → Type 0
Know slots wanted = (n : ℕ) (kind : Kind) → wanted n ≡ Some kind → slots n ≡ Some kind

pub none_some : {A B : Type 0} (a : A) → None ≡ Some a → B
none_some a e = cc

-- those that are visible stay so
pub know_fewer : (seen more : List Kind) → Know (slice_get (seen ++ more)) (slice_get seen)
know_fewer [] more n kind e = none_some kind e
know_fewer (k ∷ seen) more zero kind e = e
know_fewer (k ∷ seen) more (suc n) kind e = know_fewer seen more n kind e

at_slot : (slots : Slots) (n m : ℕ) (kind : Kind) → m ≡ n → with_slot slots n kind m ≡ Some kind
at_slot slots n m kind e = told (eqb_tells m n)
  where
    told : ((m == n) ≡ true) × (m ≡ n) ⊎ ((m == n) ≡ false) × (m ≢ n) → with_slot slots n kind m ≡ Some kind
    told (inl t) = ap (λ b. if b then Some kind else slots m) t.0
    told (inr t) = absurd (t.1 e)

off_slot : (slots : Slots) (n m : ℕ) (kind : Kind) → m ≢ n → with_slot slots n kind m ≡ slots m
off_slot slots n m kind e = told (eqb_tells m n)
  where
    told : ((m == n) ≡ true) × (m ≡ n) ⊎ ((m == n) ≡ false) × (m ≢ n) → with_slot slots n kind m ≡ slots m
    told (inl t) = absurd (e t.1)
    told (inr t) = ap (λ b. if b then Some kind else slots m) t.0

-- a slot of the same kind
pub know_assigned : (seen : List Kind) (n : ℕ) (kind : Kind) → slice_get seen n ≡ Some kind → Know (with_slot (slice_get seen) n kind) (slice_get seen)
know_assigned seen n kind there m other e = told (eqb_tells m n)
  where
    told : ((m == n) ≡ true) × (m ≡ n) ⊎ ((m == n) ≡ false) × (m ≢ n) → with_slot (slice_get seen) n kind m ≡ Some other
    told (inl t) = at_slot (slice_get seen) n m kind t.1 ∙ sym there ∙ ap (slice_get seen) (sym t.1) ∙ e
    told (inr t) = off_slot (slice_get seen) n m kind t.1 ∙ e

-- kinds in a slot and those behind it
abbrev pub with_slots : Slots → ℕ → List Kind → Slots
with_slots slots n [] = slots
with_slots slots n (kind ∷ kinds) = with_slot (with_slots slots (suc n) kinds) n kind

-- at a place it is in the first list or in the second one
abbrev InEither : List Kind → List Kind → ℕ → Kind → Type 0
InEither xs ys m kind = ((m < length xs) × (slice_get xs m ≡ Some kind)) ⊎ ((j : ℕ) × (m ≡ length xs + j) × (slice_get ys j ≡ Some kind))

in_either : (xs ys : List Kind) (m : ℕ) (kind : Kind) → slice_get (xs ++ ys) m ≡ Some kind → InEither xs ys m kind
in_either [] ys m kind e = inr (m, omega arith, e)
in_either (x ∷ xs) ys zero kind e = inl (omega arith, e)
in_either (x ∷ xs) ys (suc m) kind e = further (in_either xs ys m kind e)
  where
    further : InEither xs ys m kind → InEither (x ∷ xs) ys (suc m) kind
    further (inl h) = inl (omega (arith, h.0), h.1)
    further (inr h) = inr (h.0, omega (arith, h.1), h.2)

before_slots : (slots : Slots) (n : ℕ) (kinds : List Kind) (m : ℕ) → m < n → with_slots slots n kinds m ≡ slots m
before_slots slots n [] m less = refl
before_slots slots n (kind ∷ kinds) m less = off_slot (with_slots slots (suc n) kinds) n m kind (omega (arith, less)) ∙ before_slots slots (suc n) kinds m (omega (arith, less))

in_slots : (slots : Slots) (n : ℕ) (kinds : List Kind) (j m : ℕ) (kind : Kind) → m ≡ n + j → slice_get kinds j ≡ Some kind → with_slots slots n kinds m ≡ Some kind
in_slots slots n [] j m kind e there = none_some kind there
in_slots slots n (k ∷ kinds) zero m kind e there = at_slot (with_slots slots (suc n) kinds) n m k (omega (arith, e)) ∙ there
in_slots slots n (k ∷ kinds) (suc j) m kind e there = off_slot (with_slots slots (suc n) kinds) n m k (omega (arith, e)) ∙ in_slots slots (suc n) kinds j m kind (omega (arith, e)) there

-- the next slots
pub know_declared : (seen kinds : List Kind) (n : ℕ) → n ≡ length seen → Know (with_slots (slice_get seen) n kinds) (slice_get (seen ++ kinds))
know_declared seen kinds n at m kind e = told (in_either seen kinds m kind e)
  where
    told : InEither seen kinds m kind → with_slots (slice_get seen) n kinds m ≡ Some kind
    told (inl h) = before_slots (slice_get seen) n kinds m (omega (arith, h.0, at)) ∙ h.1
    told (inr h) = in_slots (slice_get seen) n kinds h.0 m kind (omega (arith, h.1, at)) h.2
