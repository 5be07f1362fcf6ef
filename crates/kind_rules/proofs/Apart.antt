-- Lists whose members all differ, and what holds of each member of a list.
use Rattle.std.proofs.Common.{◌≡◌, refl, sym, ◌∙◌, ap, subst}
use Rattle.std.proofs.lemmas.Bool.{or_parts, or_cases, or_left, or_right, true≢false}
use Rattle.std.proofs.lemmas.Slice.Eq.{bytes_eq-Decides}
use Rattle.std.specs.Prelude.{ℕ, zero, suc, true, false, List, [], ◌∷◌, ◌++◌, length, map, Some, slice_get, bytes_eq}
use Rattle.std.specs.List.{AllByRecursion, flat_map}
use mathlib.Core.Logic.{inl, inr}
use Rattle.kind_rules.specs.Names.{is_among, is_repeated}
use Rattle.kind_rules.proofs.Finds.{all_at}

-- ---- each member

pub weaker : {A : Type 0} {P Q : A → Type 0} → ((x : A) → P x → Q x) → (xs : List A) → AllByRecursion P xs → AllByRecursion Q xs
weaker f [] h = tt
weaker f (x ∷ xs) h = (f x h.0, weaker f xs h.1)

pub both_hold : {A : Type 0} (P Q : A → Type 0) (xs : List A) → AllByRecursion P xs → AllByRecursion Q xs → AllByRecursion (λ x. P x × Q x) xs
both_hold P Q [] h k = tt
both_hold P Q (x ∷ xs) h k = ((h.0, k.0), both_hold P Q xs h.1 k.1)

pub joined_hold : {A : Type 0} (P : A → Type 0) (xs ys : List A) → AllByRecursion P xs → AllByRecursion P ys → AllByRecursion P (xs ++ ys)
joined_hold P [] ys h k = k
joined_hold P (x ∷ xs) ys h k = (h.0, joined_hold P xs ys h.1 k)

pub mapped_hold : {A B : Type 0} (P : B → Type 0) {Q : A → Type 0} (f : A → B) → ((x : A) → Q x → P (f x)) → (xs : List A) → AllByRecursion Q xs → AllByRecursion P (map f xs)
mapped_hold P f on [] h = tt
mapped_hold P f on (x ∷ xs) h = (on x h.0, mapped_hold P f on xs h.1)

pub all_mapped : {A B : Type 0} (P : B → Type 0) (f : A → B) → ((x : A) → P (f x)) → (xs : List A) → AllByRecursion P (map f xs)
all_mapped P f on [] = tt
all_mapped P f on (x ∷ xs) = (on x, all_mapped P f on xs)

pub hold_mapped : {A B : Type 0} (P : B → Type 0) (f : A → B) (xs : List A) → AllByRecursion P (map f xs) → AllByRecursion (λ x. P (f x)) xs
hold_mapped P f [] h = tt
hold_mapped P f (x ∷ xs) h = (h.0, hold_mapped P f xs h.1)

pub flat_hold : {A B : Type 0} (P : B → Type 0) {Q : A → Type 0} (f : A → List B) → ((x : A) → Q x → AllByRecursion P (f x)) → (xs : List A) → AllByRecursion Q xs → AllByRecursion P (flat_map f xs)
flat_hold P f on [] h = tt
flat_hold P f on (x ∷ xs) h = joined_hold P (f x) (flat_map f xs) (on x h.0) (flat_hold P f on xs h.1)

pub map_back : {A B : Type 0} (f : A → B) (xs : List A) (n : ℕ) (y : B) → slice_get (map f xs) n ≡ Some y → (x : A) × (slice_get xs n ≡ Some x) × (f x ≡ y)
map_back f [] n y h = cc
map_back f (x ∷ xs) zero y h = let s : f x ≡ y = cc in (x, refl, s)
map_back f (x ∷ xs) (suc n) y h = map_back f xs n y h

pub map_length : {A B : Type 0} (f : A → B) (xs : List A) → length (map f xs) ≡ length xs
map_length f [] = refl
map_length f (x ∷ xs) = ap suc (map_length f xs)

-- ---- members that differ

-- no two members are the same
abbrev pub AreApart : {A : Type 0} → (A → A → Type 0) → List A → Type 0
AreApart Same [] = Unit {0}
AreApart Same (x ∷ xs) = AllByRecursion (λ y. ¬ Same y x) xs × AreApart Same xs

-- no name stands twice
abbrev pub Differ : List (List ℕ) → Type 0
Differ xs = AreApart (λ x y. x ≡ y) xs

pub apart_at : {A : Type 0} (Same : A → A → Type 0) → ((x y : A) → Same x y → Same y x) → (xs : List A) (a b : ℕ) (x y : A) → AreApart Same xs → slice_get xs a ≡ Some x → slice_get xs b ≡ Some y → Same x y → a ≡ b
apart_at Same turn [] a b x y d e f s = cc
apart_at Same turn (z ∷ xs) zero zero x y d e f s = refl
apart_at Same turn (z ∷ xs) zero (suc b) x y d e f s = let same : z ≡ x = cc in absurd (all_at (λ y. ¬ Same y z) xs b y d.0 f (subst (Same y) (sym same) (turn x y s)))
apart_at Same turn (z ∷ xs) (suc a) zero x y d e f s = let same : z ≡ y = cc in absurd (all_at (λ x. ¬ Same x z) xs a x d.0 e (subst (Same x) (sym same) s))
apart_at Same turn (z ∷ xs) (suc a) (suc b) x y d e f s = ap suc (apart_at Same turn xs a b x y d.1 e f s)

pub differ_at : (xs : List (List ℕ)) (a b : ℕ) (x : List ℕ) → Differ xs → slice_get xs a ≡ Some x → slice_get xs b ≡ Some x → a ≡ b
differ_at xs a b x d e f = apart_at (λ x y. x ≡ y) (λ x y. sym) xs a b x x d e f refl

pub joined_apart : {A : Type 0} (Same : A → A → Type 0) (xs ys : List A) → AreApart Same xs → AreApart Same ys → AllByRecursion (λ x. AllByRecursion (λ y. ¬ Same y x) ys) xs → AreApart Same (xs ++ ys)
joined_apart Same [] ys d e f = e
joined_apart Same (x ∷ xs) ys d e f = (joined_hold (λ y. ¬ Same y x) xs ys d.0 f.0, joined_apart Same xs ys d.1 e f.1)

-- ---- names

pub not_among : (name : List ℕ) (xs : List (List ℕ)) → is_among name xs ≡ false → AllByRecursion (λ x. ¬ (x ≡ name)) xs
not_among name [] h = tt
not_among name (x ∷ xs) h = let two = or_parts (bytes_eq x name) (is_among name xs) h in (λ e. true≢false (sym ((bytes_eq-Decides x name).1 e) ∙ two.0), not_among name xs two.1)

pub not_repeated : (xs : List (List ℕ)) → is_repeated xs ≡ false → Differ xs
not_repeated [] h = tt
not_repeated (x ∷ xs) h = let two = or_parts (is_among x xs) (is_repeated xs) h in (not_among x xs two.0, not_repeated xs two.1)

pub last_apart : {A : Type 0} (Same : A → A → Type 0) (xs ys : List A) → AreApart Same (xs ++ ys) → AreApart Same ys
last_apart Same [] ys d = d
last_apart Same (x ∷ xs) ys d = last_apart Same xs ys d.1

-- a name that isn't among others differs from them
pub one_more_differs : (xs : List (List ℕ)) (name : List ℕ) → Differ xs → is_among name xs ≡ false → Differ (xs ++ name ∷ [])
one_more_differs xs name d h = joined_apart (λ x y. x ≡ y) xs (name ∷ []) d (tt, tt) (weaker (λ x other. (λ e. other (sym e), tt)) xs (not_among name xs h))

pub among_left : (name : List ℕ) (xs ys : List (List ℕ)) → is_among name xs ≡ true → is_among name (xs ++ ys) ≡ true
among_left name [] ys h = cc
among_left name (x ∷ xs) ys h = elim (or_cases (bytes_eq x name) (is_among name xs) h) [
  | inl e ↦ or_left (bytes_eq x name) (is_among name (xs ++ ys)) e
  | inr e ↦ or_right (bytes_eq x name) (is_among name (xs ++ ys)) (among_left name xs ys e)
]

pub among_right : (name : List ℕ) (xs ys : List (List ℕ)) → is_among name ys ≡ true → is_among name (xs ++ ys) ≡ true
among_right name [] ys h = h
among_right name (x ∷ xs) ys h = or_right (bytes_eq x name) (is_among name (xs ++ ys)) (among_right name xs ys h)

pub among_here : (name : List ℕ) (xs : List (List ℕ)) → is_among name (name ∷ xs) ≡ true
among_here name xs = or_left (bytes_eq name name) (is_among name xs) ((bytes_eq-Decides name name).1 refl)
