-- How often a place stands on a path, and which places come before it.
use Rattle.std.proofs.Common.{◌≡◌, ℕ, ◌+◌, ◌<◌, ◌≤◌, Bool, true, false, cond, List, [], ◌∷◌, ◌++◌, length, drop, take, refl, sym, ap, subst, ◌∙◌, arith, Option, inl, inr}
use Rattle.std.specs.Prelude.{◌&&◌, ◌||◌, not, ◌==◌}
use Rattle.std.specs.List.{list_all}
use Rattle.std.proofs.lemmas.Bool.{and_parts, and_from, and_left, and_right, or_cases, or_left, or_right, false≢true, cases_Bool, cases_eq, cases_lt, eq-eqb, eqb-true, ne_eqb}
use Rattle.std.proofs.lemmas.List.{take-append-drop}
use Rattle.revision_diagram.specs.declared.step.Step.{Step}
use Rattle.revision_diagram.specs.Diagram.{with_place, with_past}
use Rattle.revision_diagram.specs.Once.{times_on, stands_on, does_on, is_some_revision, is_do}
use Rattle.revision_diagram.proofs.Range.{times_on-append}
use Rattle.revision_diagram.proofs.Logs.{slice_get-front}

pub times_on-one : (j i : ℕ) → times_on (j ∷ []) i ≡ cond (j == i) 1 0
times_on-one j i = omega arith

-- a place that stands on a list
pub stands-times : (xs : List ℕ) (i : ℕ) → stands_on xs i ≡ true → 0 < times_on xs i
stands-times [] i h = absurd (false≢true h)
stands-times (j ∷ xs) i h = elim (or_cases (j == i) (stands_on xs i) h) [
  | inl here ↦ omega (arith, times_on-append (j ∷ []) xs i, times_on-one j i, ap {B = ℕ} (λ (b : Bool). cond b 1 0) here)
  | inr there ↦ omega (arith, times_on-append (j ∷ []) xs i, stands-times xs i there)
]

pub times-stands : (xs : List ℕ) (i : ℕ) → 0 < times_on xs i → stands_on xs i ≡ true
times-stands [] i h = absurd (omega arith)
times-stands (j ∷ xs) i h = elim (cases_Bool (j == i)) [
  | inl here ↦ or_left (j == i) (stands_on xs i) here
  | inr not_here ↦ or_right (j == i) (stands_on xs i) (times-stands xs i (omega (arith, times_on-append (j ∷ []) xs i, times_on-one j i, ap {B = ℕ} (λ (b : Bool). cond b 1 0) not_here)))
]

pub all_at : (p : ℕ → Bool) (xs : List ℕ) (i : ℕ) → list_all p xs ≡ true → stands_on xs i ≡ true → p i ≡ true
all_at p [] i h k = absurd (false≢true k)
all_at p (j ∷ xs) i h k =
    let both = and_parts (p j) (list_all p xs) h in
    elim (or_cases (j == i) (stands_on xs i) k) [
      | inl here ↦ subst (λ (m : ℕ). p m ≡ true) (eqb-true j i here) both.0
      | inr there ↦ all_at p xs i both.1 there
    ]

pub all_from : (p : ℕ → Bool) (xs : List ℕ) → ((i : ℕ) → stands_on xs i ≡ true → p i ≡ true) → list_all p xs ≡ true
all_from p [] h = refl
all_from p (j ∷ xs) h = and_from (p j) (list_all p xs) (h j (or_left (j == j) (stands_on xs j) (eq-eqb j j refl))) (all_from p xs (λ i k. h i (or_right (j == i) (stands_on xs i) k)))

-- the places are, once each, those of Do steps in the past p
abbrev pub Marks : List Step → List ℕ → (ℕ → Bool) → Type 0
Marks steps places p = (i : ℕ) → times_on places i ≡ cond (p i && is_do steps i) 1 0

-- the past p has no place from n on
abbrev pub Below : (ℕ → Bool) → ℕ → Type 0
Below p n = (i : ℕ) → n ≤ i → p i ≡ false

pub is_do-front : (steps ys : List Step) (i : ℕ) → i < length steps → is_do (steps ++ ys) i ≡ is_do steps i
is_do-front steps ys i l = ap (λ (o : Option Step). is_some_revision (does_on o)) (slice_get-front steps ys i l)

pub marks_longer : (steps ys : List Step) (places : List ℕ) (p : ℕ → Bool) → Below p (length steps) → Marks steps places p → Marks (steps ++ ys) places p
marks_longer steps ys places p below h i = elim (cases_lt i (length steps)) [
  | inl within ↦ h i ∙ ap (λ (b : Bool). cond (p i && b) 1 0) (sym (is_do-front steps ys i within))
  | inr past_end ↦ h i ∙ ap (λ (b : Bool). cond b 1 0) (and_left (p i) (is_do steps i) (below i past_end) ∙ sym (and_left (p i) (is_do (steps ++ ys) i) (below i past_end)))
]

with_place-here : (p : ℕ → Bool) (n i : ℕ) → i ≡ n → with_place p n i ≡ true
with_place-here p n i e = or_right (p i) (i == n) (eq-eqb i n e)

or_false : (b : Bool) → (b || false) ≡ b
or_false true = refl
or_false false = refl

with_place-else : (p : ℕ → Bool) (n i : ℕ) → (i ≡ n → ⊥) → with_place p n i ≡ p i
with_place-else p n i e = ap (λ (b : Bool). p i || b) (ne_eqb i n e) ∙ or_false (p i)

-- a further place that is not of a Do step
pub marks_placed : (steps : List Step) (places : List ℕ) (p : ℕ → Bool) (n : ℕ) → is_do steps n ≡ false → Marks steps places p → Marks steps places (with_place p n)
marks_placed steps places p n not_do h i = elim (cases_eq i n) [
  | inl same ↦
      let no_here : is_do steps i ≡ false = ap (is_do steps) same ∙ not_do in
      h i ∙ ap (λ (b : Bool). cond b 1 0) (and_right (p i) (is_do steps i) no_here ∙ sym (and_right (with_place p n i) (is_do steps i) no_here))
  | inr other ↦ h i ∙ ap (λ (b : Bool). cond (b && is_do steps i) 1 0) (sym (with_place-else p n i other))
]

-- a further place of a Do step
pub marks_done : (steps : List Step) (places : List ℕ) (p : ℕ → Bool) (n : ℕ) → is_do steps n ≡ true → p n ≡ false → Marks steps places p → Marks steps (places ++ n ∷ []) (with_place p n)
marks_done steps places p n does fresh h i = elim (cases_eq i n) [
  | inl same ↦
      let none : times_on places n ≡ 0 = h n ∙ ap (λ (b : Bool). cond b 1 0) (and_left (p n) (is_do steps n) fresh) in
      let one : times_on (n ∷ []) n ≡ 1 = times_on-one n n ∙ ap (λ (b : Bool). cond b 1 0) (eq-eqb n n refl) in
      let here : times_on (places ++ n ∷ []) n ≡ 1 = times_on-append places (n ∷ []) n ∙ ap (λ (m : ℕ). m + times_on (n ∷ []) n) none ∙ omega (arith, one) in
      let there : cond (with_place p n n && is_do steps n) 1 0 ≡ 1 = ap (λ (b : Bool). cond b 1 0) (and_from (with_place p n n) (is_do steps n) (with_place-here p n n refl) does) in
      subst (λ (m : ℕ). times_on (places ++ n ∷ []) m ≡ cond (with_place p n m && is_do steps m) 1 0) (sym same) (here ∙ sym there)
  | inr other ↦
      let none : times_on (n ∷ []) i ≡ 0 = times_on-one n i ∙ ap (λ (b : Bool). cond b 1 0) (ne_eqb n i (λ e. other (sym e))) in
      times_on-append places (n ∷ []) i ∙ (let e : times_on places i + times_on (n ∷ []) i ≡ times_on places i = omega (arith, none) in e) ∙ h i ∙ ap (λ (b : Bool). cond (b && is_do steps i) 1 0) (sym (with_place-else p n i other))
]

all_new : (a t n : ℕ) → a ≡ 0 → t + n ≡ 1 → (0 < t → 0 < a) → a + n ≡ 1
all_new a t n e f g = elim (cases_lt 0 t) [ inl some ↦ absurd (omega (arith, g some)) | inr none ↦ omega arith ]

none_new : (a t n : ℕ) → a ≡ 1 → t + n ≡ 1 → (0 < n → a ≡ 0) → a + n ≡ 1
none_new a t n e f h = elim (cases_lt 0 n) [ inl some ↦ absurd (omega (arith, h some)) | inr none ↦ omega arith ]

joined_count : (p q d : Bool) (a t n : ℕ) → a ≡ cond (p && d) 1 0 → t + n ≡ cond (q && d) 1 0 → (0 < t → 0 < a) → (0 < n → a ≡ 0) → a + n ≡ cond ((p || q) && d) 1 0
joined_count true true true a t n e f g h = none_new a t n e f h
joined_count true true false a t n e f g h = omega (arith, e, f)
joined_count true false true a t n e f g h = omega (arith, e, f)
joined_count true false false a t n e f g h = omega (arith, e, f)
joined_count false true true a t n e f g h = all_new a t n e f g
joined_count false true false a t n e f g h = omega (arith, e, f)
joined_count false false true a t n e f g h = omega (arith, e, f)
joined_count false false false a t n e f g h = omega (arith, e, f)

not_true : (b : Bool) → not b ≡ true → b ≡ false
not_true true e = sym e
not_true false e = refl

-- a path, and of another what it has past n places, of which the first has the others and none of these
pub marks_joined : (steps : List Step) (xs ys : List ℕ) (n : ℕ) (p q : ℕ → Bool) → list_all (stands_on xs) (take n ys) ≡ true → list_all (λ i. not (stands_on xs i)) (drop n ys) ≡ true → Marks steps xs p → Marks steps ys q → Marks steps (xs ++ drop n ys) (with_past p q)
marks_joined steps xs ys n p q had fresh h k i =
    let parts : times_on (take n ys) i + times_on (drop n ys) i ≡ cond (q i && is_do steps i) 1 0 =
    sym (times_on-append (take n ys) (drop n ys) i) ∙ ap (λ (t : List ℕ). times_on t i) (take-append-drop n ys) ∙ k i in
    let held : 0 < times_on (take n ys) i → 0 < times_on xs i =
    λ l. stands-times xs i (all_at (stands_on xs) (take n ys) i had (times-stands (take n ys) i l)) in
    let apart : 0 < times_on (drop n ys) i → times_on xs i ≡ 0 =
    λ l. elim (cases_lt 0 (times_on xs i)) [
      | inl some ↦ absurd (false≢true (sym (not_true (stands_on xs i) (all_at (λ j. not (stands_on xs j)) (drop n ys) i fresh (times-stands (drop n ys) i l))) ∙ times-stands xs i some))
      | inr none ↦ omega arith
    ] in
    times_on-append xs (drop n ys) i ∙ joined_count (p i) (q i) (is_do steps i) (times_on xs i) (times_on (take n ys) i) (times_on (drop n ys) i) (h i) parts held apart
