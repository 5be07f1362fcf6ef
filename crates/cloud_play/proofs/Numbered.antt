-- Lists of what each client has, by number.
use Rattle.std.proofs.Common.{◌≡◌, refl, sym, ap, ◌∙◌, subst, arith}
use Rattle.std.specs.Prelude.{ℕ, zero, suc, ◌+◌, ◌≤◌, ◌<◌, ◌&&◌, Bool, true, false, List, [], ◌∷◌, ◌++◌, length, map, Option, Some, None, is_some, slice_get}
use Rattle.std.specs.List.{list_all, range_with_len}
use Rattle.std.proofs.lemmas.Bool.{true≢false}
use Rattle.std.proofs.lemmas.List.{length-append}

-- what is said of each element is what is said of its number
by_number_from : {A B : Type 0} (f : A → B) (g : ℕ → B) (xs : List A) (a n : ℕ) → length xs ≡ n → ((k : ℕ) (x : A) → slice_get xs k ≡ Some x → g (a + k) ≡ f x)
    → map f xs ≡ map g (range_with_len a n)
by_number_from f g [] a zero e h = refl
by_number_from f g [] a (suc n) e h = absurd (omega (arith, e))
by_number_from f g (x ∷ xs) a zero e h = absurd (omega (arith, e))
by_number_from {A} {B} f g (x ∷ xs) a (suc n) e h =
    let here : a + 0 ≡ a = omega arith in
    ap (λ (y : B). y ∷ map f xs) (sym (h 0 x refl) ∙ ap g here)
    ∙ ap (λ (l : List B). g a ∷ l) (by_number_from f g xs (a + 1) n (omega (arith, e)) (λ (k : ℕ) (y : A) (is : slice_get xs k ≡ Some y). ap g (next a k) ∙ h (suc k) y is))
  where
    next : (b k : ℕ) → (b + 1) + k ≡ b + suc k
    next b k = omega arith

pub by_number : {A B : Type 0} (f : A → B) (g : ℕ → B) (xs : List A) (n : ℕ) → length xs ≡ n → ((k : ℕ) (x : A) → slice_get xs k ≡ Some x → g k ≡ f x)
    → map f xs ≡ map g (range_with_len 0 n)
by_number {A} f g xs n e h = by_number_from f g xs 0 n e (λ (k : ℕ) (x : A) (is : slice_get xs k ≡ Some x). ap g (same k) ∙ h k x is)
  where
    same : (k : ℕ) → 0 + k ≡ k
    same k = omega arith

both : (a b : Bool) → a && b ≡ true → (a ≡ true) × (b ≡ true)
both true b e = (refl, e)
both false b e = absurd (true≢false (sym e))

some_same : {A : Type 0} (x y : A) → Some x ≡ Some y → x ≡ y
some_same x y e = cc e

none_some : {A : Type 0} (x : A) → None ≡ Some x → ⊥
none_some x e = cc e

pub each_some : {A B : Type 0} (f : A → Option B) (xs : List A) → list_all is_some (map f xs) ≡ true → (k : ℕ) (x : A) → slice_get xs k ≡ Some x → is_some (f x) ≡ true
each_some f [] e k x is = absurd (none_some x is)
each_some {A} f (y ∷ ys) e zero x is = subst (λ (z : A). is_some (f z) ≡ true) (some_same y x is) (both (is_some (f y)) (list_all is_some (map f ys)) e).0
each_some f (y ∷ ys) e (suc k) x is = each_some f ys (both (is_some (f y)) (list_all is_some (map f ys)) e).1 k x is

pub mapped_from : {A B : Type 0} (f : A → B) (xs : List A) (k : ℕ) (y : B) → slice_get (map f xs) k ≡ Some y → (x : A) × (slice_get xs k ≡ Some x) × (y ≡ f x)
mapped_from f [] k y e = absurd (none_some y e)
mapped_from f (x ∷ xs) zero y e = (x, refl, sym (some_same (f x) y e))
mapped_from f (x ∷ xs) (suc k) y e = mapped_from f xs k y e

pub the_some : {A : Type 0} (o : Option A) → is_some o ≡ true → (x : A) × (o ≡ Some x)
the_some (Some x) h = (x, refl)
the_some None h = absurd (true≢false (sym h))

pub no_fewer : {A : Type 0} (xs ys : List A) → length xs ≤ length (xs ++ ys)
no_fewer xs ys = omega (arith, length-append xs ys)

-- ---- numbers

pub some_first : (a b : ℕ) → 1 ≤ a → b ≡ a → 0 < b
some_first a b some same = omega arith

pub below_all : (a b c d most : ℕ) → a ≤ b → b + c ≤ d → d ≤ most → a ≤ most
below_all a b c d most first then last = omega arith
