-- Lists of which one place changes.
use Rattle.std.proofs.Common.{◌≡◌, refl, sym, ap, ◌∙◌, arith}
use Rattle.std.specs.Prelude.{ℕ, zero, suc, ◌<◌, ◌≢◌, ◌+◌, List, [], ◌∷◌, ◌++◌, length, map, Some, slice_get, slice_index_or}
use Rattle.std.specs.List.{insert, remove}
use Rattle.std.proofs.Math.Nat.{not-suc-le-zero}

-- xs with x at place c
abbrev pub with_at : {A : Type 0} → List A → ℕ → A → List A
with_at [] c x = []
with_at (y ∷ ys) zero x = x ∷ ys
with_at (y ∷ ys) (suc c) x = y ∷ with_at ys c x

pub put_back : {A : Type 0} (xs : List A) (c : ℕ) (x : A) → c < length xs → insert (remove xs c) c x ≡ with_at xs c x
put_back [] c x h = absurd (not-suc-le-zero h)
put_back (y ∷ ys) zero x h = refl
put_back (y ∷ ys) (suc c) x h = ap (λ (l : List _). y ∷ l) (put_back ys c x (omega (arith, h)))

pub there : {A : Type 0} (xs : List A) (c : ℕ) (x : A) → c < length xs → slice_get (with_at xs c x) c ≡ Some x
there [] c x h = absurd (not-suc-le-zero h)
there (y ∷ ys) zero x h = refl
there (y ∷ ys) (suc c) x h = there ys c x (omega (arith, h))

pub elsewhere : {A : Type 0} (xs : List A) (c k : ℕ) (x : A) → k ≢ c → slice_get (with_at xs c x) k ≡ slice_get xs k
elsewhere [] c k x other = refl
elsewhere (y ∷ ys) zero zero x other = absurd (other refl)
elsewhere (y ∷ ys) zero (suc k) x other = refl
elsewhere (y ∷ ys) (suc c) zero x other = refl
elsewhere (y ∷ ys) (suc c) (suc k) x other = elsewhere ys c k x (λ e. other (ap suc e))

pub as_long : {A : Type 0} (xs : List A) (c : ℕ) (x : A) → length (with_at xs c x) ≡ length xs
as_long [] c x = refl
as_long (y ∷ ys) zero x = refl
as_long (y ∷ ys) (suc c) x = ap suc (as_long ys c x)

pub taken_out : {A : Type 0} (xs : List A) (c : ℕ) (x : A) → c < length xs → x ≡ slice_index_or xs c x → slice_get xs c ≡ Some x
taken_out [] c x h e = absurd (not-suc-le-zero h)
taken_out (y ∷ ys) zero x h e = ap Some (sym e)
taken_out (y ∷ ys) (suc c) x h e = taken_out ys c x (omega (arith, h)) e

pub in_range : {A : Type 0} (xs : List A) (c : ℕ) (x : A) → slice_get xs c ≡ Some x → c < length xs
in_range [] c x e = absurd (cc e)
in_range (y ∷ ys) zero x e = omega arith
in_range (y ∷ ys) (suc c) x e = let h = in_range ys c x e in omega (arith, h)

pub is_there : {A : Type 0} (xs : List A) (c : ℕ) → c < length xs → (x : A) × (slice_get xs c ≡ Some x)
is_there [] c h = absurd (not-suc-le-zero h)
is_there (y ∷ ys) zero h = (y, refl)
is_there (y ∷ ys) (suc c) h = is_there ys c (omega (arith, h))

-- a new place at the end
pub at_end : {A : Type 0} (xs : List A) (x : A) → slice_get (xs ++ x ∷ []) (length xs) ≡ Some x
at_end [] x = refl
at_end (y ∷ ys) x = at_end ys x

pub before_end : {A : Type 0} (xs : List A) (x : A) (k : ℕ) → k < length xs → slice_get (xs ++ x ∷ []) k ≡ slice_get xs k
before_end [] x k h = absurd (not-suc-le-zero h)
before_end (y ∷ ys) x zero h = refl
before_end (y ∷ ys) x (suc k) h = before_end ys x k (omega (arith, h))

pub one_longer : {A : Type 0} (xs : List A) (x : A) → length (xs ++ x ∷ []) ≡ length xs + 1
one_longer [] x = refl
one_longer (y ∷ ys) x = let h = one_longer ys x in omega (arith, h)

pub mapped_there : {A B : Type 0} (f : A → B) (xs : List A) (c : ℕ) (x : A) → slice_get xs c ≡ Some x → slice_get (map f xs) c ≡ Some (f x)
mapped_there f [] c x e = absurd (cc e)
mapped_there f (y ∷ ys) zero x e = ap Some (ap f (same e))
  where
    same : Some y ≡ Some x → y ≡ x
    same e = cc e
mapped_there f (y ∷ ys) (suc c) x e = mapped_there f ys c x e

-- two lists of one length that are alike at each place are one
pub alike : {A : Type 0} (xs ys : List A) → length xs ≡ length ys → ((k : ℕ) (x y : A) → slice_get xs k ≡ Some x → slice_get ys k ≡ Some y → x ≡ y) → xs ≡ ys
alike [] [] e h = refl
alike [] (y ∷ ys) e h = absurd (omega (arith, e))
alike (x ∷ xs) [] e h = absurd (omega (arith, e))
alike (x ∷ xs) (y ∷ ys) e h =
    let head : x ≡ y = h 0 x y refl refl in
    let tail : xs ≡ ys = alike xs ys (omega (arith, e)) (λ k a b i j. h (suc k) a b i j) in
    ap (λ (a : _). a ∷ xs) head ∙ ap (λ (l : List _). y ∷ l) tail

pub as_it_was : {A : Type 0} (xs : List A) (c : ℕ) (x : A) → slice_get xs c ≡ Some x → with_at xs c x ≡ xs
as_it_was [] c x e = refl
as_it_was (y ∷ ys) zero x e = ap (λ (a : _). a ∷ ys) (same e)
  where
    same : Some y ≡ Some x → x ≡ y
    same e = cc e
as_it_was (y ∷ ys) (suc c) x e = ap (λ (l : List _). y ∷ l) (as_it_was ys c x e)
