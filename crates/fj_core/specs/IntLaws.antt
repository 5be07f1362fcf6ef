-- Laws of cells with a number.
use Rattle.std.proofs.Common.{◌≡◌, zero, suc, ℤ, pos, negsuc, ◌+ℤ◌, neg_ℤ, Bool, true, false, List, [], ◌∷◌, ◌++◌, cond, refl, sym, ◌∙◌, ap, subst, arith, FitsSigned, ◌≢◌}
use Rattle.std.specs.Prelude.{Option, Some, None, map}
use Rattle.std.specs.Int.{w64, int_wrap}
use Rattle.std.proofs.lemmas.Int.{ints, int_wrap-add_left, int_wrap-add_right, int_wrap-add_same, int_wrap_fits}
use Rattle.cloud_base.specs.PlainCell.{last_set, plain_int}
use Rattle.fj_core.specs.Changes.{of_int}
use Rattle.fj_core.specs.declared.effect.Effect.{Effect}
use Rattle.fj_core.specs.declared.effect.Effect.TheVariants as effects
use Rattle.fj_core.specs.declared.int_cell.IntChange.{IntChange}
use Rattle.fj_core.specs.declared.int_cell.IntChange.TheVariants.{Add, Set}
use Rattle.fj_core.specs.declared.int_cell.IntCell.{IntCell}
use Rattle.fj_core.specs.IntCells.{has_int_set, added, int_plain, add_effect, int_effect, IsIntEffect, int_applied, int_combined, StandsWith, IntStands}

-- ---- sums
zero_plus : (a : ℤ) → pos 0 +ℤ a ≡ a
zero_plus a = omega (arith, ints)

plus_zero : (a : ℤ) → a +ℤ pos 0 ≡ a
plus_zero a = omega (arith, ints)

plus_assoc : (a b c : ℤ) → a +ℤ (b +ℤ c) ≡ (a +ℤ b) +ℤ c
plus_assoc a b c = omega (arith, ints)

-- what the last set sets the number to, or 0 where there is none
abbrev start_of : List IntChange → ℤ
start_of changes = last_set (map of_int changes)

-- ---- a list after a list
set_later : (b : Bool) → (b ≡ cond b true false) × (true ≡ cond b true true)
set_later true = (refl, refl)
set_later false = (refl, refl)

has_int_set-append : (xs ys : List IntChange) → has_int_set (xs ++ ys) ≡ cond (has_int_set ys) true (has_int_set xs)
has_int_set-append [] ys = (set_later (has_int_set ys)).0
has_int_set-append (Add n ∷ xs) ys = has_int_set-append xs ys
has_int_set-append (Set n ∷ xs) ys = (set_later (has_int_set ys)).1

no_start : (changes : List IntChange) → has_int_set changes ≡ false → start_of changes ≡ pos 0
no_start [] e = refl
no_start (Add n ∷ changes) e = no_start changes e
no_start (Set n ∷ changes) e = cc

start_alone : (b : Bool) (changes : List IntChange) → has_int_set changes ≡ b → start_of changes ≡ cond b (start_of changes) (pos 0)
start_alone true changes e = refl
start_alone false changes e = no_start changes e

start_set : (b c : Bool) (first second both n : ℤ) → both ≡ cond c second first → cond (cond c true b) both n ≡ cond c second (cond b first n)
start_set b true first second both n e = e
start_set true false first second both n e = e
start_set false false first second both n e = refl

start_of-append : (xs ys : List IntChange) → start_of (xs ++ ys) ≡ cond (has_int_set ys) (start_of ys) (start_of xs)
start_of-append [] ys = start_alone (has_int_set ys) ys refl
start_of-append (Add n ∷ xs) ys = start_of-append xs ys
start_of-append (Set n ∷ xs) ys =
    ap (λ b. cond b (start_of (xs ++ ys)) n) (has_int_set-append xs ys)
    ∙ start_set (has_int_set xs) (has_int_set ys) (start_of xs) (start_of ys) (start_of (xs ++ ys)) n (start_of-append xs ys)

added_alone : (b : Bool) (a : ℤ) → a ≡ cond b a (pos 0 +ℤ a)
added_alone true a = refl
added_alone false a = sym (zero_plus a)

added_add : (o p : Bool) (n a b c : ℤ) → c ≡ cond p b (a +ℤ b)
    → cond (cond p true o) c (n +ℤ c) ≡ cond p b (cond o a (n +ℤ a) +ℤ b)
added_add o true n a b c e = e
added_add true false n a b c e = e
added_add false false n a b c e = ap (λ x. n +ℤ x) e ∙ plus_assoc n a b

added-append : (xs ys : List IntChange) → added (xs ++ ys) ≡ cond (has_int_set ys) (added ys) (added xs +ℤ added ys)
added-append [] ys = added_alone (has_int_set ys) (added ys)
added-append (Add n ∷ xs) ys =
    ap (λ b. cond b (added (xs ++ ys)) (n +ℤ added (xs ++ ys))) (has_int_set-append xs ys)
    ∙ added_add (has_int_set xs) (has_int_set ys) n (added xs) (added ys) (added (xs ++ ys)) (added-append xs ys)
added-append (Set n ∷ xs) ys = added-append xs ys

-- ---- the value of a list after a list
-- an add that may be nothing
applied_add : (w k : ℤ) → int_applied (add_effect k) (int_wrap w64 w) ≡ int_wrap w64 (w +ℤ k)
applied_add w (pos zero) = ap (λ x. int_wrap w64 x) (sym (plus_zero w))
applied_add w (pos (suc n)) = int_wrap-add_left w64 w (pos (suc n))
applied_add w (negsuc n) = int_wrap-add_left w64 w (negsuc n)

plain_by_parts : (o : Bool) (p n b a : ℤ)
    → int_wrap w64 (cond o n p +ℤ cond o a (b +ℤ a))
    ≡ int_applied (cond o (Some (effects.SetInt (int_wrap w64 (n +ℤ a)))) (add_effect (int_wrap w64 a))) (int_wrap w64 (p +ℤ b))
plain_by_parts true p n b a = refl
plain_by_parts false p n b a =
    ap (λ x. int_wrap w64 x) (plus_assoc p b a)
    ∙ sym (int_wrap-add_right w64 (p +ℤ b) a)
    ∙ sym (applied_add (p +ℤ b) (int_wrap w64 a))

pub int_plain-append : (base delta : List IntChange) → int_plain (base ++ delta) ≡ int_applied (int_effect delta) (int_plain base)
unfolding plain_int
int_plain-append base delta =
    ap (λ x. int_wrap w64 (x +ℤ added (base ++ delta))) (start_of-append base delta)
    ∙ ap (λ x. int_wrap w64 (cond (has_int_set delta) (start_of delta) (start_of base) +ℤ x)) (added-append base delta)
    ∙ plain_by_parts (has_int_set delta) (start_of base) (start_of delta) (added base) (added delta)

-- ---- the effect of a list after a list
combined_set : (m k : ℤ) → int_combined (Some (effects.SetInt (int_wrap w64 m))) (add_effect k) ≡ Some (effects.SetInt (int_wrap w64 (m +ℤ k)))
combined_set m (pos zero) = ap (λ x. Some (effects.SetInt (int_wrap w64 x))) (sym (plus_zero m))
combined_set m (pos (suc n)) = ap (λ x. Some (effects.SetInt x)) (int_wrap-add_left w64 m (pos (suc n)))
combined_set m (negsuc n) = ap (λ x. Some (effects.SetInt x)) (int_wrap-add_left w64 m (negsuc n))

-- an add that is something
combined_some : (m j k : ℤ) → j ≡ int_wrap w64 m → k ≡ int_wrap w64 k → add_effect k ≡ Some (effects.Add k)
    → int_combined (add_effect j) (Some (effects.Add k)) ≡ add_effect (int_wrap w64 (m +ℤ k))
combined_some m (pos zero) k e f some =
    sym some ∙ ap add_effect (f ∙ ap (λ x. int_wrap w64 x) (sym (zero_plus k)) ∙ ap (λ x. int_wrap w64 (x +ℤ k)) e ∙ int_wrap-add_left w64 m k)
combined_some m (pos (suc n)) k e f some = ap (λ x. add_effect (int_wrap w64 (x +ℤ k))) e ∙ ap add_effect (int_wrap-add_left w64 m k)
combined_some m (negsuc n) k e f some = ap (λ x. add_effect (int_wrap w64 (x +ℤ k))) e ∙ ap add_effect (int_wrap-add_left w64 m k)

combined_add : (m k : ℤ) → k ≡ int_wrap w64 k → int_combined (add_effect (int_wrap w64 m)) (add_effect k) ≡ add_effect (int_wrap w64 (m +ℤ k))
combined_add m (pos zero) f = ap (λ x. add_effect (int_wrap w64 x)) (sym (plus_zero m))
combined_add m (pos (suc n)) f = combined_some m (int_wrap w64 m) (pos (suc n)) refl f refl
combined_add m (negsuc n) f = combined_some m (int_wrap w64 m) (negsuc n) refl f refl

wrap_twice : (a : ℤ) → int_wrap w64 a ≡ int_wrap w64 (int_wrap w64 a)
wrap_twice a =
    ap (λ x. int_wrap w64 x) (sym (zero_plus a)) ∙ sym (int_wrap-add_right w64 (pos 0) a) ∙ ap (λ x. int_wrap w64 x) (zero_plus (int_wrap w64 a))

effect_by_parts : (p o : Bool) (m n b a : ℤ)
    → cond (cond o true p) (Some (effects.SetInt (int_wrap w64 (cond o n m +ℤ cond o a (b +ℤ a))))) (add_effect (int_wrap w64 (cond o a (b +ℤ a))))
    ≡ int_combined
    (cond p (Some (effects.SetInt (int_wrap w64 (m +ℤ b)))) (add_effect (int_wrap w64 b)))
    (cond o (Some (effects.SetInt (int_wrap w64 (n +ℤ a)))) (add_effect (int_wrap w64 a)))
effect_by_parts p true m n b a = refl
effect_by_parts true false m n b a =
    ap (λ x. Some (effects.SetInt x)) (ap (λ x. int_wrap w64 x) (plus_assoc m b a) ∙ sym (int_wrap-add_right w64 (m +ℤ b) a))
    ∙ sym (combined_set (m +ℤ b) (int_wrap w64 a))
effect_by_parts false false m n b a =
    ap add_effect (sym (int_wrap-add_right w64 b a)) ∙ sym (combined_add b (int_wrap w64 a) (wrap_twice a))

-- an effect by its parts: whether something was set, and the number that a set and the adds after it make
with_parts : Bool → ℤ → ℤ → Option Effect
with_parts b start sum = cond b (Some (effects.SetInt (int_wrap w64 (start +ℤ sum)))) (add_effect (int_wrap w64 sum))

pub int_effect-append : (delta more : List IntChange) → int_effect (delta ++ more) ≡ int_combined (int_effect delta) (int_effect more)
unfolding plain_int with_parts
int_effect-append delta more =
    ap (λ b. with_parts b (start_of (delta ++ more)) (added (delta ++ more))) (has_int_set-append delta more)
    ∙ ap (λ x. with_parts (cond (has_int_set more) true (has_int_set delta)) x (added (delta ++ more))) (start_of-append delta more)
    ∙ ap (λ x. with_parts (cond (has_int_set more) true (has_int_set delta)) (cond (has_int_set more) (start_of more) (start_of delta)) x) (added-append delta more)
    ∙ effect_by_parts (has_int_set delta) (has_int_set more) (start_of delta) (start_of more) (added delta) (added more)

pub int_effect-empty : int_effect [] ≡ None
unfolding int_wrap
int_effect-empty = refl

-- ---- equal effects
-- an effect by its parts: whether something was set, the set, and the sum
parts : Bool → ℤ → ℤ → Option Effect
parts b set sum = cond b (Some (effects.SetInt set)) (add_effect sum)

set_not_add : (n k : ℤ) → Some (effects.SetInt n) ≡ add_effect k → ⊥
set_not_add n (pos zero) e = cc
set_not_add n (pos (suc k)) e = cc
set_not_add n (negsuc k) e = cc

add_one_way : (m n : ℤ) → add_effect m ≡ add_effect n → m ≡ n
add_one_way (pos zero) (pos zero) e = refl
add_one_way (pos zero) (pos (suc n)) e = cc
add_one_way (pos zero) (negsuc n) e = cc
add_one_way (pos (suc m)) (pos zero) e = cc
add_one_way (pos (suc m)) (pos (suc n)) e = cc
add_one_way (pos (suc m)) (negsuc n) e = cc
add_one_way (negsuc m) (pos zero) e = cc
add_one_way (negsuc m) (pos (suc n)) e = cc
add_one_way (negsuc m) (negsuc n) e = cc

same_set : (b b' : Bool) (x x' y y' : ℤ) → parts b x y ≡ parts b' x' y' → b ≡ true → (b' ≡ true) × (x ≡ x')
unfolding parts
same_set true true x x' y y' e is = (refl, cc)
same_set true false x x' y y' e is = absurd (set_not_add x y' e)
same_set false b' x x' y y' e is = cc

same_sum : (b b' : Bool) (x x' y y' : ℤ) → parts b x y ≡ parts b' x' y' → b ≡ false → (b' ≡ false) × (y ≡ y')
unfolding parts
same_sum false false x x' y y' e is = (refl, add_one_way y y' e)
same_sum false true x x' y y' e is = absurd (set_not_add x' y (sym e))
same_sum true b' x x' y y' e is = cc

stands_with_same : (s : Bool) (start d : ℤ) (base delta base' delta' : List IntChange)
    → int_plain base ≡ int_plain base' → int_effect delta ≡ int_effect delta' → StandsWith s start d base delta → StandsWith s start d base' delta'
unfolding parts
stands_with_same true start d base delta base' delta' e f h =
    let t = same_set (has_int_set delta) (has_int_set delta') (int_plain delta) (int_plain delta') (int_wrap w64 (added delta)) (int_wrap w64 (added delta')) f h.0 in
    (t.0, h.1 ∙ t.1)
stands_with_same false start d base delta base' delta' e f h =
    let t = same_sum (has_int_set delta) (has_int_set delta') (int_plain delta) (int_plain delta') (int_wrap w64 (added delta)) (int_wrap w64 (added delta')) f h.0 in
    (t.0, h.1 ∙ e, h.2 ∙ t.1)

pub int_stands_by_effect : (state : IntCell) (base delta base' delta' : List IntChange)
    → int_plain base ≡ int_plain base' → int_effect delta ≡ int_effect delta' → IntStands state base delta → IntStands state base' delta'
int_stands_by_effect state base delta base' delta' e f h = stands_with_same state.was_set state.base state.difference base delta base' delta' e f h

-- an effect, if it is one, is of this type
NoneOrOwn : Option Effect → Type 0
NoneOrOwn None = Unit {0}
NoneOrOwn (Some effect) = IsIntEffect effect

own_add : (k : ℤ) → NoneOrOwn (add_effect k)
unfolding NoneOrOwn
own_add (pos zero) = tt
own_add (pos (suc n)) = tt
own_add (negsuc n) = tt

own_parts : (b : Bool) (set sum : ℤ) → NoneOrOwn (parts b set sum)
unfolding parts NoneOrOwn
own_parts true set sum = tt
own_parts false set sum = own_add sum

pub int_effect_is_own : (delta : List IntChange) (effect : Effect) → int_effect delta ≡ Some effect → IsIntEffect effect
unfolding parts NoneOrOwn
int_effect_is_own delta effect e = subst NoneOrOwn e (own_parts (has_int_set delta) (int_plain delta) (int_wrap w64 (added delta)))

-- ---- lists that do the same have the same effect
wrap_apart : int_wrap w64 (pos 0) ≡ int_wrap w64 (pos 1) → ⊥
unfolding int_wrap
wrap_apart e = cc

sums_apart : (k : ℤ) → int_wrap w64 (pos 0 +ℤ k) ≡ int_wrap w64 (pos 1 +ℤ k) → ⊥
sums_apart k e =
    let zero : (pos 0 +ℤ k) +ℤ neg_ℤ k ≡ pos 0 = omega (arith, ints) in
    let one : (pos 1 +ℤ k) +ℤ neg_ℤ k ≡ pos 1 = omega (arith, ints) in
    wrap_apart (ap (λ x. int_wrap w64 x) (sym zero) ∙ int_wrap-add_same w64 (pos 0 +ℤ k) (pos 1 +ℤ k) (neg_ℤ k) e ∙ ap (λ x. int_wrap w64 x) one)

same_adds : (a a' : ℤ) → int_wrap w64 (pos 0 +ℤ int_wrap w64 a) ≡ int_wrap w64 (pos 0 +ℤ int_wrap w64 a') → int_wrap w64 a ≡ int_wrap w64 a'
same_adds a a' e =
    wrap_twice a ∙ ap (λ x. int_wrap w64 x) (sym (zero_plus (int_wrap w64 a))) ∙ e ∙ ap (λ x. int_wrap w64 x) (zero_plus (int_wrap w64 a')) ∙ sym (wrap_twice a')

set_apart : (x a : ℤ) → x ≡ int_applied (add_effect (int_wrap w64 a)) (int_wrap w64 (pos 0)) → x ≡ int_applied (add_effect (int_wrap w64 a)) (int_wrap w64 (pos 1)) → ⊥
set_apart x a at_zero at_one =
    sums_apart (int_wrap w64 a) (sym (applied_add (pos 0) (int_wrap w64 a)) ∙ sym at_zero ∙ at_one ∙ applied_add (pos 1) (int_wrap w64 a))

same_parts : (b b' : Bool) (x x' a a' : ℤ)
    → int_applied (parts b x (int_wrap w64 a)) (int_wrap w64 (pos 0)) ≡ int_applied (parts b' x' (int_wrap w64 a')) (int_wrap w64 (pos 0))
    → int_applied (parts b x (int_wrap w64 a)) (int_wrap w64 (pos 1)) ≡ int_applied (parts b' x' (int_wrap w64 a')) (int_wrap w64 (pos 1))
    → parts b x (int_wrap w64 a) ≡ parts b' x' (int_wrap w64 a')
unfolding parts
same_parts true true x x' a a' at_zero at_one = ap (λ n. Some (effects.SetInt n)) at_zero
same_parts true false x x' a a' at_zero at_one = absurd (set_apart x a' at_zero at_one)
same_parts false true x x' a a' at_zero at_one = absurd (set_apart x' a (sym at_zero) (sym at_one))
same_parts false false x x' a a' at_zero at_one =
    ap add_effect (same_adds a a' (sym (applied_add (pos 0) (int_wrap w64 a)) ∙ at_zero ∙ applied_add (pos 0) (int_wrap w64 a')))

pub int_canonical : (delta delta' : List IntChange)
    → ((base : List IntChange) → int_plain (base ++ delta) ≡ int_plain (base ++ delta')) → int_effect delta ≡ int_effect delta'
unfolding parts plain_int
int_canonical delta delta' same =
    let at = λ (base : List IntChange). sym (int_plain-append base delta) ∙ same base ∙ int_plain-append base delta' in
    same_parts (has_int_set delta) (has_int_set delta') (int_plain delta) (int_plain delta') (added delta) (added delta') (at []) (at (Set (pos 1) ∷ []))

-- ---- what a state stands for, call by call
pub StandsWith-value : (value : ℤ) (base : List IntChange) → int_plain base ≡ value → StandsWith false value (pos 0) base []
unfolding int_wrap
StandsWith-value value base e = (refl, sym e, refl)

plain_unset : (base delta : List IntChange) → has_int_set delta ≡ false → int_plain (base ++ delta) ≡ int_wrap w64 (int_plain base +ℤ int_wrap w64 (added delta))
unfolding plain_int
plain_unset base delta e =
    int_plain-append base delta
    ∙ ap (λ b. int_applied (cond b (Some (effects.SetInt (int_plain delta))) (add_effect (int_wrap w64 (added delta)))) (int_plain base)) e
    ∙ applied_add (start_of base +ℤ added base) (int_wrap w64 (added delta))
    ∙ sym (int_wrap-add_left w64 (start_of base +ℤ added base) (int_wrap w64 (added delta)))

plain_set : (base delta : List IntChange) → has_int_set delta ≡ true → int_plain (base ++ delta) ≡ int_plain delta
plain_set base delta e =
    int_plain-append base delta
    ∙ ap (λ b. int_applied (cond b (Some (effects.SetInt (int_plain delta))) (add_effect (int_wrap w64 (added delta)))) (int_plain base)) e

pub StandsWith-ask : (s : Bool) (start d : ℤ) (base delta : List IntChange) → StandsWith s start d base delta → int_wrap w64 (start +ℤ d) ≡ int_plain (base ++ delta)
StandsWith-ask true start d base delta h = h.1 ∙ sym (plain_set base delta h.0)
StandsWith-ask false start d base delta h =
    ap (λ x. int_wrap w64 (x +ℤ d)) h.1 ∙ ap (λ x. int_wrap w64 (int_plain base +ℤ x)) h.2 ∙ sym (plain_unset base delta h.0)

has_set-last : (delta more : List IntChange) → has_int_set more ≡ true → has_int_set (delta ++ more) ≡ true
has_set-last delta more e = has_int_set-append delta more ∙ ap (λ b. cond b true (has_int_set delta)) e

has_set-first : (delta more : List IntChange) → has_int_set more ≡ false → has_int_set (delta ++ more) ≡ has_int_set delta
has_set-first delta more e = has_int_set-append delta more ∙ ap (λ b. cond b true (has_int_set delta)) e

pub StandsWith-set : (s : Bool) (x d : ℤ) (base delta before after : List IntChange) → s ≡ true → StandsWith s x d before after → StandsWith true x d base (delta ++ after)
StandsWith-set true x d base delta before after e h = (has_set-last delta after h.0, h.1 ∙ sym (plain_set delta after h.0))
StandsWith-set false x d base delta before after e h = cc

sum_twice : (x d e : ℤ) → int_wrap w64 (x +ℤ int_wrap w64 (d +ℤ e)) ≡ int_wrap w64 (int_wrap w64 (x +ℤ d) +ℤ e)
sum_twice x d e =
    int_wrap-add_right w64 x (d +ℤ e) ∙ ap (λ y. int_wrap w64 y) (plus_assoc x d e) ∙ sym (int_wrap-add_left w64 (x +ℤ d) e)

added_unset : (delta more : List IntChange) → has_int_set more ≡ false → added (delta ++ more) ≡ added delta +ℤ added more
added_unset delta more e = added-append delta more ∙ ap (λ b. cond b (added more) (added delta +ℤ added more)) e

wrap_sum : (a b : ℤ) → int_wrap w64 (int_wrap w64 a +ℤ int_wrap w64 b) ≡ int_wrap w64 (a +ℤ b)
wrap_sum a b = int_wrap-add_left w64 a (int_wrap w64 b) ∙ int_wrap-add_right w64 a b

after_unset : (s : Bool) (x d y e : ℤ) (base delta before after : List IntChange)
    → StandsWith s x d base delta → StandsWith false y e before after → StandsWith s x (int_wrap w64 (d +ℤ e)) base (delta ++ after)
after_unset true x d y e base delta before after h k = (
  has_set-first delta after k.0 ∙ h.0,
  sum_twice x d e ∙ ap (λ z. int_wrap w64 (z +ℤ e)) h.1 ∙ ap (λ z. int_wrap w64 (int_plain delta +ℤ z)) k.2 ∙ sym (plain_unset delta after k.0),
)
after_unset false x d y e base delta before after h k = (
  has_set-first delta after k.0 ∙ h.0,
  h.1,
  ap (λ z. int_wrap w64 (z +ℤ e)) h.2 ∙ ap (λ z. int_wrap w64 (int_wrap w64 (added delta) +ℤ z)) k.2
      ∙ wrap_sum (added delta) (added after) ∙ ap (λ z. int_wrap w64 z) (sym (added_unset delta after k.0)),
)

pub StandsWith-add : (s b : Bool) (x d y e : ℤ) (base delta before after : List IntChange) → b ≡ false
    → StandsWith s x d base delta → StandsWith b y e before after → StandsWith s x (int_wrap w64 (d +ℤ e)) base (delta ++ after)
StandsWith-add s true x d y e base delta before after is h k = cc
StandsWith-add s false x d y e base delta before after is h k = after_unset s x d y e base delta before after h k

-- one add
one_add : (n : ℤ) → StandsWith false (int_plain []) (int_wrap w64 (n +ℤ pos 0)) [] (Add n ∷ [])
one_add n = (refl, refl, refl)

pub StandsWith-one : (s : Bool) (x d n : ℤ) (base delta : List IntChange) → StandsWith s x d base delta → StandsWith s x (int_wrap w64 (d +ℤ n)) base (delta ++ Add n ∷ [])
StandsWith-one s x d n base delta h =
    subst (λ z. StandsWith s x z base (delta ++ Add n ∷ [])) (int_wrap-add_right w64 d (n +ℤ pos 0) ∙ ap (λ z. int_wrap w64 (d +ℤ z)) (plus_zero n))
    (after_unset s x d (int_plain []) (int_wrap w64 (n +ℤ pos 0)) base delta [] (Add n ∷ []) h (one_add n))

pub StandsWith-one_set : (n : ℤ) (base delta : List IntChange) → StandsWith true n (pos 0) base (delta ++ Set n ∷ [])
unfolding plain_int
StandsWith-one_set n base delta = StandsWith-set true n (pos 0) base delta [] (Set n ∷ []) refl (refl, refl)

pub StandsWith-effect : (s : Bool) (x d : ℤ) (base delta : List IntChange) → s ≡ true → StandsWith s x d base delta → Some (effects.SetInt (int_plain (base ++ delta))) ≡ int_effect delta
StandsWith-effect true x d base delta e h =
    ap (λ n. Some (effects.SetInt n)) (plain_set base delta h.0)
    ∙ sym (ap (λ b. cond b (Some (effects.SetInt (int_plain delta))) (add_effect (int_wrap w64 (added delta)))) h.0)
StandsWith-effect false x d base delta e h = cc

-- lists with one effect at the end
pub IntStands-effect : (state : IntCell) (base delta one more : List IntChange) → int_effect one ≡ int_effect more → IntStands state base (delta ++ one) → IntStands state base (delta ++ more)
IntStands-effect state base delta one more e h =
    int_stands_by_effect state base (delta ++ one) base (delta ++ more) refl
    (int_effect-append delta one ∙ ap (λ x. int_combined (int_effect delta) x) e ∙ sym (int_effect-append delta more)) h

add_some : (n : ℤ) → n ≢ pos 0 → add_effect n ≡ Some (effects.Add n)
add_some (pos zero) ne = absurd (ne refl)
add_some (pos (suc n)) ne = refl
add_some (negsuc n) ne = refl

pub effect_of_add : (n : ℤ) → FitsSigned w64 n → n ≢ pos 0 → int_effect (Add n ∷ []) ≡ Some (effects.Add n)
effect_of_add n fits ne = ap (λ x. add_effect (int_wrap w64 x)) (plus_zero n) ∙ ap add_effect (int_wrap_fits w64 n fits) ∙ add_some n ne

pub effect_of_set : (n : ℤ) → FitsSigned w64 n → int_effect (Set n ∷ []) ≡ Some (effects.SetInt n)
unfolding plain_int
effect_of_set n fits = ap (λ x. Some (effects.SetInt (int_wrap w64 x))) (plus_zero n) ∙ ap (λ x. Some (effects.SetInt x)) (int_wrap_fits w64 n fits)

pub int_plain-empty : int_plain [] ≡ pos 0
unfolding plain_int int_wrap
int_plain-empty = refl
