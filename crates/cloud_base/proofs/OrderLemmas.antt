-- The orders are total, and tell any two apart.
use Rattle.std.proofs.Common.{◌≡◌, refl, sym, ◌∙◌, ap, subst, ℕ, true, List, [], ◌∷◌, ℤ, pos}
use Rattle.std.specs.Bool.{Decides}
use lib.Signed.{◌<ℤ◌}
use Rattle.std.specs.Prelude.{◌<◌}
use Rattle.std.specs.declared.cmp.Ordering.{Ordering}
use Rattle.std.specs.declared.cmp.Ordering.TheVariants.{Less, Equal, Greater}
use Rattle.std.specs.Ordering.{nat_cmp, int_cmp, ordering_then, then_cmp, on, is_eq, MatchOrdering}
use Rattle.std.specs.Cmp.{IsTotalOrder, Equal-is}
use Rattle.std.specs.Cmp.Lexicographic.{slice_cmp}
use Rattle.std.proofs.lemmas.Cmp.{ranked, int_ranked, tied_itself, on_total, then_total, nat_cmp_total, int_cmp_total, nat_list_cmp_total, lists_total}
use Rattle.cloud_base.specs.Values.{Id}
use Rattle.cloud_base.specs.Order.{id_order, text_order, key_order, keys_order, same_id, same_keys}
use Rattle.cloud_base.specs.declared.key.Key.{Key}
use Rattle.cloud_base.specs.declared.key.Key.TheVariants.{Int, Text, Ref}

-- ---- total

pub id_order_total : IsTotalOrder id_order
id_order_total = then_total (on_total (λ (id : Id). id.client) nat_cmp_total) (on_total (λ (id : Id). id.serial) nat_cmp_total)

pub text_order_total : IsTotalOrder text_order
text_order_total = nat_list_cmp_total

abbrev kind : Key → ℕ
kind (Int n) = 0
kind (Text t) = 1
kind (Ref id) = 2

abbrev number_in : Key → ℤ
number_in (Int n) = n
number_in (Text t) = pos 0
number_in (Ref id) = pos 0

abbrev text_in : Key → List ℕ
text_in (Int n) = []
text_in (Text t) = t
text_in (Ref id) = []

abbrev id_in : Key → Id
id_in (Int n) = record { client = 0; serial = 0 }
id_in (Text t) = record { client = 0; serial = 0 }
id_in (Ref id) = id

-- by the kind, and then by each part that a key of the kind may have
abbrev by_parts : Key → Key → Ordering
by_parts = then_cmp (on kind nat_cmp) (then_cmp (on number_in int_cmp) (then_cmp (on text_in text_order) (on id_in id_order)))

by_parts_total : IsTotalOrder by_parts
by_parts_total = then_total (on_total kind nat_cmp_total) (then_total (on_total number_in int_cmp_total) (then_total (on_total text_in text_order_total) (on_total id_in id_order_total)))

then_equal : (r : Ordering) → ordering_then r Equal ≡ r
then_equal Less = refl
then_equal Equal = refl
then_equal Greater = refl

same_by_parts : (a b : Key) → by_parts a b ≡ key_order a b
same_by_parts (Int a) (Int b) = then_equal (int_cmp a b)
same_by_parts (Int a) (Text t) = refl
same_by_parts (Int a) (Ref v) = refl
same_by_parts (Text s) (Int b) = refl
same_by_parts (Text s) (Text t) = then_equal (text_order s t)
same_by_parts (Text s) (Ref v) = refl
same_by_parts (Ref u) (Int b) = refl
same_by_parts (Ref u) (Text t) = refl
same_by_parts (Ref u) (Ref v) = refl

pub key_order_total : IsTotalOrder key_order
key_order_total = subst IsTotalOrder (λ i a b. same_by_parts a b i) by_parts_total

pub keys_order_total : IsTotalOrder keys_order
keys_order_total = lists_total key_order_total

-- ---- two that neither comes before are one

nat_apart : (x y : ℕ) (r : Ordering) → MatchOrdering r (x < y) (x ≡ y) (y < x) → r ≡ Equal → x ≡ y
nat_apart x y Less m e = cc
nat_apart x y Equal m e = m
nat_apart x y Greater m e = cc

pub nat_same : (x y : ℕ) → nat_cmp x y ≡ Equal → x ≡ y
nat_same x y e = nat_apart x y (nat_cmp x y) (ranked x y (nat_cmp x y) refl) e

both_equal : (r s : Ordering) → ordering_then r s ≡ Equal → (r ≡ Equal) × (s ≡ Equal)
both_equal Less s e = cc
both_equal Equal s e = (refl, e)
both_equal Greater s e = cc

pub id_same : (a b : Id) → id_order a b ≡ Equal → a ≡ b
id_same a b e =
    let h = both_equal (nat_cmp a.client b.client) (nat_cmp a.serial b.serial) e in
    let p : a.client ≡ b.client = nat_same a.client b.client h.0 in
    let q : a.serial ≡ b.serial = nat_same a.serial b.serial h.1 in
    λ i. record { client = p i; serial = q i }

lists_same : {A : Type 0} (R : A → A → Ordering) → ((x y : A) → R x y ≡ Equal → x ≡ y) → (xs ys : List A) → slice_cmp R xs ys ≡ Equal → xs ≡ ys
lists_same R same [] [] e = refl
lists_same R same [] (y ∷ ys) e = cc
lists_same R same (x ∷ xs) [] e = cc
lists_same R same (x ∷ xs) (y ∷ ys) e =
    let h = both_equal (R x y) (slice_cmp R xs ys) e in
    let p = same x y h.0 in
    let q = lists_same R same xs ys h.1 in
    λ i. p i ∷ q i

pub text_same : (s t : List ℕ) → text_order s t ≡ Equal → s ≡ t
text_same = lists_same nat_cmp nat_same

int_apart : (x y : ℤ) (r : Ordering) → MatchOrdering r (x <ℤ y) (x ≡ y) (y <ℤ x) → r ≡ Equal → x ≡ y
int_apart x y Less m e = cc
int_apart x y Equal m e = m
int_apart x y Greater m e = cc

int_same : (x y : ℤ) → int_cmp x y ≡ Equal → x ≡ y
int_same x y e = int_apart x y (int_cmp x y) (int_ranked x y (int_cmp x y) refl) e

pub key_same : (a b : Key) → key_order a b ≡ Equal → a ≡ b
key_same (Int a) (Int b) e = ap Int (int_same a b e)
key_same (Int a) (Text t) e = cc
key_same (Int a) (Ref v) e = cc
key_same (Text s) (Int b) e = cc
key_same (Text s) (Text t) e = ap Text (text_same s t e)
key_same (Text s) (Ref v) e = cc
key_same (Ref u) (Int b) e = cc
key_same (Ref u) (Text t) e = cc
key_same (Ref u) (Ref v) e = ap Ref (id_same u v e)

pub keys_same : (a b : List Key) → keys_order a b ≡ Equal → a ≡ b
keys_same = lists_same key_order key_same

-- ---- the tests

decides : {A : Type 0} (R : A → A → Ordering) → IsTotalOrder R → ((x y : A) → R x y ≡ Equal → x ≡ y) → (x y : A) → Decides (is_eq (R x y)) (x ≡ y)
decides R total same x y = (λ e. same x y ((Equal-is (R x y)).0 e), λ e. ap is_eq (ap (R x) (sym e) ∙ tied_itself total x))

pub same_id_decides : (a b : Id) → Decides (same_id a b) (a ≡ b)
same_id_decides = decides id_order id_order_total id_same

pub same_keys_decides : (a b : List Key) → Decides (same_keys a b) (a ≡ b)
same_keys_decides = decides keys_order keys_order_total keys_same

pub same_id_itself : (a : Id) → same_id a a ≡ true
same_id_itself a = (same_id_decides a a).1 refl
