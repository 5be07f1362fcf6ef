-- The order of what things go by is total, and tells any two apart.
use Rattle.std.proofs.Common.{◌≡◌, refl, ◌∙◌, ap, subst, ℕ, ◌==◌, ◌&&◌, List, [], arith}
use Rattle.std.specs.declared.cmp.Ordering.{Ordering}
use Rattle.std.specs.declared.cmp.Ordering.TheVariants.{Less, Equal, Greater}
use Rattle.std.specs.Ordering.{nat_cmp, ordering_then, then_cmp, on, is_eq}
use Rattle.std.specs.Cmp.{IsTotalOrder}
use Rattle.std.specs.Str.{bytes_eq}
use Rattle.std.proofs.lemmas.Bool.Decides.{nat_tests}
use Rattle.std.proofs.lemmas.Cmp.{on_total, then_total, nat_cmp_total, nat_list_cmp_total, same_from_slice_cmp}
use Rattle.cloud_base.specs.Order.{text_order}
use Rattle.cloud_base.specs.declared.schema.Owner.{Owner}
use Rattle.cloud_base.specs.declared.schema.Owner.TheVariants as owner
use Rattle.kind_rules.specs.Names.{same_owner}
use Rattle.kind_names.specs.Keys.{Named, owner_order, named_order}
use Rattle.kind_names.specs.Indexes.{named_at, number_order}

-- ---- total

abbrev kind : Owner → ℕ
kind owner.Global = 0
kind (owner.Array a) = 1
kind (owner.Entity e) = 2

abbrev array_in : Owner → List ℕ
array_in owner.Global = []
array_in (owner.Array a) = a
array_in (owner.Entity e) = []

abbrev entity_in : Owner → ℕ
entity_in owner.Global = 0
entity_in (owner.Array a) = 0
entity_in (owner.Entity e) = e

-- by the kind, and then by each part that an owner of the kind may have
abbrev by_parts : Owner → Owner → Ordering
by_parts = then_cmp (on kind nat_cmp) (then_cmp (on array_in text_order) (on entity_in nat_cmp))

by_parts_total : IsTotalOrder by_parts
by_parts_total = then_total (on_total kind nat_cmp_total) (then_total (on_total array_in nat_list_cmp_total) (on_total entity_in nat_cmp_total))

then_equal : (r : Ordering) → ordering_then r Equal ≡ r
then_equal Less = refl
then_equal Equal = refl
then_equal Greater = refl

same_by_parts : (a b : Owner) → by_parts a b ≡ owner_order a b
same_by_parts owner.Global owner.Global = refl
same_by_parts owner.Global (owner.Array b) = refl
same_by_parts owner.Global (owner.Entity b) = refl
same_by_parts (owner.Array a) owner.Global = refl
same_by_parts (owner.Array a) (owner.Array b) = then_equal (text_order a b)
same_by_parts (owner.Array a) (owner.Entity b) = refl
same_by_parts (owner.Entity a) owner.Global = refl
same_by_parts (owner.Entity a) (owner.Array b) = refl
same_by_parts (owner.Entity a) (owner.Entity b) = refl

owner_order_total : IsTotalOrder owner_order
owner_order_total = subst IsTotalOrder (λ i a b. same_by_parts a b i) by_parts_total

pub named_order_total : IsTotalOrder named_order
named_order_total = then_total (on_total (λ (k : Named). k.0) owner_order_total) (on_total (λ (k : Named). k.1) nat_list_cmp_total)

pub number_order_total : {A : Type 0} (seen : A → Named) (xs : List A) → IsTotalOrder (number_order seen xs)
number_order_total seen xs = then_total (on_total (named_at seen xs) named_order_total) nat_cmp_total

-- ---- two that neither comes before are one

same_text : (xs ys : List ℕ) → is_eq (text_order xs ys) ≡ bytes_eq xs ys
same_text xs ys = same_from_slice_cmp nat_cmp is_eq bytes_eq refl (λ _ _. refl) (λ _ _. refl) (λ x y xs ys o h. grind (arith, nat_tests)) xs ys _ refl

same_number : (m n : ℕ) → is_eq (nat_cmp m n) ≡ (m == n)
same_number m n = grind (arith, nat_tests)

owners_same : (a b : Owner) → is_eq (owner_order a b) ≡ same_owner a b
owners_same owner.Global owner.Global = refl
owners_same owner.Global (owner.Array b) = refl
owners_same owner.Global (owner.Entity b) = refl
owners_same (owner.Array a) owner.Global = refl
owners_same (owner.Array a) (owner.Array b) = same_text a b
owners_same (owner.Array a) (owner.Entity b) = refl
owners_same (owner.Entity a) owner.Global = refl
owners_same (owner.Entity a) (owner.Array b) = refl
owners_same (owner.Entity a) (owner.Entity b) = same_number a b

both_equal : (r s : Ordering) → is_eq (ordering_then r s) ≡ is_eq r && is_eq s
both_equal Less s = refl
both_equal Equal s = refl
both_equal Greater s = refl

pub named_same : (a b : Named) → is_eq (named_order a b) ≡ same_owner a.0 b.0 && bytes_eq a.1 b.1
named_same a b =
    both_equal (owner_order a.0 b.0) (text_order a.1 b.1)
    ∙ ap (λ t. t && is_eq (text_order a.1 b.1)) (owners_same a.0 b.0)
    ∙ ap (λ t. same_owner a.0 b.0 && t) (same_text a.1 b.1)
