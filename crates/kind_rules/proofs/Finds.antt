-- What the first place is that passes a test, and what stands at a place of a list.
use Rattle.std.proofs.Common.{◌≡◌, refl, ap, subst, arith}
use Rattle.std.proofs.lemmas.Bool.{and_parts, eqb-true}
use Rattle.std.proofs.lemmas.Slice.Eq.{bytes_eq-Decides}
use Rattle.std.specs.Prelude.{ℕ, zero, suc, ◌<◌, Bool, true, false, ◌||◌, List, [], ◌∷◌, ◌++◌, length, map, Option, Some, None, option_map, slice_get, if◌then◌else◌, bytes_eq}
use Rattle.std.specs.List.{AllByRecursion}
use Rattle.cloud_base.specs.Shaped.{property_at}
use Rattle.cloud_base.specs.declared.schema.Owner.{Owner}
use Rattle.cloud_base.specs.declared.schema.Owner.TheVariants as owner
use Rattle.cloud_base.specs.declared.schema.Property.{Property}
use Rattle.cloud_base.specs.declared.schema.Schema.{Schema}
use Rattle.kind_rules.specs.Names.{first_place, is_among, is_property, property_of, same_owner}

-- ---- lists

pub both_parts : {A : Type 0} (P : A → Type 0) (xs ys : List A) → AllByRecursion P (xs ++ ys) → AllByRecursion P xs × AllByRecursion P ys
both_parts P [] ys h = (tt, h)
both_parts P (x ∷ xs) ys h = let rest = both_parts P xs ys h.1 in ((h.0, rest.0), rest.1)

pub in_range : {A : Type 0} (xs : List A) (n : ℕ) (x : A) → slice_get xs n ≡ Some x → n < length xs
in_range [] n x h = cc
in_range (y ∷ xs) zero x h = omega arith
in_range (y ∷ xs) (suc n) x h = let r : n < length xs = in_range xs n x h in omega (arith, r)

pub all_at : {A : Type 0} (P : A → Type 0) (xs : List A) (n : ℕ) (x : A) → AllByRecursion P xs → slice_get xs n ≡ Some x → P x
all_at P [] n x h e = cc
all_at P (y ∷ xs) zero x h e = let s : y ≡ x = cc in subst P s h.0
all_at P (y ∷ xs) (suc n) x h e = all_at P xs n x h.1 e

pub map_at : {A B : Type 0} (f : A → B) (xs : List A) (n : ℕ) (x : A) → slice_get xs n ≡ Some x → slice_get (map f xs) n ≡ Some (f x)
map_at f [] n x h = cc
map_at f (y ∷ xs) zero x h = let s : y ≡ x = cc in ap (λ z. Some (f z)) s
map_at f (y ∷ xs) (suc n) x h = map_at f xs n x h

-- ---- first places

abbrev IsFound : {A : Type 0} → (A → Bool) → List A → ℕ → Type 0
IsFound {A} test xs n = (x : A) × (slice_get xs n ≡ Some x) × (test x ≡ true)

found_behind : {A : Type 0} (test : A → Bool) (x : A) (xs : List A) (n : ℕ) (o : Option ℕ) → first_place test xs ≡ o → ((m : ℕ) → first_place test xs ≡ Some m → IsFound test xs m) → option_map suc o ≡ Some n → IsFound test (x ∷ xs) n
found_behind test x xs n None e on h = cc
found_behind test x xs n (Some m) e on h = let s : suc m ≡ n = cc in subst (IsFound test (x ∷ xs)) s (on m e)

found_here : {A : Type 0} (test : A → Bool) (x : A) (xs : List A) (n : ℕ) (b : Bool) → test x ≡ b → ((m : ℕ) → first_place test xs ≡ Some m → IsFound test xs m) → (if b then Some 0 else option_map suc (first_place test xs)) ≡ Some n → IsFound test (x ∷ xs) n
found_here test x xs n true e on h = let s : 0 ≡ n = cc in subst (IsFound test (x ∷ xs)) s (x, refl, e)
found_here test x xs n false e on h = found_behind test x xs n (first_place test xs) refl on h

pub found : {A : Type 0} (test : A → Bool) (xs : List A) (n : ℕ) → first_place test xs ≡ Some n → (x : A) × (slice_get xs n ≡ Some x) × (test x ≡ true)
found test [] n h = cc
found test (x ∷ xs) n h = found_here test x xs n (test x) refl (found test xs) h

pub same_bytes : (a b : List ℕ) → bytes_eq a b ≡ true → a ≡ b
same_bytes a b = (bytes_eq-Decides a b).0

abbrev place_of : List ℕ → List (List ℕ) → Option ℕ
place_of name names = first_place (λ x. bytes_eq x name) names

among_here : (name : List ℕ) (xs : List (List ℕ)) (b : Bool) → (is_among name xs ≡ true → (n : ℕ) × (place_of name xs ≡ Some n)) → (b || is_among name xs) ≡ true → (n : ℕ) × ((if b then Some 0 else option_map suc (place_of name xs)) ≡ Some n)
among_here name xs true on h = (0, refl)
among_here name xs false on h = let r = on h in (suc r.0, ap (option_map suc) r.1)

-- a name among names has a first place
pub among_found : (name : List ℕ) (names : List (List ℕ)) → is_among name names ≡ true → (n : ℕ) × (first_place (λ x. bytes_eq x name) names ≡ Some n)
among_found name [] h = cc
among_found name (x ∷ xs) h = among_here name xs (bytes_eq x name) (among_found name xs) h

-- ---- properties

pub same_owner_is : (a b : Owner) → same_owner a b ≡ true → a ≡ b
same_owner_is owner.Global owner.Global h = refl
same_owner_is owner.Global (owner.Array b) h = cc
same_owner_is owner.Global (owner.Entity b) h = cc
same_owner_is (owner.Array a) owner.Global h = cc
same_owner_is (owner.Array a) (owner.Array b) h = ap owner.Array (same_bytes a b h)
same_owner_is (owner.Array a) (owner.Entity b) h = cc
same_owner_is (owner.Entity a) owner.Global h = cc
same_owner_is (owner.Entity a) (owner.Array b) h = cc
same_owner_is (owner.Entity a) (owner.Entity b) h = ap owner.Entity (eqb-true a b h)

-- a property that is found has the owner that was asked for
pub found_property : (schema : Schema) (owner : Owner) (name : List ℕ) (number : ℕ) → property_of schema owner name ≡ Some number → (p : Property) × (property_at schema number ≡ Some p) × (p.owner ≡ owner)
found_property schema of name number h =
    let r = found (is_property of name) schema.properties number h in
    (r.0, r.1, same_owner_is r.0.owner of (and_parts (same_owner r.0.owner of) (bytes_eq r.0.name name) r.2).0)
