-- First places, in std's words.
use Rattle.std.proofs.Common.{◌≡◌, refl, sym, subst, ℕ, suc, ◌<◌, ◌≤◌, ◌+◌, ◌||◌, not, zero, Bool, true, false, List, [], ◌∷◌, Some, None, Option, option_map, is_some, IfSome, length, arith, cond, ap, ◌∙◌, if◌then◌else◌, nat_lt, slice_index_or}
use Rattle.std.specs.List.{position, position_or_len, list_any}
use Rattle.std.specs.Str.{bytes_eq}
use Rattle.std.proofs.lemmas.Bool.Decides.{nat_tests}
use Rattle.cloud_base.specs.declared.schema.Schema.{Schema}
use Rattle.kind_rules.specs.Names.{Variable, first_place, is_among, property_of, entity_of}
use Rattle.kind_rules.specs.Expressions.{kind_at}
use Rattle.kind_names.specs.Keys.{Named, of_property, of_entity, of_name, goes_by}
use Rattle.kind_names.proofs.Orders.{named_same}

counted : (n m : ℕ) → option_map suc (cond (nat_lt n m) (Some n) None) ≡ cond (nat_lt (1 + n) (suc m)) (Some (1 + n)) None
counted n m = grind (arith, nat_tests)

first_by : (b : Bool) (n m : ℕ) → (if b then Some 0 else option_map suc (cond (nat_lt n m) (Some n) None)) ≡ cond (nat_lt (cond (not b) (1 + n) 0) (suc m)) (Some (cond (not b) (1 + n) 0)) None
first_by true n m = grind (arith, nat_tests)
first_by false n m = counted n m

pub first_place_position : {A : Type 0} (test : A → Bool) (xs : List A) → first_place test xs ≡ position test xs
first_place_position test [] = refl
first_place_position test (x ∷ xs) = ap (λ rest. if test x then Some 0 else option_map suc rest) (first_place_position test xs) ∙ first_by (test x) (position_or_len test xs) (length xs)

pub is_among_any : (name : List ℕ) (xs : List (List ℕ)) → is_among name xs ≡ list_any (λ x. bytes_eq x name) xs
is_among_any name [] = refl
is_among_any name (x ∷ xs) = ap (λ rest. bytes_eq x name || rest) (is_among_any name xs)

-- the kind at a place
pub kind_at_place : (vs : List Variable) (n : ℕ) (v : Variable) → n < length vs → v ≡ slice_index_or vs n v → v.kind ≡ kind_at vs n
kind_at_place [] n v lt e = absurd (omega arith)
kind_at_place (w ∷ vs) zero v lt e = ap (λ (x : Variable). x.kind) e
kind_at_place (w ∷ vs) (suc n) v lt e = kind_at_place vs n v (omega arith) e

-- ---- by what things go by

step_within : (b : Bool) (r : Option ℕ) (n : ℕ) → IfSome r (λ m. m < n) → IfSome (if b then Some 0 else option_map suc r) (λ m. m < suc n)
step_within true r n h = omega arith
step_within false None n h = tt
step_within false (Some m) n h = omega (arith, h)

pub first_within : {A : Type 0} (test : A → Bool) (xs : List A) → IfSome (first_place test xs) (λ n. n < length xs)
first_within test [] = tt
first_within test (x ∷ xs) = step_within (test x) (first_place test xs) (length xs) (first_within test xs)

pub property_found : (schema : Schema) (k : Named) → first_place (goes_by of_property k) schema.properties ≡ property_of schema k.0 k.1
property_found schema k = ap (λ test. first_place test schema.properties) (λ i p. named_same (of_property p) k i)

pub entity_found : (schema : Schema) (name : List ℕ) → first_place (goes_by of_entity (of_name name)) schema.entities ≡ entity_of schema name
entity_found schema name = ap (λ test. first_place test schema.entities) (λ i e. named_same (of_entity e) (of_name name) i)

step_among : (b : Bool) (r : Option ℕ) → is_some (if b then Some 0 else option_map suc r) ≡ b || is_some r
step_among true r = refl
step_among false None = refl
step_among false (Some n) = refl

among_place : (name : List ℕ) (xs : List (List ℕ)) → is_some (first_place (λ x. bytes_eq x name) xs) ≡ is_among name xs
among_place name [] = refl
among_place name (x ∷ xs) = step_among (bytes_eq x name) (first_place (λ x. bytes_eq x name) xs) ∙ ap (λ rest. bytes_eq x name || rest) (among_place name xs)

pub among_found : (name : List ℕ) (xs : List (List ℕ)) → is_some (first_place (goes_by of_name (of_name name)) xs) ≡ is_among name xs
among_found name xs = ap (λ test. is_some (first_place test xs)) (λ i x. named_same (of_name x) (of_name name) i) ∙ among_place name xs

keeps_small : (r : Option ℕ) (n : ℕ) → IfSome r (λ m. m < n) → n ≤ 256 → IfSome r (λ m. m < 65536)
keeps_small None n h le = tt
keeps_small (Some m) n h le = omega (arith, h, le)

pub small_place : {A : Type 0} (test : A → Bool) (xs : List A) (r : Option ℕ) → r ≡ first_place test xs → length xs ≤ 256 → IfSome r (λ m. m < 65536)
small_place test xs r e le = keeps_small r (length xs) (subst (λ s. IfSome s (λ m. m < length xs)) (sym e) (first_within test xs)) le
