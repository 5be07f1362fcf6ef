-- What a name stands for at a place of a source.
use Rattle.std.specs.Prelude.{◌≡◌, refl, ℕ, suc, ◌==◌, Bool, true, false, ◌&&◌, ◌||◌, List, [], ◌∷◌, Option, Some, None, option_map, if◌then◌else◌, codes}
use Rattle.std.specs.Str.{bytes_eq}
use Rattle.cloud_base.specs.declared.schema.Entity.{Entity}
use Rattle.cloud_base.specs.declared.schema.Owner.{Owner}
use Rattle.cloud_base.specs.declared.schema.Owner.TheVariants as owner
use Rattle.cloud_base.specs.declared.schema.Property.{Property}
use Rattle.cloud_base.specs.declared.schema.Schema.{Schema}
use Rattle.typed_program.specs.declared.expression.Kind.{Kind}

-- a variable, with the kind of its values
pub record Variable : Type 0 where
  pub name : List ℕ
  pub kind : Kind

-- the schema, the names of all that is declared in it, and the visible variables, which stand by their slots
pub record Scope : Type 0 where
  pub schema : Schema
  pub taken : List (List ℕ)
  pub visible : List Variable

-- the place of the first one that passes a test
abbrev pub first_place : {A : Type 0} → (A → Bool) → List A → Option ℕ
first_place test [] = None
first_place test (x ∷ xs) = if test x then Some 0 else option_map suc (first_place test xs)

abbrev pub is_among : List ℕ → List (List ℕ) → Bool
is_among name [] = false
is_among name (x ∷ xs) = bytes_eq x name || is_among name xs

-- whether a name stands twice
abbrev pub is_repeated : List (List ℕ) → Bool
is_repeated [] = false
is_repeated (x ∷ xs) = is_among x xs || is_repeated xs

abbrev pub same_owner : Owner → Owner → Bool
same_owner owner.Global owner.Global = true
same_owner (owner.Array a) (owner.Array b) = bytes_eq a b
same_owner (owner.Entity a) (owner.Entity b) = a == b
same_owner a b = false

abbrev pub is_property : Owner → List ℕ → Property → Bool
is_property owner name p = same_owner p.owner owner && bytes_eq p.name name

-- the number of a global, or of the property of an array or an entity, with a name
abbrev pub property_of : Schema → Owner → List ℕ → Option ℕ
property_of schema owner name = first_place (is_property owner name) schema.properties

-- the number of the entity with a name
abbrev pub entity_of : Schema → List ℕ → Option ℕ
entity_of schema name = first_place (λ (e : Entity). bytes_eq e.name name) schema.entities

-- the slot of the visible variable with a name
abbrev pub slot_of : List Variable → List ℕ → Option ℕ
slot_of visible name = first_place (λ (v : Variable). bytes_eq v.name name) visible

module _ where
  pub example_places : (first_place (λ n. n == 7) (5 ∷ 7 ∷ 7 ∷ []) ≡ Some 1) × (first_place (λ n. n == 8) (5 ∷ 7 ∷ []) ≡ None)
  example_places = (refl, refl)

  pub example_repeated : (is_repeated (codes "k" ∷ codes "p" ∷ codes "k" ∷ []) ≡ true) × (is_repeated (codes "k" ∷ codes "kk" ∷ []) ≡ false)
  example_repeated = (refl, refl)
