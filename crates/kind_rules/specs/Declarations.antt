-- Which rules of kinds fail at a declaration, and the schema that declarations give.
-- Rules have their numbers: 1 names that are taken, 3 the types of keys, 4 how many keys there are.
use Rattle.std.specs.Prelude.{ℕ, ◌||◌, not, List, [], ◌∷◌, ◌++◌, length, map, nat_le}
use Rattle.std.specs.List.{flat_map}
use Rattle.cloud_base.specs.Values.{most_keys}
use Rattle.cloud_base.specs.declared.schema.Entity.{Entity}
use Rattle.cloud_base.specs.declared.schema.KeyType.{KeyType}
use Rattle.cloud_base.specs.declared.schema.KeyType.TheVariants as type
use Rattle.cloud_base.specs.declared.schema.Owner.{Owner}
use Rattle.cloud_base.specs.declared.schema.Owner.TheVariants as owner
use Rattle.cloud_base.specs.declared.schema.Property.{Property}
use Rattle.cloud_base.specs.declared.schema.Schema.{Schema}
use Rattle.std.specs.Str.{bytes_eq}
use Rattle.source_tree.specs.declared.program.Declaration.{Declaration}
use Rattle.source_tree.specs.declared.program.Declaration.TheVariants as d
use Rattle.source_tree.specs.declared.program.Key.{Key}
use Rattle.source_tree.specs.declared.program.KeyType.{KeyType as WrittenType}
use Rattle.source_tree.specs.declared.program.KeyType.TheVariants as k
use Rattle.source_tree.specs.declared.program.Property.{Property as WrittenProperty}
use Rattle.kind_rules.specs.Names.{first_place, is_among, is_repeated}
use Rattle.kind_rules.specs.Expressions.{unless}
use Rattle.kind_rules.specs.Statements.{number_or_zero}

abbrev pub declared_name : Declaration → List ℕ
declared_name (d.Global p) = p.name
declared_name (d.Array n keys properties) = n
declared_name (d.Entity n keys properties) = n

abbrev pub declared_names : List Declaration → List (List ℕ)
declared_names ds = map declared_name ds

abbrev pub entity_names : List Declaration → List (List ℕ)
entity_names [] = []
entity_names (d.Global p ∷ ds) = entity_names ds
entity_names (d.Array n keys properties ∷ ds) = entity_names ds
entity_names (d.Entity n keys properties ∷ ds) = n ∷ entity_names ds

abbrev pub own_names : List Key → List WrittenProperty → List (List ℕ)
own_names keys properties = map (λ (k : Key). k.name) keys ++ map (λ (p : WrittenProperty). p.name) properties

-- a key's type is an entity that was declared earlier
abbrev pub type_rules : List (List ℕ) → WrittenType → List ℕ
type_rules entities k.Int = []
type_rules entities k.Text = []
type_rules entities (k.Entity n) = unless (is_among n entities) 3

abbrev pub name_rules : List Declaration → List ℕ → List (List ℕ) → List ℕ
name_rules earlier n own = unless (not (is_among n (declared_names earlier) || is_repeated own)) 1

abbrev pub owner_rules : List Declaration → List ℕ → List Key → List WrittenProperty → List ℕ
owner_rules earlier n keys properties = name_rules earlier n (own_names keys properties) ++ (flat_map (λ (k : Key). type_rules (entity_names earlier) k.of) keys ++ unless (nat_le (length keys) most_keys) 4)

-- the rules that fail at a declaration behind earlier ones
abbrev pub declaration_rules : List Declaration → Declaration → List ℕ
declaration_rules earlier (d.Global p) = name_rules earlier p.name []
declaration_rules earlier (d.Array n keys properties) = owner_rules earlier n keys properties
declaration_rules earlier (d.Entity n keys properties) = owner_rules earlier n keys properties

-- of each declaration in order
abbrev pub rules_from : List Declaration → List Declaration → List (List ℕ)
rules_from earlier [] = []
rules_from earlier (one ∷ ds) = declaration_rules earlier one ∷ rules_from (earlier ++ one ∷ []) ds

-- the number of an entity, by its name
abbrev pub entity_number : List (List ℕ) → List ℕ → ℕ
entity_number entities n = number_or_zero (first_place (λ x. bytes_eq x n) entities)

abbrev pub key_type : List (List ℕ) → WrittenType → KeyType
key_type entities k.Int = type.Int
key_type entities k.Text = type.Text
key_type entities (k.Entity n) = type.Id (entity_number entities n)

abbrev pub key_types : List (List ℕ) → List Key → List KeyType
key_types entities keys = map (λ (k : Key). key_type entities k.of) keys

abbrev pub property : Owner → List KeyType → WrittenProperty → Property
property owner keys p = record { name = p.name; owner = owner; cell = p.cell; keys = keys }

abbrev pub globals_in : Declaration → List Property
globals_in (d.Global p) = property owner.Global [] p ∷ []
globals_in (d.Array n keys properties) = []
globals_in (d.Entity n keys properties) = []

-- the properties of an array have its keys, and those of an entity its id
abbrev pub owned_in : List (List ℕ) → Declaration → List Property
owned_in entities (d.Global p) = []
owned_in entities (d.Array n keys properties) = map (property (owner.Array n) (key_types entities keys)) properties
owned_in entities (d.Entity n keys properties) = map (property (owner.Entity (entity_number entities n)) (type.Id (entity_number entities n) ∷ [])) properties

abbrev pub entities_in : List (List ℕ) → Declaration → List Entity
entities_in entities (d.Global p) = []
entities_in entities (d.Array n keys properties) = []
entities_in entities (d.Entity n keys properties) = record { name = n; keys = key_types entities keys } ∷ []

-- first all globals, and then the properties of arrays and entities; entities by themselves
abbrev pub schema_of : List Declaration → Schema
schema_of ds = record {
  properties = flat_map globals_in ds ++ flat_map (owned_in (entity_names ds)) ds;
  entities = flat_map (entities_in (entity_names ds)) ds;
}
