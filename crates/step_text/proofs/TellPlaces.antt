-- The texts of cells tell their properties and keys.
use Rattle.std.proofs.Common.{◌≡◌, ℕ, ◌<◌, List, [], ◌∷◌, ◌++◌, length, drop, codes, Option, Some, None, inl, inr, refl, sym, ap, subst, ◌∙◌, arith, append_assoc}
use Rattle.std.specs.Prelude.{⊤, All, IsTrue, slice_get, MatchOption}
use Rattle.std.proofs.lemmas.Bool.{and_parts, and_from, or_left, false≢true}
use Rattle.std.proofs.lemmas.Option.{slice_get_within, slice_get_cases, get_or_from_slice_get, MatchOption-at_some, MatchOption-at_none}
use Rattle.std.proofs.lemmas.List.Elements.{All-nil, All-cons, All-get_or}
use Rattle.cloud_base.specs.Values.{is_letter, is_digit, is_name_byte, all_name_bytes, IsName}
use Rattle.cloud_base.specs.Shaped.{IsKey, MatchTypes, AreKeys, IsCell, property_at}
use Rattle.cloud_base.specs.declared.key.Key.{Key}
use Rattle.cloud_base.specs.declared.schema.Entity.{Entity}
use Rattle.cloud_base.specs.declared.schema.KeyType.{KeyType}
use Rattle.cloud_base.specs.declared.schema.Owner.{Owner}
use Rattle.cloud_base.specs.declared.schema.Property.{Property}
use Rattle.cloud_base.specs.declared.schema.Schema.{Schema}
use Rattle.step_text.specs.Values.{keys_text}
use Rattle.step_text.specs.Cells.{name_of, entity_name, keyed_text, cell_owner_text, cell_of, cell_text, property_owner_text, property_of, property_text}
use Rattle.step_text.specs.Legible.{Legible, IsOwner, IsProperty}
use Rattle.step_text.proofs.TellValues.{IsWritten, words_tell, key_lists_tell}

pub name_is_word : (name : List ℕ) → IsName name → IsTrue (all_name_bytes name)
name_is_word [] is = refl
name_is_word (b ∷ bytes) is =
    let both = and_parts (is_letter b) (all_name_bytes bytes) is in
    and_from (is_name_byte b) (all_name_bytes bytes) (or_left (is_letter b) (is_digit b) both.0) both.1

pub name_some : (name : List ℕ) → IsName name → 0 < length name
name_some [] is = absurd (false≢true is)
name_some (b ∷ bytes) is = omega arith

key_written : (type : KeyType) (key : Key) → IsKey type key → IsWritten key
key_written KeyType.Int (Key.Int n) is = is
key_written KeyType.Int (Key.Text text) is = absurd is
key_written KeyType.Int (Key.Ref id) is = absurd is
key_written KeyType.Text (Key.Int n) is = absurd is
key_written KeyType.Text (Key.Text text) is = tt
key_written KeyType.Text (Key.Ref id) is = absurd is
key_written (KeyType.Id entity) (Key.Int n) is = absurd is
key_written (KeyType.Id entity) (Key.Text text) is = absurd is
key_written (KeyType.Id entity) (Key.Ref id) is = is

pub keys_written : (types : List KeyType) (keys : List Key) → MatchTypes types keys → All IsWritten keys
keys_written [] [] match = All-nil IsWritten
keys_written [] (key ∷ keys) match = absurd match
keys_written (type ∷ types) [] match = absurd match
keys_written (type ∷ types) (key ∷ keys) match = All-cons IsWritten key keys (key_written type key match.0) (keys_written types keys match.1)

found_written : (found : Option Property) (keys : List Key) → MatchOption found ⊥ (λ p. AreKeys p.keys keys) → All IsWritten keys
found_written None keys h = absurd h
found_written (Some p) keys h = keys_written p.keys keys h.1

pub cell_written : (schema : Schema) (property : ℕ) (keys : List Key) → IsCell schema property keys → All IsWritten keys
cell_written schema property keys h = found_written (property_at schema property) keys h.1

no_keys : (types : List KeyType) (keys : List Key) → types ≡ [] → MatchTypes types keys → keys ≡ []
no_keys [] [] none match = refl
no_keys [] (key ∷ keys) none match = absurd match
no_keys (type ∷ types) keys none match = absurd (cc none)

-- keys in brackets behind a name
pub bracket : (name : List ℕ) (keys : List Key) (r : List ℕ) → keyed_text name keys ++ r ≡ name ++ 91 ∷ (keys_text keys ++ (93 ∷ r))
bracket name keys r = simp append_assoc

pub keyed_tell : (a b : List ℕ) (k l : List Key) (r s : List ℕ) → IsName a → IsName b → All IsWritten k → All IsWritten l → keyed_text a k ++ r ≡ keyed_text b l ++ s → (a ≡ b) × (k ≡ l) × (r ≡ s)
keyed_tell a b k l r s is also written other h =
    let words = words_tell a b (91 ∷ (keys_text k ++ (93 ∷ r))) (91 ∷ (keys_text l ++ (93 ∷ s))) (name_is_word a is) (name_is_word b also) refl refl (sym (bracket a k r) ∙ h ∙ bracket b l s) in
    let keys = key_lists_tell k l r s written other (ap (drop 1) words.1) in
    (words.0, keys.0, keys.1)

-- the name of an owner, where it has one
abbrev pub owner_name : Schema → Owner → Option (List ℕ)
owner_name schema Owner.Global = None
owner_name schema (Owner.Array array) = Some array
owner_name schema (Owner.Entity entity) = Some (entity_name schema entity)

abbrev pub IsNamed : Option (List ℕ) → Type 0
IsNamed None = ⊤
IsNamed (Some owner) = IsName owner

-- where there is no owner there are no keys
abbrev pub IsKeyed : Option (List ℕ) → List Key → Type 0
IsKeyed None keys = keys ≡ []
IsKeyed (Some owner) keys = ⊤

abbrev pub named_cell : Option (List ℕ) → List Key → List ℕ → List ℕ
named_cell None keys name = name
named_cell (Some owner) keys name = keyed_text owner keys ++ codes "." ++ name

abbrev pub named_property : Option (List ℕ) → List ℕ → List ℕ
named_property None name = name
named_property (Some owner) name = owner ++ codes "." ++ name

cell_by_owner : (schema : Schema) (owner : Owner) (keys : List Key) (name : List ℕ) → cell_owner_text schema owner keys ++ name ≡ named_cell (owner_name schema owner) keys name
cell_by_owner schema Owner.Global keys name = refl
cell_by_owner schema (Owner.Array array) keys name = refl
cell_by_owner schema (Owner.Entity entity) keys name = refl

property_by_owner : (schema : Schema) (owner : Owner) (name : List ℕ) → property_owner_text schema owner ++ name ≡ named_property (owner_name schema owner) name
property_by_owner schema Owner.Global name = refl
property_by_owner schema (Owner.Array array) name = refl
property_by_owner schema (Owner.Entity entity) name = refl

pub entity_is_name : (schema : Schema) (names : List (List ℕ)) (number : ℕ) → Legible schema names → number < length schema.entities → IsName (entity_name schema number)
entity_is_name schema names number legible within = elim (slice_get_cases schema.entities number).1 [
  | inl there ↦
      let named = All-get_or (λ (entity : Entity). IsName entity.name) schema.entities number there.0 within legible.entities in
      subst (λ (o : Option Entity). IsName (name_of o)) (sym there.2) (subst (λ (entity : Entity). IsName entity.name) there.3 named)
  | inr past ↦ absurd (omega (arith, past.0))
]

owner_named : (schema : Schema) (names : List (List ℕ)) (owner : Owner) (types : List KeyType) → Legible schema names → IsOwner schema owner types → IsNamed (owner_name schema owner)
owner_named schema names Owner.Global types legible is = tt
owner_named schema names (Owner.Array array) types legible is = is
owner_named schema names (Owner.Entity entity) types legible is = entity_is_name schema names entity legible is

owner_keyed : (schema : Schema) (owner : Owner) (types : List KeyType) (keys : List Key) → IsOwner schema owner types → MatchTypes types keys → IsKeyed (owner_name schema owner) keys
owner_keyed schema Owner.Global types keys is match = no_keys types keys is match
owner_keyed schema (Owner.Array array) types keys is match = tt
owner_keyed schema (Owner.Entity entity) types keys is match = tt

-- a property that is there, as it is printed
pub record Place (schema : Schema) (number : ℕ) : Type 0 where
  pub owner : Option (List ℕ)
  pub name : List ℕ
  pub within : number < length schema.properties
  pub owner_is_named : IsNamed owner
  pub is_named : IsName name
  pub property : property_text schema number ≡ named_property owner name
  pub cell : (keys : List Key) → cell_text schema number keys ≡ named_cell owner keys name
  pub keyed : (keys : List Key) → IsCell schema number keys → IsKeyed owner keys
  pub written : (keys : List Key) → IsCell schema number keys → All IsWritten keys

place_at : (schema : Schema) (names : List (List ℕ)) (number : ℕ) (property : Property) → Legible schema names → slice_get schema.properties number ≡ Some property → Place schema number
place_at schema names number property legible at =
    let within = slice_get_within schema.properties number property at in
    let all = All-get_or (IsProperty schema) schema.properties number property within legible.properties in
    let is : IsProperty schema property = subst (IsProperty schema) (get_or_from_slice_get schema.properties number property property at) all in
    let keys_are : (keys : List Key) → IsCell schema number keys → AreKeys property.keys keys = λ keys shaped. MatchOption-at_some ⊥ (λ (p : Property). AreKeys p.keys keys) property at shaped.1 in
    record {
      owner = owner_name schema property.owner;
      name = property.name;
      within = within;
      owner_is_named = owner_named schema names property.owner property.keys legible is.1;
      is_named = is.0;
      property = ap (property_of schema) at ∙ property_by_owner schema property.owner property.name;
      cell = λ keys. ap (cell_of schema keys) at ∙ cell_by_owner schema property.owner keys property.name;
      keyed = λ keys shaped. owner_keyed schema property.owner property.keys keys is.1 (keys_are keys shaped).1;
      written = cell_written schema number;
    }

pub place : (schema : Schema) (names : List (List ℕ)) (number : ℕ) → Legible schema names → number < length schema.properties → Place schema number
place schema names number legible within = elim (slice_get_cases schema.properties number).1 [
  | inl there ↦ place_at schema names number there.0 legible there.2
  | inr past ↦ absurd (omega (arith, past.0))
]

pub cell_place : (schema : Schema) (names : List (List ℕ)) (number : ℕ) (keys : List Key) → Legible schema names → IsCell schema number keys → Place schema number
cell_place schema names number keys legible shaped = elim (slice_get_cases schema.properties number).1 [
  | inl there ↦ place_at schema names number there.0 legible there.2
  | inr past ↦ absurd (MatchOption-at_none ⊥ (λ (p : Property). AreKeys p.keys keys) past.1 shaped.1)
]
