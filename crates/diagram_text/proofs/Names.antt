-- The names of a program are told apart in a report.
use Rattle.std.proofs.Common.{◌≡◌, ◌∙◌, refl, sym, ap, subst, arith, ℕ, zero, suc, ◌<◌, List, [], ◌∷◌, ◌++◌, length, drop, codes, Option, Some, None, inl, inr, append_assoc, get_or}
use Rattle.std.specs.Prelude.{⊤, All, slice_get}
use Rattle.std.specs.List.{AllByRecursion}
use Rattle.std.specs.Option.{option_map_or}
use Rattle.std.proofs.lemmas.List.Elements.{All-from_recursion, recursion_from_All, All-head}
use Rattle.std.proofs.lemmas.Option.{slice_get-get_or, slice_get_cases}
use Rattle.cloud_base.specs.Values.{IsName}
use Rattle.cloud_base.specs.Shaped.{AreKeyTypes, AreOwnersKeys, IsKeyType, entity_at, property_at}
use Rattle.cloud_base.specs.declared.schema.Entity.{Entity}
use Rattle.cloud_base.specs.declared.schema.KeyType.{KeyType}
use Rattle.cloud_base.specs.declared.schema.Owner.{Owner}
use Rattle.cloud_base.specs.declared.schema.Property.{Property}
use Rattle.cloud_base.specs.declared.schema.Schema.{Schema}
use Rattle.typed_program.specs.Programs.{IsProgram, HasName, owner_name}
use Rattle.typed_program.specs.declared.program.Parts.{Parts}
use Rattle.step_text.specs.Cells.{entity_name, name_of, property_of, property_owner_text, property_text}
use Rattle.step_text.specs.Legible.{Legible, IsOwner, IsProperty}
use Rattle.step_text.proofs.TellNamed.{names_tell}
use Rattle.step_text.proofs.TellValues.{differ}

abbrev IsNamed : Property → Type 0
IsNamed p = IsName p.name × HasName p.owner

abbrev HasOwnersKeys : Property → Type 0
HasOwnersKeys p = AreOwnersKeys p.owner p.keys

abbrev HasKeyTypes : Schema → Property → Type 0
HasKeyTypes schema p = AreKeyTypes schema p.keys

owner_is : (schema : Schema) (o : Owner) (keys : List KeyType) → HasName o → AreOwnersKeys o keys → AreKeyTypes schema keys → IsOwner schema o keys
owner_is schema Owner.Global keys named owned typed = owned
owner_is schema (Owner.Array name) keys named owned typed = named
owner_is schema (Owner.Entity number) keys named owned typed =
    All-head (IsKeyType schema) (KeyType.Id number) [] (subst (All (IsKeyType schema)) owned typed.1)

properties_are : (schema : Schema) (ps : List Property) → AllByRecursion IsNamed ps → AllByRecursion HasOwnersKeys ps → AllByRecursion (HasKeyTypes schema) ps → AllByRecursion (IsProperty schema) ps
properties_are schema [] named owned typed = tt
properties_are schema (p ∷ ps) named owned typed = ((named.0.0, owner_is schema p.owner p.keys named.0.1 owned.0 typed.0), properties_are schema ps named.1 owned.1 typed.1)

-- what stands before a property's name, by the owner's name
abbrev before : Option (List ℕ) → List ℕ
before None = []
before (Some name) = name ++ codes "."

found_name : (o : Option Entity) → name_of o ≡ option_map_or (λ (e : Entity). e.name) o []
found_name None = refl
found_name (Some e) = refl

owner_text : (schema : Schema) (o : Owner) → property_owner_text schema o ≡ before (owner_name schema o)
owner_text schema Owner.Global = refl
owner_text schema (Owner.Array name) = refl
owner_text schema (Owner.Entity number) = ap (λ (n : List ℕ). n ++ codes ".") (found_name (slice_get schema.entities number))

abbrev MayBeName : Option (List ℕ) → Type 0
MayBeName None = ⊤
MayBeName (Some name) = IsName name

line_end : (a r : List ℕ) → (a ++ codes ".") ++ (r ++ codes "\n") ≡ a ++ 46 ∷ (r ++ 10 ∷ [])
line_end a r = append_assoc a (46 ∷ []) (r ++ 10 ∷ [])

ended : {x y : List ℕ} → x ≡ y → x ++ codes "\n" ≡ y ++ codes "\n"
ended h = ap (λ (t : List ℕ). t ++ codes "\n") h

-- a name with a name before it tells both
parts_tell : (o w : Option (List ℕ)) (p q : List ℕ) → MayBeName o → MayBeName w → IsName p → IsName q → before o ++ p ≡ before w ++ q → (o ≡ w) × (p ≡ q)
parts_tell None None p q named also is too h = (refl, h)
parts_tell None (Some b) p q named also is too h =
    absurd (differ 0 (10 ∷ []) (46 ∷ (q ++ 10 ∷ [])) (names_tell p b 10 46 [] (q ++ 10 ∷ []) is also refl refl (ended h ∙ append_assoc (b ++ codes ".") q (codes "\n") ∙ line_end b q)).1 refl)
parts_tell (Some a) None p q named also is too h =
    absurd (differ 0 (10 ∷ []) (46 ∷ (p ++ 10 ∷ [])) (names_tell q a 10 46 [] (p ++ 10 ∷ []) too named refl refl (ended (sym h) ∙ append_assoc (a ++ codes ".") p (codes "\n") ∙ line_end a p)).1 refl)
parts_tell (Some a) (Some b) p q named also is too h =
    let both = names_tell a b 46 46 p q named also refl refl (sym (append_assoc a (46 ∷ []) p) ∙ h ∙ append_assoc b (46 ∷ []) q) in
    (ap Some both.0, ap (drop 1) both.1)

-- the property with a number
record PropertyAt (schema : Schema) (a : ℕ) : Type 0 where
  property : Property
  there : property_at schema a ≡ Some property
  text : property_text schema a ≡ before (owner_name schema property.owner) ++ property.name
  is : IsName property.name
  owned : MayBeName (owner_name schema property.owner)

at_head : {X : Type 0} (P : X → Type 0) (xs : List X) (a : ℕ) (x : X) → AllByRecursion P xs → slice_get xs a ≡ Some x → P x
at_head P [] a x all there = absurd (cc there)
at_head P (y ∷ xs) zero x all there = let same : y ≡ x = cc there in subst P same all.0
at_head P (y ∷ xs) (suc a) x all there = at_head P xs a x all.1 there

entity_named : (schema : Schema) (number : ℕ) → AllByRecursion (λ (e : Entity). IsName e.name) schema.entities → number < length schema.entities → IsName (option_map_or (λ (e : Entity). e.name) (entity_at schema number) [])
entity_named schema number all within = elim (slice_get_cases schema.entities number).1 [
  | inl there ↦ subst (λ (o : Option Entity). IsName (option_map_or (λ (e : Entity). e.name) o [])) (sym there.2) (at_head (λ (e : Entity). IsName e.name) schema.entities number there.0 all there.2)
  | inr past ↦ absurd (omega (arith, past.0))
]

owner_named : (schema : Schema) (o : Owner) (keys : List KeyType) → AllByRecursion (λ (e : Entity). IsName e.name) schema.entities → HasName o → IsOwner schema o keys → MayBeName (owner_name schema o)
owner_named schema Owner.Global keys all named is = tt
owner_named schema (Owner.Array name) keys all named is = named
owner_named schema (Owner.Entity number) keys all named is = entity_named schema number all is

property_there : (schema : Schema) (a : ℕ) → AllByRecursion IsNamed schema.properties → AllByRecursion (IsProperty schema) schema.properties → AllByRecursion (λ (e : Entity). IsName e.name) schema.entities → a < length schema.properties → PropertyAt schema a
property_there schema a named are entities within = elim (slice_get_cases schema.properties a).1 [
  | inl there ↦
      let p : Property = there.0 in
      let its : IsNamed p = at_head IsNamed schema.properties a p named there.2 in
      record {
        property = p;
        there = there.2;
        text = ap (property_of schema) there.2 ∙ ap (λ (t : List ℕ). t ++ p.name) (owner_text schema p.owner);
        is = its.0;
        owned = owner_named schema p.owner p.keys entities its.1 (at_head (IsProperty schema) schema.properties a p are there.2).1;
      }
  | inr past ↦ absurd (omega (arith, past.0))
]

entity_there : (schema : Schema) (a : ℕ) → a < length schema.entities → (e : Entity) × (entity_at schema a ≡ Some e) × (entity_name schema a ≡ e.name)
entity_there schema a within = elim (slice_get_cases schema.entities a).1 [
  | inl there ↦ (there.0, there.2, ap name_of there.2)
  | inr past ↦ absurd (omega (arith, past.0))
]

pub legible : (p : Parts) → IsProgram p → Legible p.schema p.names
legible p is =
    let named : AllByRecursion IsNamed p.schema.properties = recursion_from_All IsNamed p.schema.properties is.told.properties in
    let owned : AllByRecursion HasOwnersKeys p.schema.properties = recursion_from_All HasOwnersKeys p.schema.properties is.schema.owners_keys in
    let typed : AllByRecursion (HasKeyTypes p.schema) p.schema.properties = recursion_from_All (HasKeyTypes p.schema) p.schema.properties is.schema.property_keys in
    let are : AllByRecursion (IsProperty p.schema) p.schema.properties = properties_are p.schema p.schema.properties named owned typed in
    let entities : AllByRecursion (λ (e : Entity). IsName e.name) p.schema.entities = recursion_from_All (λ (e : Entity). IsName e.name) p.schema.entities is.told.entities in
    record {
      properties = All-from_recursion (IsProperty p.schema) p.schema.properties are;
      entities = is.told.entities;
      clients = is.names;
      properties_differ = λ a b la lb same.
          let x : PropertyAt p.schema a = property_there p.schema a named are entities la in
          let y : PropertyAt p.schema b = property_there p.schema b named are entities lb in
          let both = parts_tell (owner_name p.schema x.property.owner) (owner_name p.schema y.property.owner) x.property.name y.property.name x.owned y.owned x.is y.is (sym x.text ∙ same ∙ y.text) in
          is.told.properties_differ a b x.property y.property x.there y.there both.0 both.1;
      entities_differ = λ a b la lb same.
          let x = entity_there p.schema a la in
          let y = entity_there p.schema b lb in
          is.told.entities_differ a b x.0 y.0 x.1 y.1 (sym x.2 ∙ same ∙ y.2);
      clients_differ = λ a b la lb same.
          let there : slice_get p.names b ≡ Some (get_or p.names b []) = slice_get-get_or p.names b [] lb in
          is.names_differ a b (get_or p.names b []) (slice_get-get_or p.names a [] la ∙ ap Some same) there;
    }
