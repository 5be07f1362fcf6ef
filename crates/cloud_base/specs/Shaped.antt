-- Updates, queries and answers of a schema's shape, and fit logs.
use Rattle.std.specs.Prelude.{◌≡◌, refl, true, pos, ℕ, ◌≤◌, ◌<◌, ◌^◌, ⊤, List, [], ◌∷◌, length, All, Contains, Option, MatchOption, slice_get, FitsSigned}
use Rattle.std.specs.Int.{w64}
use Rattle.std.specs.Option.{option_map_or}
use Rattle.std.proofs.Common.{sym, ap, lit<, lit≤, le→leb, lt→ltb}
use Rattle.std.proofs.Math.Nat.{suc-ne-zero, not-suc-le-zero}
use Rattle.std.proofs.lemmas.List.Elements.{All-nil, All-cons, All-head}
use Rattle.cloud_base.specs.declared.schema.Owner.{Owner}
use Rattle.cloud_base.specs.declared.schema.Owner.TheVariants.{Global, Array, Entity as EntityOwner}
use Rattle.cloud_base.specs.Values.{Id, IsPrintable, IsText, most_clients, most_keys}
use Rattle.cloud_base.specs.Log.{created}
use Rattle.cloud_base.specs.PlainCell.{ValueKind, Number, Words, value_kind}
use Rattle.cloud_base.specs.declared.key.Key.{Key}
use Rattle.cloud_base.specs.declared.key.Key.TheVariants.{Int as IntKey, Text as TextKey, Ref}
use Rattle.cloud_base.specs.declared.schema.CellType.{CellType}
use Rattle.cloud_base.specs.declared.schema.CellType.TheVariants.{Int as IntCell, Text as TextCell}
use Rattle.cloud_base.specs.declared.schema.KeyType.{KeyType}
use Rattle.cloud_base.specs.declared.schema.KeyType.TheVariants.{Int as IntType, Text as TextType, Id as IdType}
use Rattle.cloud_base.specs.declared.schema.Property.{Property}
use Rattle.cloud_base.specs.declared.schema.Entity.{Entity}
use Rattle.cloud_base.specs.declared.schema.Schema.{Schema}
use Rattle.cloud_base.specs.declared.update.CellChange.{CellChange}
use Rattle.cloud_base.specs.declared.update.CellChange.TheVariants.{Add, SetInt, SetText, SetIfEmpty}
use Rattle.cloud_base.specs.declared.update.Update.{Update}
use Rattle.cloud_base.specs.declared.update.Update.TheVariants.{Cell, Create, Delete}
use Rattle.cloud_base.specs.declared.update.Query.{Query}
use Rattle.cloud_base.specs.declared.update.Query.TheVariants.{Get, All as AllOf, Entries, Alive}
use Rattle.cloud_base.specs.declared.update.Answer.{Answer}
use Rattle.cloud_base.specs.declared.update.Answer.TheVariants.{Int, Text, Truth, Id as IdAnswer, Ids, Tuples}
use Rattle.cloud_base.specs.declared.update.Event.{Event}
use Rattle.cloud_base.specs.declared.update.Event.TheVariants.{Do, Ask, Say, Yield, Flush}

-- an id as the program can hold it
abbrev pub IsId : Id → Type 0
IsId id = (id.client < most_clients) × (id.serial < 2 ^ 32)

-- a key of a type. Which entity an id is of, the log tells
abbrev pub IsKey : KeyType → Key → Type 0
IsKey IntType (IntKey n) = FitsSigned w64 n
IsKey TextType (TextKey text) = IsText text
IsKey (IdType entity) (Ref id) = IsId id
IsKey _ _ = ⊥

-- one key of each type, in order
abbrev pub MatchTypes : List KeyType → List Key → Type 0
MatchTypes [] [] = ⊤
MatchTypes [] (key ∷ keys) = ⊥
MatchTypes (type ∷ types) [] = ⊥
MatchTypes (type ∷ types) (key ∷ keys) = IsKey type key × MatchTypes types keys

abbrev pub AreKeys : List KeyType → List Key → Type 0
AreKeys types keys = (length keys ≤ most_keys) × MatchTypes types keys

-- a change of a cell of a type
abbrev pub IsChange : CellType → CellChange → Type 0
IsChange IntCell (Add n) = FitsSigned w64 n
IsChange IntCell (SetInt n) = FitsSigned w64 n
IsChange TextCell (SetText text) = IsText text
IsChange TextCell (SetIfEmpty text) = IsText text
IsChange _ _ = ⊥

-- a value of a kind
abbrev pub IsOfKind : ValueKind → Answer → Type 0
IsOfKind Number (Int n) = FitsSigned w64 n
IsOfKind Words (Text text) = IsText text
IsOfKind _ _ = ⊥

-- a value of a cell of a type
abbrev pub IsValue : CellType → Answer → Type 0
IsValue type value = IsOfKind (value_kind type) value

-- the property and the entity of a number, where the schema has it
abbrev pub property_at : Schema → ℕ → Option Property
property_at schema number = slice_get schema.properties number

abbrev pub entity_at : Schema → ℕ → Option Entity
entity_at schema number = slice_get schema.entities number

-- the type of a property's cells; a number without a property counts as one of integer cells
abbrev pub cell_type : Schema → ℕ → CellType
cell_type schema property = option_map_or (λ p. p.cell) (property_at schema property) IntCell

-- the keys of a cell of a property
abbrev pub IsCell : Schema → ℕ → List Key → Type 0
IsCell schema property keys = (property < 2 ^ 16) × MatchOption (property_at schema property) ⊥ (λ p. AreKeys p.keys keys)

-- an update of the schema's shape
abbrev pub IsShaped : Schema → Update → Type 0
IsShaped schema (Cell property keys change) = IsCell schema property keys × IsChange (cell_type schema property) change
IsShaped schema (Create id entity keys) = IsId id × (entity < 2 ^ 16) × MatchOption (entity_at schema entity) ⊥ (λ e. AreKeys e.keys keys)
IsShaped schema (Delete id) = IsId id

-- a query of the schema's shape
abbrev pub IsShapedQuery : Schema → Query → Type 0
IsShapedQuery schema (Get property keys) = IsCell schema property keys
IsShapedQuery schema (AllOf entity) = (entity < 2 ^ 16) × (entity < length schema.entities)
IsShapedQuery schema (Entries property) = (property < 2 ^ 16) × (property < length schema.properties)
IsShapedQuery schema (Alive id) = IsId id

-- an answer of the shape that the query asks for
abbrev pub IsShapedAnswer : Schema → Query → Answer → Type 0
IsShapedAnswer schema (Get property keys) answer = IsValue (cell_type schema property) answer
IsShapedAnswer schema (AllOf entity) (Ids ids) = All IsId ids
IsShapedAnswer schema (Entries property) (Tuples tuples) = All (IsCell schema property) tuples
IsShapedAnswer schema (Alive id) (Truth b) = ⊤
IsShapedAnswer schema _ _ = ⊥

-- a value that may be printed: any but a list
abbrev pub IsSaid : Answer → Type 0
IsSaid (Int n) = FitsSigned w64 n
IsSaid (Text text) = IsText text
IsSaid (Truth b) = ⊤
IsSaid (IdAnswer id) = IsId id
IsSaid (Ids ids) = ⊥
IsSaid (Tuples tuples) = ⊥

-- an event of the schema's shape
abbrev pub IsShapedEvent : Schema → Event → Type 0
IsShapedEvent schema (Do update) = IsShaped schema update
IsShapedEvent schema (Ask query answer) = IsShapedQuery schema query × IsShapedAnswer schema query answer
IsShapedEvent schema (Say answer) = IsSaid answer
IsShapedEvent schema Yield = ⊤
IsShapedEvent schema Flush = ⊤

-- no member twice
abbrev pub NoRepeat : {A : Type 0} → List A → Type 0
NoRepeat [] = ⊤
NoRepeat (x ∷ xs) = (¬ Contains xs x) × NoRepeat xs

-- no member of both
abbrev pub Disjoint : {A : Type 0} → List A → List A → Type 0
Disjoint {A} xs ys = (x : A) → Contains xs x → ¬ Contains ys x

-- no id is created twice
abbrev pub CreatedOnce : List Update → Type 0
CreatedOnce log = NoRepeat (created log)

-- a log of the schema's shape that creates no id twice
pub record Fit (schema : Schema) (log : List Update) : Type 0 where
  pub shaped : All (IsShaped schema) log
  pub once : CreatedOnce log

-- a type of key; an id is of an entity that the schema has
abbrev pub IsKeyType : Schema → KeyType → Type 0
IsKeyType schema IntType = ⊤
IsKeyType schema TextType = ⊤
IsKeyType schema (IdType entity) = entity < length schema.entities

abbrev pub AreKeyTypes : Schema → List KeyType → Type 0
AreKeyTypes schema types = (length types ≤ most_keys) × All (IsKeyType schema) types

-- the keys that the owner gives a property: a global has none, an array its own, and an entity the one id
abbrev pub AreOwnersKeys : Owner → List KeyType → Type 0
AreOwnersKeys Global types = types ≡ []
AreOwnersKeys (Array name) types = ⊤
AreOwnersKeys (EntityOwner entity) types = types ≡ IdType entity ∷ []

-- a schema that a source may declare: each key has a type, and each property the keys of its owner
pub record IsSchema (schema : Schema) : Type 0 where
  pub few_properties : length schema.properties ≤ 256
  pub few_entities : length schema.entities ≤ 256
  pub property_keys : All (λ property. AreKeyTypes schema property.keys) schema.properties
  pub owners_keys : All (λ property. AreOwnersKeys property.owner property.keys) schema.properties
  pub entity_keys : All (λ entity. AreKeyTypes schema entity.keys) schema.entities

module _ where
  abbrev seats : Schema
  seats = record { properties = record { name = 119 ∷ []; owner = Array (83 ∷ []); cell = TextCell; keys = IntType ∷ [] } ∷ []; entities = [] }

  pub example_shaped : IsShaped seats (Cell 0 (IntKey (pos 1) ∷ []) (SetText []))
  example_shaped = ((lit< tt, (lit≤ tt, (record { sfits = lit< tt }, tt))), (lit≤ tt, All-nil IsPrintable))

  -- neither another type of key, nor another number of keys, nor another type's change
  pub example_no_shape : (¬ IsShaped seats (Cell 0 (TextKey [] ∷ []) (SetText []))) × (¬ IsShaped seats (Cell 0 [] (SetText []))) × (¬ IsShaped seats (Cell 0 (IntKey (pos 1) ∷ []) (Add (pos 1)))) × ¬ IsShaped seats (Cell 1 (IntKey (pos 1) ∷ []) (SetText []))
  example_no_shape = (λ h. h.0.1.1.0, λ h. h.0.1.1, λ h. h.1, λ h. h.0.1)

  abbrev first : Id
  first = record { client = 0; serial = 0 }

  -- a seat may be asked for, a property that isn't there not; a seat's value is a text and no integer
  pub example_asked : IsShapedQuery seats (Get 0 (IntKey (pos 1) ∷ [])) × (¬ IsShapedQuery seats (Entries 1)) × IsShapedAnswer seats (Alive first) (Truth true) × IsShapedAnswer seats (Get 0 (IntKey (pos 1) ∷ [])) (Text []) × ¬ IsShapedAnswer seats (Get 0 (IntKey (pos 1) ∷ [])) (Int (pos 1))
  example_asked = ((lit< tt, (lit≤ tt, (record { sfits = lit< tt }, tt))), λ h. lt→ltb 1 1 h.1, tt, (lit≤ tt, All-nil IsPrintable), λ h. h)

  -- a truth value may be printed, and a list of ids may not
  pub example_said : IsSaid (Truth true) × (¬ IsSaid (Ids []))
  example_said = (tt, λ h. h)

  -- a seat that is asked for isn't an integer, and a list may be answered but not printed
  pub example_events : IsShapedEvent seats (Do (Cell 0 (IntKey (pos 1) ∷ []) (SetText []))) × IsShapedEvent seats (Ask (Entries 0) (Tuples [])) × (¬ IsShapedEvent seats (Ask (Get 0 (IntKey (pos 1) ∷ [])) (Int (pos 1)))) × ¬ IsShapedEvent seats (Say (Tuples []))
  example_events = (example_shaped, ((lit< tt, lit< tt), All-nil (IsCell seats 0)), λ h. h.1, λ h. h)

  abbrev kept_by : Owner → List KeyType → Property
  kept_by owner types = record { name = 119 ∷ []; owner = owner; cell = TextCell; keys = types }

  abbrev customer : Entity
  customer = record { name = 67 ∷ []; keys = [] }

  abbrev schema_of : Property → Schema
  schema_of property = record { properties = property ∷ []; entities = customer ∷ [] }

  alone : {A : Type 0} (P : A → Type 0) (x : A) → P x → All P (x ∷ [])
  alone P x h = All-cons P x [] h (All-nil P)

  abbrev of_customers : Schema
  of_customers = schema_of (kept_by (EntityOwner 0) (IdType 0 ∷ []))

  -- a text of each customer
  pub example_schema : IsSchema of_customers
  example_schema = record {
    few_properties = lit≤ tt;
    few_entities = lit≤ tt;
    property_keys = alone (λ (p : Property). AreKeyTypes of_customers p.keys) (kept_by (EntityOwner 0) (IdType 0 ∷ [])) (lit≤ tt, alone (IsKeyType of_customers) (IdType 0) (lit< tt));
    owners_keys = alone (λ (p : Property). AreOwnersKeys p.owner p.keys) (kept_by (EntityOwner 0) (IdType 0 ∷ [])) refl;
    entity_keys = alone (λ (e : Entity). AreKeyTypes of_customers e.keys) customer (lit≤ tt, All-nil (IsKeyType of_customers));
  }

  -- a global with a key, a text kept by another entity's id, and keys too many or of an entity that isn't there
  pub example_no_schema : (¬ IsSchema (schema_of (kept_by Global (IntType ∷ [])))) × (¬ IsSchema (schema_of (kept_by (EntityOwner 1) (IdType 0 ∷ [])))) × (¬ IsSchema (schema_of (kept_by (Array (83 ∷ [])) (IdType 1 ∷ [])))) × ¬ IsSchema (schema_of (kept_by (Array (83 ∷ [])) (IntType ∷ IntType ∷ IntType ∷ IntType ∷ [])))
  example_no_schema = (
    λ h. suc-ne-zero 0 (ap length (owned h)),
    λ h. suc-ne-zero 0 (sym (ap entity_of (owned h))),
    λ h. lt→ltb 1 1 (All-head (IsKeyType (schema_of (kept_by (Array (83 ∷ [])) (IdType 1 ∷ [])))) (IdType 1) [] (typed h).1),
    λ h. le→leb 4 3 (typed h).0,
  )
    where
      entity_of : List KeyType → ℕ
      entity_of (IdType entity ∷ types) = entity
      entity_of _ = 0

      owned : {p : Property} → IsSchema (schema_of p) → AreOwnersKeys p.owner p.keys
      owned {p = p} h = All-head (λ (q : Property). AreOwnersKeys q.owner q.keys) p [] h.owners_keys

      typed : {p : Property} → IsSchema (schema_of p) → AreKeyTypes (schema_of p) p.keys
      typed {p = p} h = All-head (λ (q : Property). AreKeyTypes (schema_of p) q.keys) p [] h.property_keys

  -- nothing is a member of the empty list, and an id is a member of both lists that have it
  pub example_disjoint : Disjoint (first ∷ []) [] × ¬ Disjoint (first ∷ []) (first ∷ [])
  example_disjoint = (λ x h k. not-suc-le-zero k.1, λ h. h first (0, lit< tt, refl) (0, lit< tt, refl))

  -- a log with one seat taken is fit, and one that creates an id twice isn't
  pub example_fit : Fit seats (Cell 0 (IntKey (pos 1) ∷ []) (SetText []) ∷ []) × ¬ CreatedOnce (Create first 0 [] ∷ Create first 0 [] ∷ [])
  example_fit = (record { shaped = All-cons (IsShaped seats) (Cell 0 (IntKey (pos 1) ∷ []) (SetText [])) [] example_shaped (All-nil (IsShaped seats)); once = tt }, λ h. h.0 (0, lit< tt, refl))
