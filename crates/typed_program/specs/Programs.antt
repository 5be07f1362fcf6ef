-- Programs of checked sources.
use Rattle.std.specs.Prelude.{◌≡◌, ℕ, ◌≤◌, ◌<◌, ⊤, List, [], length, All, Option, Some, None, slice_get}
use Rattle.std.specs.Option.{option_map_or}
use Rattle.cloud_base.specs.Values.{IsName, most_clients}
use Rattle.cloud_base.specs.Shaped.{IsSchema, property_at, entity_at}
use Rattle.cloud_base.specs.declared.schedule.ScheduleItem.{ScheduleItem}
use Rattle.cloud_base.specs.declared.schedule.ScheduleItem.TheVariants as item
use Rattle.cloud_base.specs.declared.schema.Entity.{Entity}
use Rattle.cloud_base.specs.declared.schema.Owner.{Owner}
use Rattle.cloud_base.specs.declared.schema.Owner.TheVariants as owner
use Rattle.cloud_base.specs.declared.schema.Property.{Property}
use Rattle.cloud_base.specs.declared.schema.Schema.{Schema}
use Rattle.typed_program.specs.declared.program.Parts.{Parts}
use Rattle.typed_program.specs.Kinds.{IsBody}

-- the name of an owner; the globals have none
abbrev pub owner_name : Schema → Owner → Option (List ℕ)
owner_name schema owner.Global = None
owner_name schema (owner.Array name) = Some name
owner_name schema (owner.Entity number) = Some (option_map_or (λ (e : Entity). e.name) (entity_at schema number) [])

abbrev pub HasName : Owner → Type 0
HasName owner.Global = ⊤
HasName (owner.Array name) = IsName name
HasName (owner.Entity number) = ⊤

-- what is declared has a name, and different numbers have different names
pub record IsTold (schema : Schema) : Type 0 where
  pub properties : All (λ (p : Property). IsName p.name × HasName p.owner) schema.properties
  pub entities : All (λ (e : Entity). IsName e.name) schema.entities
  pub properties_differ : (a b : ℕ) (p q : Property) → property_at schema a ≡ Some p → property_at schema b ≡ Some q → owner_name schema p.owner ≡ owner_name schema q.owner → p.name ≡ q.name → a ≡ b
  pub entities_differ : (a b : ℕ) (e f : Entity) → entity_at schema a ≡ Some e → entity_at schema b ≡ Some f → e.name ≡ f.name → a ≡ b

-- whose turn an item of a schedule is
abbrev pub item_client : ScheduleItem → ℕ
item_client (item.Steps client count) = client
item_client (item.Serve client fate) = client

-- the program of a checked source
pub record IsProgram (p : Parts) : Type 0 where
  pub schema : IsSchema p.schema
  pub told : IsTold p.schema
  pub some_client : 1 ≤ length p.names
  pub few_clients : length p.names ≤ most_clients
  pub names : All IsName p.names
  pub names_differ : (a b : ℕ) (name : List ℕ) → slice_get p.names a ≡ Some name → slice_get p.names b ≡ Some name → a ≡ b
  pub as_many_bodies : length p.bodies ≡ length p.names
  pub bodies : All (IsBody p.schema) p.bodies
  pub schedule : All (λ item. item_client item < length p.names) p.schedule
