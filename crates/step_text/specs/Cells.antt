-- How cells, updates and queries are printed.
use Rattle.std.specs.Prelude.{ℕ, List, [], ◌∷◌, ◌++◌, Option, None, Some, slice_get, codes}
use Rattle.std.specs.Fmt.{signed_decimal}
use Rattle.cloud_base.specs.declared.key.Key.{Key}
use Rattle.cloud_base.specs.declared.schema.Entity.{Entity}
use Rattle.cloud_base.specs.declared.schema.Owner.{Owner}
use Rattle.cloud_base.specs.declared.schema.Property.{Property}
use Rattle.cloud_base.specs.declared.schema.Schema.{Schema}
use Rattle.cloud_base.specs.declared.update.CellChange.{CellChange}
use Rattle.cloud_base.specs.declared.update.Query.{Query}
use Rattle.cloud_base.specs.declared.update.Update.{Update}
use Rattle.step_text.specs.Values.{quoted, id_text, keys_text}

abbrev pub name_of : Option Entity → List ℕ
name_of None = []
name_of (Some entity) = entity.name

-- the name of the entity with that number, empty where there is none
abbrev pub entity_name : Schema → ℕ → List ℕ
entity_name schema number = name_of (slice_get schema.entities number)

-- `A[k1, k2]`
abbrev pub keyed_text : List ℕ → List Key → List ℕ
keyed_text name keys = name ++ codes "[" ++ keys_text keys ++ codes "]"

-- what stands before the name of a cell's property: nothing, `A[k1, k2].` or `E[@0.1].`
abbrev pub cell_owner_text : Schema → Owner → List Key → List ℕ
cell_owner_text schema Owner.Global keys = []
cell_owner_text schema (Owner.Array array) keys = keyed_text array keys ++ codes "."
cell_owner_text schema (Owner.Entity entity) keys = keyed_text (entity_name schema entity) keys ++ codes "."

abbrev pub cell_of : Schema → List Key → Option Property → List ℕ
cell_of schema keys None = []
cell_of schema keys (Some property) = cell_owner_text schema property.owner keys ++ property.name

-- a cell of the property with that number: `g`, `A[k1, k2].p` or `E[@0.1].p`, empty where there is none
abbrev pub cell_text : Schema → ℕ → List Key → List ℕ
cell_text schema number keys = cell_of schema keys (slice_get schema.properties number)

-- what stands before the name of a property: nothing, `A.` or `E.`
abbrev pub property_owner_text : Schema → Owner → List ℕ
property_owner_text schema Owner.Global = []
property_owner_text schema (Owner.Array array) = array ++ codes "."
property_owner_text schema (Owner.Entity entity) = entity_name schema entity ++ codes "."

abbrev pub property_of : Schema → Option Property → List ℕ
property_of schema None = []
property_of schema (Some property) = property_owner_text schema property.owner ++ property.name

-- the property with that number: `g`, `A.p` or `E.p`, empty where there is none
abbrev pub property_text : Schema → ℕ → List ℕ
property_text schema number = property_of schema (slice_get schema.properties number)

-- an entity with the keys that an id of it is created with: `E`, or `E[k1, k2]`
abbrev pub created_text : List ℕ → List Key → List ℕ
created_text name [] = name
created_text name (key ∷ keys) = keyed_text name (key ∷ keys)

abbrev pub change_text : CellChange → List ℕ
change_text (CellChange.Add number) = codes ".add(" ++ signed_decimal number ++ codes ")"
change_text (CellChange.SetInt number) = codes ".set(" ++ signed_decimal number ++ codes ")"
change_text (CellChange.SetText bytes) = codes ".set(" ++ quoted bytes ++ codes ")"
change_text (CellChange.SetIfEmpty bytes) = codes ".setIfEmpty(" ++ quoted bytes ++ codes ")"

abbrev pub update_text : Schema → Update → List ℕ
update_text schema (Update.Cell property keys change) = cell_text schema property keys ++ change_text change
update_text schema (Update.Create id entity keys) = codes "new " ++ created_text (entity_name schema entity) keys ++ codes " = " ++ id_text id
update_text schema (Update.Delete id) = codes "delete " ++ id_text id

abbrev pub query_text : Schema → Query → List ℕ
query_text schema (Query.Get property keys) = cell_text schema property keys
query_text schema (Query.All entity) = codes "all " ++ entity_name schema entity
query_text schema (Query.Entries property) = codes "entries " ++ property_text schema property
query_text schema (Query.Alive id) = codes "alive " ++ id_text id
