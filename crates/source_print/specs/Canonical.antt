-- The canonical text of a program.
use Rattle.std.specs.Prelude.{◌≡◌, refl, ℕ, List, [], ◌∷◌, ◌++◌, map, Option, Some, None, codes, decimal}
use Rattle.std.specs.List.{flat_map}
use Rattle.cloud_base.specs.declared.schema.CellType.{CellType}
use Rattle.cloud_base.specs.declared.schema.CellType.TheVariants as c
use Rattle.cloud_base.specs.declared.schedule.Fate.{Fate}
use Rattle.cloud_base.specs.declared.schedule.Fate.TheVariants as f
use Rattle.source_tree.specs.declared.program.KeyType.{KeyType}
use Rattle.source_tree.specs.declared.program.KeyType.TheVariants as k
use Rattle.source_tree.specs.declared.program.Key.{Key}
use Rattle.source_tree.specs.declared.program.Property.{Property}
use Rattle.source_tree.specs.declared.program.Declaration.{Declaration}
use Rattle.source_tree.specs.declared.program.Declaration.TheVariants as d
use Rattle.source_tree.specs.declared.program.Client.{Client}
use Rattle.source_tree.specs.declared.program.Item.{Item}
use Rattle.source_tree.specs.declared.program.Item.TheVariants as i
use Rattle.source_tree.specs.declared.program.Program.{Program}
use Rattle.source_print.specs.Expressions.{separated}
use Rattle.source_print.specs.Statements.{block_text}

abbrev pub cell_type_text : CellType → List ℕ
cell_type_text c.Int = codes "CInt"
cell_type_text c.Text = codes "CString"

abbrev pub key_type_text : KeyType → List ℕ
key_type_text k.Int = codes "int"
key_type_text k.Text = codes "string"
key_type_text (k.Entity n) = n

-- `k: int`
abbrev pub key_text : Key → List ℕ
key_text key = key.name ++ codes ": " ++ key_type_text key.of

-- keys in brackets, behind the opening one
abbrev pub declared_keys_text : List Key → List ℕ
declared_keys_text keys = separated (codes "]") (map key_text keys)

-- nothing, or `[k: int, e: E]`
abbrev pub entity_keys_text : List Key → List ℕ
entity_keys_text [] = []
entity_keys_text (key ∷ keys) = codes "[" ++ declared_keys_text (key ∷ keys)

-- the line of a property
abbrev pub property_text : Property → List ℕ
property_text property = codes "    " ++ property.name ++ codes ": " ++ cell_type_text property.cell ++ codes ";\n"

-- the properties of an array or an entity, with their braces
abbrev pub properties_text : List Property → List ℕ
properties_text properties = codes " {\n" ++ flat_map property_text properties ++ codes "  }\n"

abbrev pub declaration_text : Declaration → List ℕ
declaration_text (d.Global property) = codes "  global " ++ property.name ++ codes " : " ++ cell_type_text property.cell ++ codes ";\n"
declaration_text (d.Array n keys properties) = codes "  array " ++ n ++ codes "[" ++ declared_keys_text keys ++ properties_text properties
declaration_text (d.Entity n keys properties) = codes "  entity " ++ n ++ entity_keys_text keys ++ properties_text properties

abbrev pub client_text : Client → List ℕ
client_text client = codes "client " ++ client.name ++ codes " " ++ block_text [] client.body ++ codes "\n"

abbrev pub fate_text : Fate → List ℕ
fate_text f.Pass = codes " pass"
fate_text f.LosePush = codes " losepush"
fate_text f.LoseReply = codes " losereply"
fate_text f.Twice = codes " twice"
fate_text f.Hold = codes " hold"

-- the line of an item
abbrev pub item_text : Item → List ℕ
item_text (i.Steps n count) = codes "  " ++ n ++ codes " " ++ decimal count ++ codes ";\n"
item_text (i.Serve n fate) = codes "  serve " ++ n ++ fate_text fate ++ codes ";\n"

-- nothing where there is no schedule
abbrev pub schedule_text : Option (List Item) → List ℕ
schedule_text None = []
schedule_text (Some items) = codes "schedule {\n" ++ flat_map item_text items ++ codes "}\n"

-- the schema, the clients, and the schedule where there is one
abbrev pub canonical : Program → List ℕ
canonical program = codes "schema {\n" ++ flat_map declaration_text program.declarations ++ codes "}\n" ++ flat_map client_text program.clients ++ schedule_text program.schedule

pub example_canonical : canonical record {
  declarations = d.Array (codes "A") (record { name = codes "k"; of = k.Int } ∷ []) (record { name = codes "p"; cell = c.Int } ∷ []) ∷ [];
  clients = [];
  schedule = Some (i.Serve (codes "a") f.Pass ∷ []);
} ≡ codes "schema {\n  array A[k: int] {\n    p: CInt;\n  }\n}\nschedule {\n  serve a pass;\n}\n"
example_canonical = refl
