-- How declarations, clients, schedules and programs are read from tokens.
use Rattle.std.specs.Prelude.{ℕ, zero, suc, List, [], ◌∷◌, ◌++◌, length, Option, Some, None}
use Rattle.cloud_base.specs.declared.schema.CellType.{CellType}
use Rattle.cloud_base.specs.declared.schema.CellType.TheVariants as c
use Rattle.cloud_base.specs.declared.schedule.Fate.{Fate}
use Rattle.cloud_base.specs.declared.schedule.Fate.TheVariants as f
use Rattle.source_tokens.specs.declared.terminal.Terminal.TheVariants as t
use Rattle.source_tokens.specs.declared.token.Token.{Token}
use Rattle.source_tokens.specs.declared.token.Token.TheVariants.{Name, Number, Fixed}
use Rattle.source_tree.specs.declared.program.KeyType.{KeyType}
use Rattle.source_tree.specs.declared.program.KeyType.TheVariants as k
use Rattle.source_tree.specs.declared.program.Key.{Key}
use Rattle.source_tree.specs.declared.program.Property.{Property}
use Rattle.source_tree.specs.declared.program.Declaration.{Declaration}
use Rattle.source_tree.specs.declared.program.Declaration.TheVariants as d
use Rattle.source_tree.specs.declared.program.Client.{Client}
use Rattle.source_tree.specs.declared.program.Item.{Item}
use Rattle.source_tree.specs.declared.program.Item.TheVariants as i
use Rattle.source_tree.specs.declared.program.Program.{Program}
use Rattle.source_tree.specs.declared.statement.Statement.{Statement}
use Rattle.source_reader.specs.Reading.{Reads, ◌>>=◌, behind, name_at}
use Rattle.source_reader.specs.Bodies.{block_at}

unfoldable pub cell_at : List Token → Reads CellType
cell_at (Fixed t.CInt ∷ rest) = Some (c.Int, rest)
cell_at (Fixed t.CString ∷ rest) = Some (c.Text, rest)
cell_at tokens = None

unfoldable pub key_type_at : List Token → Reads KeyType
key_type_at (Fixed t.Int ∷ rest) = Some (k.Int, rest)
key_type_at (Fixed t.String ∷ rest) = Some (k.Text, rest)
key_type_at (Name n ∷ rest) = Some (k.Entity n, rest)
key_type_at tokens = None

unfoldable pub key_at : List Token → Reads Key
key_at tokens = name_at tokens >>= λ n. behind t.Colon n.1 >>= λ ts. key_type_at ts >>= λ of. Some (record { name = n.0; of = of.0 }, of.1)

-- further keys, at most so many, behind those that are there; and the closing bracket
unfoldable pub key_list_by : ℕ → List Key → List Token → Reads (List Key)
key_list_by zero keys tokens = None
key_list_by (suc n) keys tokens = key_at tokens >>= λ key. elim (behind t.Comma key.1) [
  | Some rest ↦ key_list_by n (keys ++ key.0 ∷ []) rest
  | None ↦ behind t.CloseBracket key.1 >>= λ rest. Some (keys ++ key.0 ∷ [], rest)
]

unfoldable pub property_at : List Token → Reads Property
property_at tokens = name_at tokens >>= λ n. behind t.Colon n.1 >>= λ ts. cell_at ts >>= λ of. Some (record { name = n.0; cell = of.0 }, of.1)

-- further properties, at most so many, behind those that are there; and the closing brace
unfoldable pub properties_by : ℕ → List Property → List Token → Reads (List Property)
properties_by zero properties tokens = None
properties_by (suc n) properties tokens = elim (behind t.CloseBrace tokens) [
  | Some rest ↦ Some (properties, rest)
  | None ↦ property_at tokens >>= λ property. elim (behind t.Semicolon property.1) [
    | Some rest ↦ properties_by n (properties ++ property.0 ∷ []) rest
    | None ↦ behind t.CloseBrace property.1 >>= λ rest. Some (properties ++ property.0 ∷ [], rest)
  ]
]

unfoldable pub properties_at : List Token → Reads (List Property)
properties_at tokens = behind t.OpenBrace tokens >>= λ ts. properties_by (length ts) [] ts

-- keys in brackets, if there are any
unfoldable pub entity_keys_at : List Token → Reads (List Key)
entity_keys_at tokens = elim (behind t.OpenBracket tokens) [
  | Some ts ↦ key_list_by (length ts) [] ts
  | None ↦ Some ([], tokens)
]

unfoldable pub global_at : List Token → Reads Declaration
global_at tokens = property_at tokens >>= λ property. behind t.Semicolon property.1 >>= λ rest. Some (d.Global property.0, rest)

unfoldable pub array_at : List Token → Reads Declaration
array_at tokens = name_at tokens >>= λ n. behind t.OpenBracket n.1 >>= λ ts. key_list_by (length ts) [] ts >>= λ keys. properties_at keys.1 >>= λ properties. Some (d.Array n.0 keys.0 properties.0, properties.1)

unfoldable pub entity_at : List Token → Reads Declaration
entity_at tokens = name_at tokens >>= λ n. entity_keys_at n.1 >>= λ keys. properties_at keys.1 >>= λ properties. Some (d.Entity n.0 keys.0 properties.0, properties.1)

unfoldable pub declaration_at : List Token → Reads Declaration
declaration_at (Fixed t.Global ∷ rest) = global_at rest
declaration_at (Fixed t.Array ∷ rest) = array_at rest
declaration_at (Fixed t.Entity ∷ rest) = entity_at rest
declaration_at tokens = None

-- further declarations, at most so many, behind those that are there; and the closing brace
unfoldable pub declared_by : ℕ → List Declaration → List Token → Reads (List Declaration)
declared_by zero declarations tokens = None
declared_by (suc n) declarations tokens = elim (behind t.CloseBrace tokens) [
  | Some rest ↦ Some (declarations, rest)
  | None ↦ declaration_at tokens >>= λ declaration. declared_by n (declarations ++ declaration.0 ∷ []) declaration.1
]

unfoldable pub fate_at : List Token → Reads Fate
fate_at (Fixed t.Pass ∷ rest) = Some (f.Pass, rest)
fate_at (Fixed t.LosePush ∷ rest) = Some (f.LosePush, rest)
fate_at (Fixed t.LoseReply ∷ rest) = Some (f.LoseReply, rest)
fate_at (Fixed t.Twice ∷ rest) = Some (f.Twice, rest)
fate_at (Fixed t.Hold ∷ rest) = Some (f.Hold, rest)
fate_at tokens = None

unfoldable pub number_at : List Token → Reads ℕ
number_at (Number n ∷ rest) = Some (n, rest)
number_at tokens = None

unfoldable pub steps_at : List ℕ → List Token → Reads Item
steps_at name tokens = number_at tokens >>= λ count. behind t.Semicolon count.1 >>= λ rest. Some (i.Steps name count.0, rest)

unfoldable pub serve_at : List Token → Reads Item
serve_at tokens = name_at tokens >>= λ n. fate_at n.1 >>= λ fate. behind t.Semicolon fate.1 >>= λ rest. Some (i.Serve n.0 fate.0, rest)

unfoldable pub item_at : List Token → Reads Item
item_at (Name n ∷ rest) = steps_at n rest
item_at (Fixed t.Serve ∷ rest) = serve_at rest
item_at tokens = None

-- further items, at most so many, behind those that are there; and the closing brace
unfoldable pub items_by : ℕ → List Item → List Token → Reads (List Item)
items_by zero items tokens = None
items_by (suc n) items tokens = elim (behind t.CloseBrace tokens) [
  | Some rest ↦ Some (items, rest)
  | None ↦ item_at tokens >>= λ item. items_by n (items ++ item.0 ∷ []) item.1
]

unfoldable pub client_by : (List Token → Reads (List Statement)) → List Token → Reads Client
client_by block tokens = name_at tokens >>= λ n. block n.1 >>= λ body. Some (record { name = n.0; body = body.0 }, body.1)

-- further clients, at most so many, behind those that are there
unfoldable pub clients_by : ℕ → (List Token → Reads (List Statement)) → List Client → List Token → Reads (List Client)
clients_by zero block clients tokens = Some (clients, tokens)
clients_by (suc n) block clients tokens = elim (behind t.Client tokens) [
  | None ↦ Some (clients, tokens)
  | Some ts ↦ client_by block ts >>= λ client. clients_by n block (clients ++ client.0 ∷ []) client.1
]

-- the schedule, if there is one
unfoldable pub schedule_at : List Token → Reads (Option (List Item))
schedule_at tokens = elim (behind t.Schedule tokens) [
  | None ↦ Some (None, tokens)
  | Some ts ↦ behind t.OpenBrace ts >>= λ ts. items_by (length ts) [] ts >>= λ items. Some (Some items.0, items.1)
]

-- a body of at most a height
unfoldable pub body_of : ℕ → ℕ → List Token → Reads (List Statement)
body_of depth high tokens = block_at depth high tokens >>= λ body. Some (body.0, body.2)

-- where nothing is left
unfoldable pub ended : {A : Type 0} → A → List Token → Option A
ended a [] = Some a
ended a (token ∷ tokens) = None

unfoldable pub schema_at : List Token → Reads (List Declaration)
schema_at tokens = behind t.Schema tokens >>= λ ts. behind t.OpenBrace ts >>= λ ts. declared_by (length ts) [] ts

-- a whole program whose bodies have at most a height
unfoldable pub program_at : ℕ → ℕ → List Token → Option Program
program_at depth high tokens = schema_at tokens >>= λ ds. behind t.Client ds.1 >>= λ ts. client_by (body_of depth high) ts
    >>= λ first. clients_by (length first.1) (body_of depth high) (first.0 ∷ []) first.1 >>= λ clients. schedule_at clients.1
    >>= λ plan. ended (record { declarations = ds.0; clients = clients.0; schedule = plan.0 }) plan.1
