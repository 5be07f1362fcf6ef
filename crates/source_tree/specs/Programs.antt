-- How a program is spelled in tokens.
use Rattle.std.specs.Prelude.{ℕ, List, [], ◌∷◌, ◌++◌, Option, Some, None}
use Rattle.cloud_base.specs.declared.schema.CellType.{CellType}
use Rattle.cloud_base.specs.declared.schema.CellType.TheVariants as c
use Rattle.cloud_base.specs.declared.schedule.Fate.{Fate}
use Rattle.cloud_base.specs.declared.schedule.Fate.TheVariants as f
use Rattle.source_tokens.specs.declared.terminal.Terminal.TheVariants as t
use Rattle.source_tokens.specs.declared.token.Token.{Token}
use Rattle.source_tokens.specs.declared.token.Token.TheVariants.{Name, Number, Fixed}
use Rattle.source_tree.specs.declared.program.KeyType.{KeyType}
use Rattle.source_tree.specs.declared.program.KeyType.TheVariants as k
use Rattle.source_tree.specs.declared.program.Key.{Key}
use Rattle.source_tree.specs.declared.program.Property.{Property}
use Rattle.source_tree.specs.declared.program.Declaration.{Declaration}
use Rattle.source_tree.specs.declared.program.Declaration.TheVariants as d
use Rattle.source_tree.specs.declared.program.Client.{Client}
use Rattle.source_tree.specs.declared.program.Item.{Item}
use Rattle.source_tree.specs.declared.program.Item.TheVariants as i
use Rattle.source_tree.specs.declared.program.Program.{Program}
use Rattle.source_tree.specs.declared.statement.Statement.{Statement}
use Rattle.source_tree.specs.Statements.{SpellsBlock}

-- ctype = "CInt" | "CString"
pub data SpellsCell : CellType → List Token → Type 0 where
  cell_int : SpellsCell c.Int (Fixed t.CInt ∷ [])
  cell_text : SpellsCell c.Text (Fixed t.CString ∷ [])

-- ktype = "int" | "string" | NAME
pub data SpellsKeyType : KeyType → List Token → Type 0 where
  key_int : SpellsKeyType k.Int (Fixed t.Int ∷ [])
  key_text : SpellsKeyType k.Text (Fixed t.String ∷ [])
  key_entity : (n : List ℕ) → SpellsKeyType (k.Entity n) (Name n ∷ [])

-- key = NAME ":" ktype
pub data SpellsKey : Key → List Token → Type 0 where
  key : (n : List ℕ) (of : KeyType) (u : List Token) → SpellsKeyType of u → SpellsKey (record { name = n; of = of }) (Name n ∷ Fixed t.Colon ∷ u)

-- keys = key { "," key }, and the closing bracket
pub data SpellsKeyList : List Key → List Token → Type 0 where
  last_key : (x : Key) (u : List Token) → SpellsKey x u → SpellsKeyList (x ∷ []) (u ++ Fixed t.CloseBracket ∷ [])
  more_keys : (x : Key) (xs : List Key) (u v : List Token) → SpellsKey x u → SpellsKeyList xs v → SpellsKeyList (x ∷ xs) (u ++ Fixed t.Comma ∷ v)

-- [ "[" keys "]" ]
pub data SpellsEntityKeys : List Key → List Token → Type 0 where
  no_keys : SpellsEntityKeys [] []
  some_keys : (xs : List Key) (u : List Token) → SpellsKeyList xs u → SpellsEntityKeys xs (Fixed t.OpenBracket ∷ u)

-- prop = NAME ":" ctype
pub data SpellsProperty : Property → List Token → Type 0 where
  property : (n : List ℕ) (of : CellType) (u : List Token) → SpellsCell of u → SpellsProperty (record { name = n; cell = of }) (Name n ∷ Fixed t.Colon ∷ u)

-- [ prop { ";" prop } [ ";" ] ] "}"
pub data SpellsPropertyList : List Property → List Token → Type 0 where
  no_properties : SpellsPropertyList [] (Fixed t.CloseBrace ∷ [])
  last_property : (x : Property) (u : List Token) → SpellsProperty x u → SpellsPropertyList (x ∷ []) (u ++ Fixed t.CloseBrace ∷ [])
  more_properties : (x : Property) (xs : List Property) (u v : List Token) → SpellsProperty x u → SpellsPropertyList xs v → SpellsPropertyList (x ∷ xs) (u ++ Fixed t.Semicolon ∷ v)

-- props = "{" .. "}"
pub data SpellsProperties : List Property → List Token → Type 0 where
  properties : (xs : List Property) (u : List Token) → SpellsPropertyList xs u → SpellsProperties xs (Fixed t.OpenBrace ∷ u)

-- decl = "global" NAME ":" ctype ";" | "array" NAME "[" keys "]" props | "entity" NAME [ "[" keys "]" ] props
pub data SpellsDeclaration : Declaration → List Token → Type 0 where
  global : (x : Property) (u : List Token) → SpellsProperty x u → SpellsDeclaration (d.Global x) (Fixed t.Global ∷ (u ++ Fixed t.Semicolon ∷ []))
  array : (n : List ℕ) (keys : List Key) (xs : List Property) (u v : List Token) → SpellsKeyList keys u → SpellsProperties xs v
      → SpellsDeclaration (d.Array n keys xs) (Fixed t.Array ∷ Name n ∷ Fixed t.OpenBracket ∷ (u ++ v))
  entity : (n : List ℕ) (keys : List Key) (xs : List Property) (u v : List Token) → SpellsEntityKeys keys u → SpellsProperties xs v
      → SpellsDeclaration (d.Entity n keys xs) (Fixed t.Entity ∷ Name n ∷ (u ++ v))

-- { decl } "}"
pub data SpellsDeclarations : List Declaration → List Token → Type 0 where
  no_declarations : SpellsDeclarations [] (Fixed t.CloseBrace ∷ [])
  more_declarations : (x : Declaration) (xs : List Declaration) (u v : List Token) → SpellsDeclaration x u → SpellsDeclarations xs v → SpellsDeclarations (x ∷ xs) (u ++ v)

-- fate = "pass" | "losepush" | "losereply" | "twice" | "hold"
pub data SpellsFate : Fate → List Token → Type 0 where
  pass : SpellsFate f.Pass (Fixed t.Pass ∷ [])
  lose_push : SpellsFate f.LosePush (Fixed t.LosePush ∷ [])
  lose_reply : SpellsFate f.LoseReply (Fixed t.LoseReply ∷ [])
  twice : SpellsFate f.Twice (Fixed t.Twice ∷ [])
  hold : SpellsFate f.Hold (Fixed t.Hold ∷ [])

-- item = NAME NUMBER ";" | "serve" NAME fate ";"
pub data SpellsItem : Item → List Token → Type 0 where
  steps : (n : List ℕ) (count : ℕ) → SpellsItem (i.Steps n count) (Name n ∷ Number count ∷ Fixed t.Semicolon ∷ [])
  serve : (n : List ℕ) (fate : Fate) (u : List Token) → SpellsFate fate u → SpellsItem (i.Serve n fate) (Fixed t.Serve ∷ Name n ∷ (u ++ Fixed t.Semicolon ∷ []))

-- { item } "}"
pub data SpellsItems : List Item → List Token → Type 0 where
  no_items : SpellsItems [] (Fixed t.CloseBrace ∷ [])
  more_items : (x : Item) (xs : List Item) (u v : List Token) → SpellsItem x u → SpellsItems xs v → SpellsItems (x ∷ xs) (u ++ v)

-- client = "client" NAME block
pub data SpellsClient : Client → List Token → Type 0 where
  client : (n : List ℕ) (body : List Statement) (u : List Token) → SpellsBlock body u → SpellsClient (record { name = n; body = body }) (Fixed t.Client ∷ Name n ∷ u)

-- { client } [ schedule ], where schedule = "schedule" "{" { item } "}"
pub data SpellsClients : List Client → Option (List Item) → List Token → Type 0 where
  no_clients : SpellsClients [] None []
  schedule : (xs : List Item) (u : List Token) → SpellsItems xs u → SpellsClients [] (Some xs) (Fixed t.Schedule ∷ Fixed t.OpenBrace ∷ u)
  more_clients : (x : Client) (xs : List Client) (plan : Option (List Item)) (u v : List Token) → SpellsClient x u → SpellsClients xs plan v → SpellsClients (x ∷ xs) plan (u ++ v)

-- program = schema client { client } [ schedule ], where schema = "schema" "{" { decl } "}"
pub data SpellsProgram : Program → List Token → Type 0 where
  program : (ds : List Declaration) (x : Client) (xs : List Client) (plan : Option (List Item)) (u v w : List Token) → SpellsDeclarations ds u → SpellsClient x v → SpellsClients xs plan w
      → SpellsProgram (record { declarations = ds; clients = x ∷ xs; schedule = plan }) (Fixed t.Schema ∷ Fixed t.OpenBrace ∷ (u ++ (v ++ w)))

-- the tokens spell some program
abbrev pub HasTree : List Token → Type 0
HasTree tokens = (p : Program) × SpellsProgram p tokens
