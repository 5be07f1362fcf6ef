-- The names, numbers and texts of a program, in their order, as the tokens that they are.
use Rattle.std.specs.Prelude.{ℕ, List, [], ◌∷◌, ◌++◌, map, Option, Some, None}
use Rattle.std.specs.List.{flat_map}
use Rattle.source_tokens.specs.declared.token.Token.{Token}
use Rattle.source_tokens.specs.declared.token.Token.TheVariants.{Name, Number, Text, Fixed}
use Rattle.source_tree.specs.declared.expression.Expression.{Expression}
use Rattle.source_tree.specs.declared.expression.Expression.TheFolds.{fold-Expression}
use Rattle.source_tree.specs.declared.expression.Expression.TheOpen.{Expression-F}
use Rattle.source_tree.specs.declared.expression.Expression.TheVariants as e
use Rattle.source_tree.specs.declared.expression.Place.{Place}
use Rattle.source_tree.specs.declared.expression.Place.TheVariants as place
use Rattle.source_tree.specs.declared.statement.Statement.{Statement}
use Rattle.source_tree.specs.declared.statement.Statement.TheFolds.{fold-Statement}
use Rattle.source_tree.specs.declared.statement.Statement.TheOpen.{Statement-F}
use Rattle.source_tree.specs.declared.program.KeyType.{KeyType}
use Rattle.source_tree.specs.declared.program.KeyType.TheVariants as k
use Rattle.source_tree.specs.declared.program.Key.{Key}
use Rattle.source_tree.specs.declared.program.Property.{Property}
use Rattle.source_tree.specs.declared.program.Declaration.{Declaration}
use Rattle.source_tree.specs.declared.program.Declaration.TheVariants as d
use Rattle.source_tree.specs.declared.program.Client.{Client}
use Rattle.source_tree.specs.declared.program.Item.{Item}
use Rattle.source_tree.specs.declared.program.Item.TheVariants as i
use Rattle.source_tree.specs.declared.program.Program.{Program}

abbrev pub joined : List (List Token) → List Token
joined [] = []
joined (ts ∷ tss) = ts ++ joined tss

abbrev pub joined_of : Option (List (List Token)) → List Token
joined_of None = []
joined_of (Some tss) = joined tss

-- of a place, from those of its keys
abbrev pub place_words : Place (List Token) → List Token
place_words (place.Name x) = Name x ∷ []
place_words (place.Field x p) = Name x ∷ Name p ∷ []
place_words (place.Entry x keys p) = Name x ∷ (joined keys ++ Name p ∷ [])

-- of an expression, from those of its parts
abbrev pub expression_words : Expression-F (List Token) → List Token
expression_words (Expression-F.Number n) = Number n ∷ []
expression_words (Expression-F.Text bytes) = Text bytes ∷ []
expression_words (Expression-F.Truth b) = []
expression_words (Expression-F.Alive x) = Name x ∷ []
expression_words (Expression-F.Place p) = place_words p
expression_words (Expression-F.Minus a) = a
expression_words (Expression-F.Not a) = a
expression_words (Expression-F.Binary op a b) = a ++ b

abbrev pub words : Expression → List Token
words = fold-Expression (List Token) expression_words

abbrev pub names : List (List ℕ) → List Token
names xs = map Name xs

-- of a statement, from those of the statements in its blocks
abbrev pub statement_words_step : Statement-F (List Token) → List Token
statement_words_step (Statement-F.Define x a) = Name x ∷ words a
statement_words_step (Statement-F.Create x n keys) = Name x ∷ Name n ∷ joined (map words keys)
statement_words_step (Statement-F.Assign x a) = Name x ∷ words a
statement_words_step (Statement-F.Update p op a) = words (e.Place p) ++ words a
statement_words_step (Statement-F.Delete x) = Name x ∷ []
statement_words_step (Statement-F.If a first second) = words a ++ (joined first ++ joined_of second)
statement_words_step (Statement-F.While a body) = words a ++ joined body
statement_words_step (Statement-F.ForAll x n body) = Name x ∷ Name n ∷ joined body
statement_words_step (Statement-F.ForEntries xs n p body) = names xs ++ (Name n ∷ Name p ∷ joined body)
statement_words_step (Statement-F.Print a) = words a
statement_words_step Statement-F.Yield = []
statement_words_step Statement-F.Flush = []

abbrev pub statement_words : Statement → List Token
statement_words = fold-Statement (List Token) statement_words_step

abbrev pub body_words : List Statement → List Token
body_words body = joined (map statement_words body)

abbrev pub key_type_words : KeyType → List Token
key_type_words k.Int = []
key_type_words k.Text = []
key_type_words (k.Entity n) = Name n ∷ []

abbrev pub key_words : Key → List Token
key_words key = Name key.name ∷ key_type_words key.of

abbrev pub property_words : Property → List Token
property_words property = Name property.name ∷ []

abbrev pub declaration_words : Declaration → List Token
declaration_words (d.Global property) = property_words property
declaration_words (d.Array n keys properties) = Name n ∷ (flat_map key_words keys ++ flat_map property_words properties)
declaration_words (d.Entity n keys properties) = Name n ∷ (flat_map key_words keys ++ flat_map property_words properties)

abbrev pub client_words : Client → List Token
client_words client = Name client.name ∷ body_words client.body

abbrev pub item_words : Item → List Token
item_words (i.Steps n count) = Name n ∷ Number count ∷ []
item_words (i.Serve n fate) = Name n ∷ []

abbrev pub schedule_words : Option (List Item) → List Token
schedule_words None = []
schedule_words (Some items) = flat_map item_words items

abbrev pub program_words : Program → List Token
program_words p = flat_map declaration_words p.declarations ++ (flat_map client_words p.clients ++ schedule_words p.schedule)

-- the words among tokens
abbrev pub words_of : List Token → List Token
words_of [] = []
words_of (Fixed t ∷ ts) = words_of ts
words_of (Name x ∷ ts) = Name x ∷ words_of ts
words_of (Number n ∷ ts) = Number n ∷ words_of ts
words_of (Text bytes ∷ ts) = Text bytes ∷ words_of ts

-- the numbers among tokens
abbrev pub numbers_of : List Token → List ℕ
numbers_of [] = []
numbers_of (Number n ∷ ts) = n ∷ numbers_of ts
numbers_of (Name x ∷ ts) = numbers_of ts
numbers_of (Text bytes ∷ ts) = numbers_of ts
numbers_of (Fixed t ∷ ts) = numbers_of ts

-- the texts among tokens
abbrev pub texts_of : List Token → List (List ℕ)
texts_of [] = []
texts_of (Text bytes ∷ ts) = bytes ∷ texts_of ts
texts_of (Name x ∷ ts) = texts_of ts
texts_of (Number n ∷ ts) = texts_of ts
texts_of (Fixed t ∷ ts) = texts_of ts
