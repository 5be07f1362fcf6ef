-- The grammar as data: what each part of a program may become, one way a line. Above the parts stands what is
-- printed of them: { x } is any number of x, [ x ] is at most one. A part whose name ends in Tail is what may
-- follow, with its closer where it has one; the first way of each part is one that ends soon.
use Rattle.std.specs.Prelude.{List, [], ◌∷◌}
use Rattle.source_tokens.specs.declared.terminal.Terminal.{Terminal}
use Rattle.source_tokens.specs.declared.terminal.Terminal.TheVariants as t
use Rattle.syntax_judge.specs.declared.kind.Kind.TheVariants as k
use Rattle.syntax_judge.specs.declared.symbol.Part.{Part}
use Rattle.syntax_judge.specs.declared.symbol.Part.TheVariants as p
use Rattle.syntax_judge.specs.declared.symbol.Symbol.{Symbol}
use Rattle.syntax_judge.specs.declared.symbol.Symbol.TheVariants as s
use Rattle.syntax_judge.specs.declared.symbol.Symbol.TheVariants.{Open}

abbrev pub word : Terminal → Symbol
word w = s.Token (k.Fixed w)

abbrev pub name : Symbol
name = s.Token k.Name

abbrev pub number : Symbol
number = s.Token k.Number

abbrev pub text : Symbol
text = s.Token k.Text

abbrev pub productions : Part → List (List Symbol)
-- program = schema client { client } [ schedule ]
-- schema = "schema" "{" { decl } "}"
productions p.Program = (word t.Schema ∷ word t.OpenBrace ∷ Open p.DeclarationTail ∷ Open p.Client ∷ Open p.ClientTail ∷ []) ∷ []
productions p.DeclarationTail =
    (word t.CloseBrace ∷ []) ∷
    (Open p.Declaration ∷ Open p.DeclarationTail ∷ []) ∷ []
-- decl = "global" NAME ":" ctype ";"
--      | "array" NAME "[" keys "]" props
--      | "entity" NAME [ "[" keys "]" ] props
productions p.Declaration =
    (word t.Global ∷ name ∷ word t.Colon ∷ Open p.CellType ∷ word t.Semicolon ∷ []) ∷
    (word t.Array ∷ name ∷ word t.OpenBracket ∷ Open p.Key ∷ Open p.KeyTail ∷ Open p.Properties ∷ []) ∷
    (word t.Entity ∷ name ∷ Open p.EntityKeys ∷ Open p.Properties ∷ []) ∷ []
productions p.EntityKeys =
    [] ∷
    (word t.OpenBracket ∷ Open p.Key ∷ Open p.KeyTail ∷ []) ∷ []
-- key = NAME ":" ktype
productions p.Key = (name ∷ word t.Colon ∷ Open p.KeyType ∷ []) ∷ []
-- ktype = "int" | "string" | NAME
productions p.KeyType =
    (word t.Int ∷ []) ∷
    (word t.String ∷ []) ∷
    (name ∷ []) ∷ []
-- keys = key { "," key }
productions p.KeyTail =
    (word t.CloseBracket ∷ []) ∷
    (word t.Comma ∷ Open p.Key ∷ Open p.KeyTail ∷ []) ∷ []
-- props = "{" [ prop { ";" prop } [ ";" ] ] "}"
productions p.Properties = (word t.OpenBrace ∷ Open p.PropertiesInside ∷ []) ∷ []
productions p.PropertiesInside =
    (word t.CloseBrace ∷ []) ∷
    (Open p.Property ∷ Open p.PropertyTail ∷ []) ∷ []
productions p.PropertyTail =
    (word t.CloseBrace ∷ []) ∷
    (word t.Semicolon ∷ Open p.PropertiesInside ∷ []) ∷ []
-- prop = NAME ":" ctype
productions p.Property = (name ∷ word t.Colon ∷ Open p.CellType ∷ []) ∷ []
-- ctype = "CInt" | "CString"
productions p.CellType =
    (word t.CInt ∷ []) ∷
    (word t.CString ∷ []) ∷ []
-- client = "client" NAME block
productions p.Client = (word t.Client ∷ name ∷ Open p.Block ∷ []) ∷ []
productions p.ClientTail =
    [] ∷
    (Open p.Client ∷ Open p.ClientTail ∷ []) ∷
    (word t.Schedule ∷ word t.OpenBrace ∷ Open p.ItemTail ∷ []) ∷ []
-- block = "{" { stmt } "}"
productions p.Block = (word t.OpenBrace ∷ Open p.StatementTail ∷ []) ∷ []
productions p.StatementTail =
    (word t.CloseBrace ∷ []) ∷
    (Open p.Statement ∷ Open p.StatementTail ∷ []) ∷ []
-- stmt = "var" NAME "=" expr ";"
--      | "var" NAME "=" "new" NAME [ "[" exprs "]" ] ";"
--      | NAME "=" expr ";"
--      | place "." op "(" expr ")" ";"
--      | "delete" NAME ";"
--      | "if" expr block [ "else" block ]
--      | "while" expr block
--      | "foreach" NAME "in" "all" NAME block
--      | "foreach" NAME { "," NAME } "in" "entries" NAME "." NAME block
--      | "print" expr ";"
--      | "yield" ";"
--      | "flush" ";"
productions p.Statement =
    (word t.Yield ∷ word t.Semicolon ∷ []) ∷
    (word t.Flush ∷ word t.Semicolon ∷ []) ∷
    (word t.Print ∷ Open p.Expression ∷ word t.Semicolon ∷ []) ∷
    (word t.Delete ∷ name ∷ word t.Semicolon ∷ []) ∷
    (word t.Var ∷ name ∷ word t.Assign ∷ Open p.Initializer ∷ []) ∷
    (name ∷ Open p.AfterName ∷ []) ∷
    (word t.If ∷ Open p.Expression ∷ Open p.Block ∷ Open p.Else ∷ []) ∷
    (word t.While ∷ Open p.Expression ∷ Open p.Block ∷ []) ∷
    (word t.Foreach ∷ name ∷ Open p.ForeachTail ∷ []) ∷ []
productions p.Initializer =
    (Open p.Expression ∷ word t.Semicolon ∷ []) ∷
    (word t.New ∷ name ∷ Open p.NewKeys ∷ word t.Semicolon ∷ []) ∷ []
productions p.NewKeys =
    [] ∷
    (word t.OpenBracket ∷ Open p.Expression ∷ Open p.ExpressionTail ∷ []) ∷ []
productions p.AfterName =
    (word t.Assign ∷ Open p.Expression ∷ word t.Semicolon ∷ []) ∷
    (word t.Dot ∷ Open p.AfterDot ∷ []) ∷
    (word t.OpenBracket ∷ Open p.Expression ∷ Open p.ExpressionTail ∷ word t.Dot ∷ name ∷ word t.Dot ∷ Open p.Change ∷ []) ∷ []
productions p.AfterDot =
    (Open p.Change ∷ []) ∷
    (name ∷ word t.Dot ∷ Open p.Change ∷ []) ∷ []
productions p.Change = (Open p.Operation ∷ word t.OpenParen ∷ Open p.Expression ∷ word t.CloseParen ∷ word t.Semicolon ∷ []) ∷ []
-- op = "add" | "set" | "setIfEmpty"
productions p.Operation =
    (word t.Add ∷ []) ∷
    (word t.Set ∷ []) ∷
    (word t.SetIfEmpty ∷ []) ∷ []
productions p.ForeachTail =
    (word t.In ∷ Open p.ForeachIn ∷ []) ∷
    (word t.Comma ∷ name ∷ Open p.NameTail ∷ []) ∷ []
productions p.ForeachIn =
    (word t.All ∷ name ∷ Open p.Block ∷ []) ∷
    (Open p.Entries ∷ []) ∷ []
productions p.NameTail =
    (word t.In ∷ Open p.Entries ∷ []) ∷
    (word t.Comma ∷ name ∷ Open p.NameTail ∷ []) ∷ []
productions p.Entries = (word t.Entries ∷ name ∷ word t.Dot ∷ name ∷ Open p.Block ∷ []) ∷ []
productions p.Else =
    [] ∷
    (word t.Else ∷ Open p.Block ∷ []) ∷ []
-- expr = conj { "or" conj }
productions p.Expression = (Open p.Conjunction ∷ Open p.OrTail ∷ []) ∷ []
productions p.OrTail =
    [] ∷
    (word t.Or ∷ Open p.Conjunction ∷ Open p.OrTail ∷ []) ∷ []
-- conj = neg { "and" neg }
productions p.Conjunction = (Open p.Negation ∷ Open p.AndTail ∷ []) ∷ []
productions p.AndTail =
    [] ∷
    (word t.And ∷ Open p.Negation ∷ Open p.AndTail ∷ []) ∷ []
-- neg = "not" neg | comp
productions p.Negation =
    (Open p.Comparison ∷ []) ∷
    (word t.Not ∷ Open p.Negation ∷ []) ∷ []
-- comp = sum [ cmp sum ]
productions p.Comparison = (Open p.Sum ∷ Open p.ComparisonTail ∷ []) ∷ []
productions p.ComparisonTail =
    [] ∷
    (Open p.Comparator ∷ Open p.Sum ∷ []) ∷ []
-- cmp = "==" | "!=" | "<" | "<=" | ">" | ">="
productions p.Comparator =
    (word t.Equal ∷ []) ∷
    (word t.NotEqual ∷ []) ∷
    (word t.Less ∷ []) ∷
    (word t.LessOrEqual ∷ []) ∷
    (word t.Greater ∷ []) ∷
    (word t.GreaterOrEqual ∷ []) ∷ []
-- sum = term { ( "+" | "-" | "++" ) term }
productions p.Sum = (Open p.Term ∷ Open p.SumTail ∷ []) ∷ []
productions p.SumTail =
    [] ∷
    (Open p.SumOperator ∷ Open p.Term ∷ Open p.SumTail ∷ []) ∷ []
productions p.SumOperator =
    (word t.Plus ∷ []) ∷
    (word t.Minus ∷ []) ∷
    (word t.Concat ∷ []) ∷ []
-- term = factor { ( "*" | "/" | "%" ) factor }
productions p.Term = (Open p.Factor ∷ Open p.TermTail ∷ []) ∷ []
productions p.TermTail =
    [] ∷
    (Open p.TermOperator ∷ Open p.Factor ∷ Open p.TermTail ∷ []) ∷ []
productions p.TermOperator =
    (word t.Times ∷ []) ∷
    (word t.Divide ∷ []) ∷
    (word t.Remainder ∷ []) ∷ []
-- factor = "-" factor | atom
-- atom = NUMBER | TEXT | "true" | "false" | "alive" NAME | place
--      | "(" expr ")"
productions p.Factor =
    (number ∷ []) ∷
    (text ∷ []) ∷
    (word t.True ∷ []) ∷
    (word t.False ∷ []) ∷
    (word t.Alive ∷ name ∷ []) ∷
    (name ∷ Open p.PlaceTail ∷ []) ∷
    (word t.OpenParen ∷ Open p.Expression ∷ word t.CloseParen ∷ []) ∷
    (word t.Minus ∷ Open p.Factor ∷ []) ∷ []
-- place = NAME | NAME "." NAME | NAME "[" exprs "]" "." NAME
productions p.PlaceTail =
    [] ∷
    (word t.Dot ∷ name ∷ []) ∷
    (word t.OpenBracket ∷ Open p.Expression ∷ Open p.ExpressionTail ∷ word t.Dot ∷ name ∷ []) ∷ []
-- exprs = expr { "," expr }
productions p.ExpressionTail =
    (word t.CloseBracket ∷ []) ∷
    (word t.Comma ∷ Open p.Expression ∷ Open p.ExpressionTail ∷ []) ∷ []
-- schedule = "schedule" "{" { item } "}"
productions p.ItemTail =
    (word t.CloseBrace ∷ []) ∷
    (Open p.Item ∷ Open p.ItemTail ∷ []) ∷ []
-- item = NAME NUMBER ";" | "serve" NAME fate ";"
productions p.Item =
    (name ∷ number ∷ word t.Semicolon ∷ []) ∷
    (word t.Serve ∷ name ∷ Open p.Fate ∷ word t.Semicolon ∷ []) ∷ []
-- fate = "pass" | "losepush" | "losereply" | "twice" | "hold"
productions p.Fate =
    (word t.Pass ∷ []) ∷
    (word t.LosePush ∷ []) ∷
    (word t.LoseReply ∷ []) ∷
    (word t.Twice ∷ []) ∷
    (word t.Hold ∷ []) ∷ []
