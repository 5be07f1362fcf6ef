-- The tokens and the tree of a drill.
use Rattle.std.specs.Prelude.{ℕ, zero, suc, ◌+◌, ◌*◌, ◌/◌, ◌%◌, ◌^◌, true, List, [], ◌∷◌, ◌++◌, map, codes, None}
use Rattle.std.specs.List.{range_with_len}
use Rattle.cloud_base.specs.declared.schema.CellType.TheVariants as c
use Rattle.drill_text.specs.Drills.{number_at, amount_of, item_of}
use Rattle.source_tokens.specs.declared.terminal.Terminal.TheVariants as t
use Rattle.source_tokens.specs.declared.token.Token.{Token}
use Rattle.source_tokens.specs.declared.token.Token.TheVariants.{Name, Number, Text, Fixed}
use Rattle.source_tree.specs.declared.expression.Expression.TheVariants as e
use Rattle.source_tree.specs.declared.expression.Place.TheVariants as place
use Rattle.source_tree.specs.declared.program.Client.{Client}
use Rattle.source_tree.specs.declared.program.Declaration.{Declaration}
use Rattle.source_tree.specs.declared.program.Declaration.TheVariants as d
use Rattle.source_tree.specs.declared.program.KeyType.TheVariants as k
use Rattle.source_tree.specs.declared.program.Program.{Program}
use Rattle.source_tree.specs.declared.statement.Operation.TheVariants as o
use Rattle.source_tree.specs.declared.statement.Statement.{Statement}
use Rattle.source_tree.specs.declared.statement.Statement.TheVariants as s

abbrev pub amount : ℕ → ℕ
amount x = x / 2 ^ 40 % 100

abbrev pub key_bytes : ℕ → List ℕ
key_bytes x = 107 ∷ item_of x

-- ---- of a group, by the top bits of its draw
abbrev pub group_tokens : ℕ → ℕ → List Token
group_tokens zero x = Name (codes "total") ∷ Fixed t.Dot ∷ Fixed t.Add ∷ Fixed t.OpenParen ∷ Number (amount x) ∷ Fixed t.CloseParen ∷ Fixed t.Semicolon ∷ []
group_tokens (suc zero) x =
    Name (codes "Stock") ∷ Fixed t.OpenBracket ∷ Text (key_bytes x) ∷ Fixed t.CloseBracket ∷ Fixed t.Dot ∷ Name (codes "n") ∷ Fixed t.Dot ∷ Fixed t.Add ∷ Fixed t.OpenParen
    ∷ Number (amount x) ∷ Fixed t.CloseParen ∷ Fixed t.Semicolon ∷ []
group_tokens (suc (suc zero)) x =
    Name (codes "Stock") ∷ Fixed t.OpenBracket ∷ Text (key_bytes x) ∷ Fixed t.CloseBracket ∷ Fixed t.Dot ∷ Name (codes "note") ∷ Fixed t.Dot ∷ Fixed t.SetIfEmpty ∷ Fixed t.OpenParen
    ∷ Text (amount_of x) ∷ Fixed t.CloseParen ∷ Fixed t.Semicolon ∷ []
group_tokens (suc (suc (suc zero))) x =
    Fixed t.If ∷ Fixed t.True ∷ Fixed t.OpenBrace ∷ Fixed t.Var ∷ Name (codes "o") ∷ Fixed t.Assign ∷ Fixed t.New ∷ Name (codes "Order") ∷ Fixed t.Semicolon
    ∷ Name (codes "o") ∷ Fixed t.Dot ∷ Name (codes "count") ∷ Fixed t.Dot ∷ Fixed t.Add ∷ Fixed t.OpenParen
    ∷ Number (amount x) ∷ Fixed t.CloseParen ∷ Fixed t.Semicolon ∷ Fixed t.CloseBrace ∷ []
group_tokens (suc (suc (suc (suc zero)))) x = Fixed t.Print ∷ Name (codes "total") ∷ Fixed t.Semicolon ∷ []
group_tokens (suc (suc (suc (suc (suc zero))))) x =
    Fixed t.Foreach ∷ Name (codes "o") ∷ Fixed t.In ∷ Fixed t.All ∷ Name (codes "Order") ∷ Fixed t.OpenBrace ∷ Fixed t.Delete ∷ Name (codes "o") ∷ Fixed t.Semicolon ∷ Fixed t.CloseBrace ∷ []
group_tokens (suc (suc (suc (suc (suc (suc zero)))))) x = Fixed t.Yield ∷ Fixed t.Semicolon ∷ []
group_tokens (suc (suc (suc (suc (suc (suc (suc bits))))))) x = Fixed t.Flush ∷ Fixed t.Semicolon ∷ []

abbrev pub create_block : ℕ → List Statement
create_block x = s.Create (codes "o") (codes "Order") [] ∷ s.Update (place.Field (codes "o") (codes "count")) o.Add (e.Number (amount x)) ∷ []

abbrev pub group_tree : ℕ → ℕ → Statement
group_tree zero x = s.Update (place.Name (codes "total")) o.Add (e.Number (amount x))
group_tree (suc zero) x = s.Update (place.Entry (codes "Stock") (e.Text (key_bytes x) ∷ []) (codes "n")) o.Add (e.Number (amount x))
group_tree (suc (suc zero)) x = s.Update (place.Entry (codes "Stock") (e.Text (key_bytes x) ∷ []) (codes "note")) o.SetIfEmpty (e.Text (amount_of x))
group_tree (suc (suc (suc zero))) x = s.If (e.Truth true) (create_block x) None
group_tree (suc (suc (suc (suc zero)))) x = s.Print (e.Place (place.Name (codes "total")))
group_tree (suc (suc (suc (suc (suc zero))))) x = s.ForAll (codes "o") (codes "Order") (s.Delete (codes "o") ∷ [])
group_tree (suc (suc (suc (suc (suc (suc zero)))))) x = s.Yield
group_tree (suc (suc (suc (suc (suc (suc (suc bits))))))) x = s.Flush

-- ---- of a client, by its draws
abbrev pub draws : ℕ → ℕ → List ℕ
draws n c = map (λ (j : ℕ). number_at n (c * n + j + 1)) (range_with_len 0 n)

abbrev pub body_tokens : List ℕ → List Token
body_tokens [] = Fixed t.Flush ∷ Fixed t.Semicolon ∷ Fixed t.CloseBrace ∷ []
body_tokens (x ∷ xs) = group_tokens (x / 2 ^ 61) x ++ body_tokens xs

abbrev pub body_tree : List ℕ → List Statement
body_tree [] = s.Flush ∷ []
body_tree (x ∷ xs) = group_tree (x / 2 ^ 61) x ∷ body_tree xs

abbrev pub client_name : ℕ → List ℕ
client_name c = 99 ∷ (48 + c) ∷ []

abbrev pub client_tokens : ℕ → List ℕ → List Token
client_tokens c xs = Fixed t.Client ∷ Name (client_name c) ∷ Fixed t.OpenBrace ∷ body_tokens xs

abbrev pub client_tree : ℕ → List ℕ → Client
client_tree c xs = record { name = client_name c; body = body_tree xs }

-- ---- of the schema
abbrev pub global_tokens : List Token
global_tokens = Fixed t.Global ∷ Name (codes "total") ∷ Fixed t.Colon ∷ Fixed t.CInt ∷ Fixed t.Semicolon ∷ []

abbrev pub array_tokens : List Token
array_tokens =
    Fixed t.Array ∷ Name (codes "Stock") ∷ Fixed t.OpenBracket ∷ Name (codes "item") ∷ Fixed t.Colon ∷ Fixed t.String ∷ Fixed t.CloseBracket
    ∷ Fixed t.OpenBrace ∷ Name (codes "n") ∷ Fixed t.Colon ∷ Fixed t.CInt ∷ Fixed t.Semicolon ∷ Name (codes "note") ∷ Fixed t.Colon ∷ Fixed t.CString ∷ Fixed t.CloseBrace ∷ []

abbrev pub entity_tokens : List Token
entity_tokens = Fixed t.Entity ∷ Name (codes "Order") ∷ Fixed t.OpenBrace ∷ Name (codes "count") ∷ Fixed t.Colon ∷ Fixed t.CInt ∷ Fixed t.CloseBrace ∷ []

abbrev pub declaration_tokens : List Token
declaration_tokens = global_tokens ++ (array_tokens ++ (entity_tokens ++ (Fixed t.CloseBrace ∷ [])))

abbrev pub declarations : List Declaration
declarations =
    d.Global (record { name = codes "total"; cell = c.Int })
    ∷ d.Array (codes "Stock") (record { name = codes "item"; of = k.Text } ∷ []) (record { name = codes "n"; cell = c.Int } ∷ record { name = codes "note"; cell = c.Text } ∷ [])
    ∷ d.Entity (codes "Order") [] (record { name = codes "count"; cell = c.Int } ∷ [])
    ∷ []

-- ---- of a drill, by the draws of its clients
abbrev pub drill_tokens : (xs ys zs us : List ℕ) → List Token
drill_tokens xs ys zs us = Fixed t.Schema ∷ Fixed t.OpenBrace ∷ (declaration_tokens ++ (client_tokens 0 xs ++ (client_tokens 1 ys ++ (client_tokens 2 zs ++ (client_tokens 3 us ++ [])))))

abbrev pub drill_tree : (xs ys zs us : List ℕ) → Program
drill_tree xs ys zs us = record { declarations = declarations; clients = client_tree 0 xs ∷ client_tree 1 ys ∷ client_tree 2 zs ∷ client_tree 3 us ∷ []; schedule = None }
