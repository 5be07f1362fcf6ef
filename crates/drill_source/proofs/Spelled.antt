-- The tokens of a drill spell its tree.
use Rattle.std.specs.Prelude.{ℕ, zero, suc, ◌/◌, ◌^◌, List, [], ◌∷◌, codes, None}
use Rattle.drill_text.specs.Drills.{amount_of}
use Rattle.source_tokens.specs.declared.terminal.Terminal.TheVariants as t
use Rattle.source_tokens.specs.declared.token.Token.{Token}
use Rattle.source_tokens.specs.declared.token.Token.TheVariants.{Name, Number, Text, Fixed}
use Rattle.source_tree.specs.Expressions as x
use Rattle.source_tree.specs.Expressions.{Spells, SpellsPlace}
use Rattle.source_tree.specs.Programs as p
use Rattle.source_tree.specs.Programs.{SpellsDeclarations, SpellsClient, SpellsProgram}
use Rattle.source_tree.specs.Statements as y
use Rattle.source_tree.specs.Statements.{SpellsStatement, SpellsBlock, SpellsBody, SpellsChange}
use Rattle.source_tree.specs.declared.expression.Expression.{Expression}
use Rattle.source_tree.specs.declared.expression.Expression.TheVariants as e
use Rattle.source_tree.specs.declared.expression.Level.TheVariants as l
use Rattle.source_tree.specs.declared.expression.Place.TheVariants as place
use Rattle.source_tree.specs.declared.statement.Operation.TheVariants as o
use Rattle.source_tree.specs.declared.statement.Statement.TheVariants as s
use Rattle.drill_source.proofs.Trees.{amount, key_bytes, create_block, group_tokens, group_tree, body_tokens, body_tree, client_name, client_tokens, client_tree, declaration_tokens, declarations, drill_tokens, drill_tree}

factor : (a : Expression) (u : List Token) → Spells l.Factor a u → Spells l.Choice a u
factor a u h =
    x.choice_conjunction a u (x.conjunction_negation a u (x.negation_comparison a u (x.comparison_sum a u (x.sum_term a u (x.term_factor a u h)))))

number : (n : ℕ) → Spells l.Choice (e.Number n) (Number n ∷ [])
number n = factor (e.Number n) (Number n ∷ []) (x.factor_number n)

text : (bytes : List ℕ) → Spells l.Choice (e.Text bytes) (Text bytes ∷ [])
text bytes = factor (e.Text bytes) (Text bytes ∷ []) (x.factor_text bytes)

total : Spells l.Choice (e.Place (place.Name (codes "total"))) (Name (codes "total") ∷ [])
total = factor (e.Place (place.Name (codes "total"))) (Name (codes "total") ∷ []) (x.factor_place (place.Name (codes "total")) (Name (codes "total") ∷ []) (x.place_name (codes "total")))

adds : (n : ℕ) → SpellsChange o.Add (e.Number n) (Fixed t.Add ∷ Fixed t.OpenParen ∷ Number n ∷ Fixed t.CloseParen ∷ Fixed t.Semicolon ∷ [])
adds n = y.change o.Add (e.Number n) (Fixed t.Add ∷ []) (Number n ∷ []) y.add (number n)

entry : (key property : List ℕ) → SpellsPlace (place.Entry (codes "Stock") (e.Text key ∷ []) property)
    (Name (codes "Stock") ∷ Fixed t.OpenBracket ∷ Text key ∷ Fixed t.CloseBracket ∷ Fixed t.Dot ∷ Name property ∷ [])
entry key property = x.place_entry (codes "Stock") (e.Text key ∷ []) property (Text key ∷ Fixed t.CloseBracket ∷ []) (x.last_key (e.Text key) (Text key ∷ []) (text key))

create : SpellsStatement (s.Create (codes "o") (codes "Order") []) (Fixed t.Var ∷ Name (codes "o") ∷ Fixed t.Assign ∷ Fixed t.New ∷ Name (codes "Order") ∷ Fixed t.Semicolon ∷ [])
create = y.create (codes "o") (codes "Order") [] [] y.no_new_keys

counts : (n : ℕ) → SpellsStatement (s.Update (place.Field (codes "o") (codes "count")) o.Add (e.Number n))
    (Name (codes "o") ∷ Fixed t.Dot ∷ Name (codes "count") ∷ Fixed t.Dot ∷ Fixed t.Add ∷ Fixed t.OpenParen ∷ Number n ∷ Fixed t.CloseParen ∷ Fixed t.Semicolon ∷ [])
counts n = y.update (place.Field (codes "o") (codes "count")) o.Add (e.Number n) (Name (codes "o") ∷ Fixed t.Dot ∷ Name (codes "count") ∷ []) _ (x.place_field (codes "o") (codes "count")) (adds n)

created : (z : ℕ) → SpellsBlock (create_block z) (Fixed t.OpenBrace ∷ Fixed t.Var ∷ Name (codes "o") ∷ Fixed t.Assign ∷ Fixed t.New ∷ Name (codes "Order") ∷ Fixed t.Semicolon
    ∷ Name (codes "o") ∷ Fixed t.Dot ∷ Name (codes "count") ∷ Fixed t.Dot ∷ Fixed t.Add ∷ Fixed t.OpenParen ∷ Number (amount z) ∷ Fixed t.CloseParen ∷ Fixed t.Semicolon ∷ Fixed t.CloseBrace ∷ [])
created z = y.block (create_block z) _ (y.more_statements _ _ _ _ create (y.more_statements _ _ _ _ (counts (amount z)) y.no_statements))

deleted : SpellsBlock (s.Delete (codes "o") ∷ []) (Fixed t.OpenBrace ∷ Fixed t.Delete ∷ Name (codes "o") ∷ Fixed t.Semicolon ∷ Fixed t.CloseBrace ∷ [])
deleted = y.block _ _ (y.more_statements _ _ _ _ (y.delete (codes "o")) y.no_statements)

group : (bits z : ℕ) → SpellsStatement (group_tree bits z) (group_tokens bits z)
group zero z = y.update (place.Name (codes "total")) o.Add (e.Number (amount z)) (Name (codes "total") ∷ []) _ (x.place_name (codes "total")) (adds (amount z))
group (suc zero) z = y.update (place.Entry (codes "Stock") (e.Text (key_bytes z) ∷ []) (codes "n")) o.Add (e.Number (amount z)) _ _ (entry (key_bytes z) (codes "n")) (adds (amount z))
group (suc (suc zero)) z =
    y.update (place.Entry (codes "Stock") (e.Text (key_bytes z) ∷ []) (codes "note")) o.SetIfEmpty (e.Text (amount_of z)) _ _ (entry (key_bytes z) (codes "note"))
    (y.change o.SetIfEmpty (e.Text (amount_of z)) (Fixed t.SetIfEmpty ∷ []) (Text (amount_of z) ∷ []) y.set_if_empty (text (amount_of z)))
group (suc (suc (suc zero))) z =
    y.if_else _ (create_block z) None (Fixed t.True ∷ []) _ [] (factor _ (Fixed t.True ∷ []) x.factor_true) (created z) y.no_else
group (suc (suc (suc (suc zero)))) z = y.print _ (Name (codes "total") ∷ []) total
group (suc (suc (suc (suc (suc zero))))) z = y.for_all (codes "o") (codes "Order") _ _ deleted
group (suc (suc (suc (suc (suc (suc zero)))))) z = y.yield
group (suc (suc (suc (suc (suc (suc (suc bits))))))) z = y.flush

body : (zs : List ℕ) → SpellsBody (body_tree zs) (body_tokens zs)
body [] = y.more_statements _ _ _ _ y.flush y.no_statements
body (z ∷ zs) = y.more_statements _ _ (group_tokens (z / 2 ^ 61) z) (body_tokens zs) (group (z / 2 ^ 61) z) (body zs)

client : (c : ℕ) (zs : List ℕ) → SpellsClient (client_tree c zs) (client_tokens c zs)
client c zs = p.client (client_name c) (body_tree zs) (Fixed t.OpenBrace ∷ body_tokens zs) (y.block (body_tree zs) (body_tokens zs) (body zs))

declared : SpellsDeclarations declarations declaration_tokens
declared =
    p.more_declarations _ _ _ _ (p.global _ _ (p.property (codes "total") _ _ p.cell_int))
    (p.more_declarations _ _ _ _
    (p.array (codes "Stock") _ _ _ _ (p.last_key _ _ (p.key (codes "item") _ _ p.key_text))
    (p.properties _ _ (p.more_properties _ _ _ _ (p.property (codes "n") _ _ p.cell_int) (p.last_property _ _ (p.property (codes "note") _ _ p.cell_text)))))
    (p.more_declarations _ _ _ _
    (p.entity (codes "Order") [] _ _ _ p.no_keys (p.properties _ _ (p.last_property _ _ (p.property (codes "count") _ _ p.cell_int))))
    p.no_declarations))

pub spelled : (ks ls ms ns : List ℕ) → SpellsProgram (drill_tree ks ls ms ns) (drill_tokens ks ls ms ns)
spelled ks ls ms ns =
    p.program declarations (client_tree 0 ks) _ None declaration_tokens (client_tokens 0 ks) _ declared (client 0 ks)
    (p.more_clients (client_tree 1 ls) _ None (client_tokens 1 ls) _ (client 1 ls)
    (p.more_clients (client_tree 2 ms) _ None (client_tokens 2 ms) _ (client 2 ms)
    (p.more_clients (client_tree 3 ns) _ None (client_tokens 3 ns) _ (client 3 ns) p.no_clients)))
