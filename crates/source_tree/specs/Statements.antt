-- How statements are spelled in tokens. The spelling of a list has its closing token, that of a block its braces.
use Rattle.std.specs.Prelude.{ℕ, List, [], ◌∷◌, ◌++◌, Option, Some, None}
use Rattle.source_tokens.specs.declared.terminal.Terminal.TheVariants as t
use Rattle.source_tokens.specs.declared.token.Token.{Token}
use Rattle.source_tokens.specs.declared.token.Token.TheVariants.{Name, Fixed}
use Rattle.source_tree.specs.declared.expression.Expression.{Expression}
use Rattle.source_tree.specs.declared.expression.Level.TheVariants as l
use Rattle.source_tree.specs.declared.expression.Place.{Place}
use Rattle.source_tree.specs.declared.statement.Operation.{Operation}
use Rattle.source_tree.specs.declared.statement.Operation.TheVariants as o
use Rattle.source_tree.specs.declared.statement.Statement.{Statement}
use Rattle.source_tree.specs.declared.statement.Statement.TheVariants as s
use Rattle.source_tree.specs.Expressions.{Spells, SpellsPlace, SpellsKeys}

-- op = "add" | "set" | "setIfEmpty"
pub data SpellsOperation : Operation → List Token → Type 0 where
  add : SpellsOperation o.Add (Fixed t.Add ∷ [])
  set : SpellsOperation o.Set (Fixed t.Set ∷ [])
  set_if_empty : SpellsOperation o.SetIfEmpty (Fixed t.SetIfEmpty ∷ [])

-- op "(" expr ")" ";"
pub data SpellsChange : Operation → Expression → List Token → Type 0 where
  change : (op : Operation) (e : Expression) (u v : List Token) → SpellsOperation op u → Spells l.Choice e v
      → SpellsChange op e (u ++ Fixed t.OpenParen ∷ (v ++ Fixed t.CloseParen ∷ Fixed t.Semicolon ∷ []))

-- [ "[" exprs "]" ]
pub data SpellsNewKeys : List Expression → List Token → Type 0 where
  no_new_keys : SpellsNewKeys [] []
  new_keys : (es : List Expression) (u : List Token) → SpellsKeys es u → SpellsNewKeys es (Fixed t.OpenBracket ∷ u)

mutual
  pub data SpellsStatement : Statement → List Token → Type 0 where
    define : (x : List ℕ) (e : Expression) (u : List Token) → Spells l.Choice e u → SpellsStatement (s.Define x e) (Fixed t.Var ∷ Name x ∷ Fixed t.Assign ∷ (u ++ Fixed t.Semicolon ∷ []))
    create : (x n : List ℕ) (keys : List Expression) (u : List Token) → SpellsNewKeys keys u
        → SpellsStatement (s.Create x n keys) (Fixed t.Var ∷ Name x ∷ Fixed t.Assign ∷ Fixed t.New ∷ Name n ∷ (u ++ Fixed t.Semicolon ∷ []))
    assign : (x : List ℕ) (e : Expression) (u : List Token) → Spells l.Choice e u → SpellsStatement (s.Assign x e) (Name x ∷ Fixed t.Assign ∷ (u ++ Fixed t.Semicolon ∷ []))
    update : (p : Place Expression) (op : Operation) (e : Expression) (u v : List Token) → SpellsPlace p u → SpellsChange op e v → SpellsStatement (s.Update p op e) (u ++ Fixed t.Dot ∷ v)
    delete : (x : List ℕ) → SpellsStatement (s.Delete x) (Fixed t.Delete ∷ Name x ∷ Fixed t.Semicolon ∷ [])
    if_else : (e : Expression) (first : List Statement) (second : Option (List Statement)) (u v w : List Token) → Spells l.Choice e u → SpellsBlock first v → SpellsElse second w
        → SpellsStatement (s.If e first second) (Fixed t.If ∷ (u ++ (v ++ w)))
    while : (e : Expression) (body : List Statement) (u v : List Token) → Spells l.Choice e u → SpellsBlock body v → SpellsStatement (s.While e body) (Fixed t.While ∷ (u ++ v))
    for_all : (x n : List ℕ) (body : List Statement) (u : List Token) → SpellsBlock body u
        → SpellsStatement (s.ForAll x n body) (Fixed t.Foreach ∷ Name x ∷ Fixed t.In ∷ Fixed t.All ∷ Name n ∷ u)
    for_entries : (xs : List (List ℕ)) (n p : List ℕ) (body : List Statement) (u : List Token) → SpellsEach xs n p body u → SpellsStatement (s.ForEntries xs n p body) (Fixed t.Foreach ∷ u)
    print : (e : Expression) (u : List Token) → Spells l.Choice e u → SpellsStatement (s.Print e) (Fixed t.Print ∷ (u ++ Fixed t.Semicolon ∷ []))
    yield : SpellsStatement s.Yield (Fixed t.Yield ∷ Fixed t.Semicolon ∷ [])
    flush : SpellsStatement s.Flush (Fixed t.Flush ∷ Fixed t.Semicolon ∷ [])

  -- block = "{" { stmt } "}"
  pub data SpellsBlock : List Statement → List Token → Type 0 where
    block : (body : List Statement) (u : List Token) → SpellsBody body u → SpellsBlock body (Fixed t.OpenBrace ∷ u)

  -- the statements and the closing brace
  pub data SpellsBody : List Statement → List Token → Type 0 where
    no_statements : SpellsBody [] (Fixed t.CloseBrace ∷ [])
    more_statements : (first : Statement) (others : List Statement) (u v : List Token) → SpellsStatement first u → SpellsBody others v → SpellsBody (first ∷ others) (u ++ v)

  -- [ "else" block ]
  pub data SpellsElse : Option (List Statement) → List Token → Type 0 where
    no_else : SpellsElse None []
    else_block : (body : List Statement) (u : List Token) → SpellsBlock body u → SpellsElse (Some body) (Fixed t.Else ∷ u)

  -- NAME { "," NAME } "in" "entries" NAME "." NAME block
  pub data SpellsEach : List (List ℕ) → List ℕ → List ℕ → List Statement → List Token → Type 0 where
    last_name : (x n p : List ℕ) (body : List Statement) (u : List Token) → SpellsBlock body u
        → SpellsEach (x ∷ []) n p body (Name x ∷ Fixed t.In ∷ Fixed t.Entries ∷ Name n ∷ Fixed t.Dot ∷ Name p ∷ u)
    more_names : (x : List ℕ) (xs : List (List ℕ)) (n p : List ℕ) (body : List Statement) (u : List Token) → SpellsEach xs n p body u → SpellsEach (x ∷ xs) n p body (Name x ∷ Fixed t.Comma ∷ u)
