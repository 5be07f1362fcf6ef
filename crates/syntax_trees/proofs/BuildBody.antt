-- A body that is spelled is derived.
use Rattle.std.proofs.Common.{◌≡◌, ℕ, List, [], ◌∷◌, ◌++◌, Option, refl, ap, sym, subst, ◌∙◌, append_assoc}
use Rattle.std.proofs.lemmas.List.{map-append}
use Rattle.source_tokens.specs.declared.terminal.Terminal.TheVariants as t
use Rattle.source_tokens.specs.declared.token.Token.{Token}
use Rattle.source_tokens.specs.declared.token.Token.TheVariants.{Name, Fixed}
use Rattle.source_tree.specs.Expressions as sx
use Rattle.source_tree.specs.Expressions.{SpellsPlace}
use Rattle.source_tree.specs.Statements as sy
use Rattle.source_tree.specs.Statements.{SpellsOperation, SpellsChange, SpellsNewKeys, SpellsStatement, SpellsBlock, SpellsBody, SpellsElse, SpellsEach}
use Rattle.source_tree.specs.declared.expression.Expression.{Expression}
use Rattle.source_tree.specs.declared.expression.Place.{Place}
use Rattle.source_tree.specs.declared.statement.Operation.{Operation}
use Rattle.source_tree.specs.declared.statement.Statement.{Statement}
use Rattle.syntax_judge.specs.Programs.{Derives, kind_of}
use Rattle.syntax_judge.specs.declared.kind.Kind.{Kind}
use Rattle.syntax_judge.specs.declared.kind.Kind.TheVariants as k
use Rattle.syntax_judge.specs.declared.symbol.Part.TheVariants as p
use Rattle.syntax_trees.proofs.Build.{kinds_in, Keys, keys_then, keys_derived, expression_derived}
use Rattle.syntax_trees.proofs.Made.{made}
use Rattle.syntax_judge.specs.declared.symbol.Symbol.TheVariants.{Open}

operation_built : (op : Operation) (u : List Token) → SpellsOperation op u → Derives (Open p.Operation ∷ []) (kinds_in u)
operation_built op u sy.add = (made p.Operation).0
operation_built op u sy.set = (made p.Operation).1.0
operation_built op u sy.set_if_empty = (made p.Operation).1.1.0

change_built : (op : Operation) (e : Expression) (u : List Token) → SpellsChange op e u → Derives (Open p.Change ∷ []) (kinds_in u)
change_built op e u (sy.change _ _ v w h i) =
    rw (map-append kind_of v (Fixed t.OpenParen ∷ (w ++ Fixed t.CloseParen ∷ Fixed t.Semicolon ∷ [])), map-append kind_of w (Fixed t.CloseParen ∷ Fixed t.Semicolon ∷ []))
    ((made p.Change).0 (kinds_in v) (operation_built op v h) (kinds_in w) (expression_derived e w i))

new_keys_built : (keys : List Expression) (u : List Token) → SpellsNewKeys keys u → Derives (Open p.NewKeys ∷ []) (kinds_in u)
new_keys_built keys u sy.no_new_keys = (made p.NewKeys).0
new_keys_built keys u (sy.new_keys es v h) =
    let (first, others, d, e, same) = keys_derived es v h in
    subst (λ ts. Derives (Open p.NewKeys ∷ []) (k.Fixed t.OpenBracket ∷ ts)) same ((made p.NewKeys).1.0 first d others e)

entry_built : (f : List ℕ) (u v : List Token) → Keys u → Derives (Open p.Change ∷ []) (kinds_in v) → Derives (Open p.AfterName ∷ []) (k.Fixed t.OpenBracket ∷ kinds_in ((u ++ Fixed t.Dot ∷ Name f ∷ []) ++ Fixed t.Dot ∷ v))
entry_built f u v (first, others, d, e, same) c =
    subst (λ ts. Derives (Open p.AfterName ∷ []) (k.Fixed t.OpenBracket ∷ ts))
    (keys_then first others u (Fixed t.Dot ∷ Name f ∷ Fixed t.Dot ∷ v) same ∙ ap kinds_in (sym (append_assoc u (Fixed t.Dot ∷ Name f ∷ []) (Fixed t.Dot ∷ v))))
    ((made p.AfterName).1.1.0 first d others e (kinds_in v) c)

-- an update of a place
update_built : (place : Place Expression) (u v : List Token) → SpellsPlace place u → Derives (Open p.Change ∷ []) (kinds_in v) → Derives (Open p.Statement ∷ []) (kinds_in (u ++ Fixed t.Dot ∷ v))
update_built place u v (sx.place_name n) c = (made p.Statement).1.1.1.1.1.0 (k.Fixed t.Dot ∷ kinds_in v) ((made p.AfterName).1.0 (kinds_in v) ((made p.AfterDot).0 (kinds_in v) c))
update_built place u v (sx.place_field n f) c =
    (made p.Statement).1.1.1.1.1.0 (k.Fixed t.Dot ∷ k.Name ∷ k.Fixed t.Dot ∷ kinds_in v) ((made p.AfterName).1.0 (k.Name ∷ k.Fixed t.Dot ∷ kinds_in v) ((made p.AfterDot).1.0 (kinds_in v) c))
update_built place u v (sx.place_entry n keys f w h) c =
    (made p.Statement).1.1.1.1.1.0 (k.Fixed t.OpenBracket ∷ kinds_in ((w ++ Fixed t.Dot ∷ Name f ∷ []) ++ Fixed t.Dot ∷ v)) (entry_built f w v (keys_derived keys w h) c)

-- what stands behind the first name, in the two places where names go on
abbrev Named : List Token → Type 0
Named u = (rest : List Kind) × (kinds_in u ≡ k.Name ∷ rest) × Derives (Open p.ForeachTail ∷ []) rest × Derives (Open p.NameTail ∷ []) rest

longer_names : (x : List ℕ) (u : List Token) → Named u → Named (Name x ∷ Fixed t.Comma ∷ u)
longer_names x u (rest, same, first, d) = (
  k.Fixed t.Comma ∷ k.Name ∷ rest,
  ap (λ us. k.Name ∷ k.Fixed t.Comma ∷ us) same,
  (made p.ForeachTail).1.0 rest d,
  (made p.NameTail).1.0 rest d,
)

foreach_named : (u : List Token) → Named u → Derives (Open p.Statement ∷ []) (k.Fixed t.Foreach ∷ kinds_in u)
foreach_named u (rest, same, d, _) = subst (λ ts. Derives (Open p.Statement ∷ []) (k.Fixed t.Foreach ∷ ts)) (sym same) ((made p.Statement).1.1.1.1.1.1.1.1.0 rest d)

entries_named : (x n f : List ℕ) (v : List Token) → Derives (Open p.Block ∷ []) (kinds_in v) → Named (Name x ∷ Fixed t.In ∷ Fixed t.Entries ∷ Name n ∷ Fixed t.Dot ∷ Name f ∷ v)
entries_named x n f v d =
    let entries : Derives (Open p.Entries ∷ []) (kinds_in (Fixed t.Entries ∷ Name n ∷ Fixed t.Dot ∷ Name f ∷ v)) = (made p.Entries).0 (kinds_in v) d in
    let rest : List Kind = kinds_in (Fixed t.Entries ∷ Name n ∷ Fixed t.Dot ∷ Name f ∷ v) in
    (k.Fixed t.In ∷ rest, refl, (made p.ForeachTail).0 rest ((made p.ForeachIn).1.0 rest entries), (made p.NameTail).0 rest entries)

mutual
  statement_built : (x : Statement) (u : List Token) → SpellsStatement x u → Derives (Open p.Statement ∷ []) (kinds_in u)
  statement_built x u (sy.define y e v h) = rw (map-append kind_of v (Fixed t.Semicolon ∷ []))
      ((made p.Statement).1.1.1.1.0 (kinds_in v ++ k.Fixed t.Semicolon ∷ []) ((made p.Initializer).0 (kinds_in v) (expression_derived e v h)))
  statement_built x u (sy.create y n keys v h) = rw (map-append kind_of v (Fixed t.Semicolon ∷ []))
      ((made p.Statement).1.1.1.1.0 (k.Fixed t.New ∷ k.Name ∷ (kinds_in v ++ k.Fixed t.Semicolon ∷ [])) ((made p.Initializer).1.0 (kinds_in v) (new_keys_built keys v h)))
  statement_built x u (sy.assign y e v h) = rw (map-append kind_of v (Fixed t.Semicolon ∷ []))
      ((made p.Statement).1.1.1.1.1.0 (k.Fixed t.Assign ∷ (kinds_in v ++ k.Fixed t.Semicolon ∷ [])) ((made p.AfterName).0 (kinds_in v) (expression_derived e v h)))
  statement_built x u (sy.update place op e v w h i) = update_built place v w h (change_built op e w i)
  statement_built x u (sy.delete y) = (made p.Statement).1.1.1.0
  statement_built x u (sy.if_else e first second v w y h i j) = rw (map-append kind_of v (w ++ y), map-append kind_of w y)
      ((made p.Statement).1.1.1.1.1.1.0 (kinds_in v) (expression_derived e v h) (kinds_in w) (block_built first w i) (kinds_in y) (else_built second y j))
  statement_built x u (sy.while e body v w h i) = rw (map-append kind_of v w) ((made p.Statement).1.1.1.1.1.1.1.0 (kinds_in v) (expression_derived e v h) (kinds_in w) (block_built body w i))
  statement_built x u (sy.for_all y n body v h) = (made p.Statement).1.1.1.1.1.1.1.1.0 (k.Fixed t.In ∷ k.Fixed t.All ∷ k.Name ∷ kinds_in v)
      ((made p.ForeachTail).0 (k.Fixed t.All ∷ k.Name ∷ kinds_in v) ((made p.ForeachIn).0 (kinds_in v) (block_built body v h)))
  statement_built x u (sy.for_entries xs n f body v h) = foreach_named v (each_built xs n f body v h)
  statement_built x u (sy.print e v h) = rw (map-append kind_of v (Fixed t.Semicolon ∷ [])) ((made p.Statement).1.1.0 (kinds_in v) (expression_derived e v h))
  statement_built x u sy.yield = (made p.Statement).0
  statement_built x u sy.flush = (made p.Statement).1.0

  block_built : (xs : List Statement) (u : List Token) → SpellsBlock xs u → Derives (Open p.Block ∷ []) (kinds_in u)
  block_built xs u (sy.block body v h) = (made p.Block).0 (kinds_in v) (body_built body v h)

  body_built : (xs : List Statement) (u : List Token) → SpellsBody xs u → Derives (Open p.StatementTail ∷ []) (kinds_in u)
  body_built xs u sy.no_statements = (made p.StatementTail).0
  body_built xs u (sy.more_statements y ys v w h i) = rw (map-append kind_of v w) ((made p.StatementTail).1.0 (kinds_in v) (statement_built y v h) (kinds_in w) (body_built ys w i))

  else_built : (xs : Option (List Statement)) (u : List Token) → SpellsElse xs u → Derives (Open p.Else ∷ []) (kinds_in u)
  else_built xs u sy.no_else = (made p.Else).0
  else_built xs u (sy.else_block body v h) = (made p.Else).1.0 (kinds_in v) (block_built body v h)

  each_built : (xs : List (List ℕ)) (n f : List ℕ) (body : List Statement) (u : List Token) → SpellsEach xs n f body u → Named u
  each_built xs n f body u (sy.last_name x _ _ _ v h) = entries_named x n f v (block_built body v h)
  each_built xs n f body u (sy.more_names x ys _ _ _ v h) = longer_names x v (each_built ys n f body v h)

pub body_derived : (xs : List Statement) (u : List Token) → SpellsBlock xs u → Derives (Open p.Block ∷ []) (kinds_in u)
body_derived xs u h = block_built xs u h
