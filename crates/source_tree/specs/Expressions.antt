-- How an expression is spelled in tokens, level by level of the grammar.
use Rattle.std.specs.Prelude.{ℕ, true, false, List, [], ◌∷◌, ◌++◌}
use Rattle.source_tokens.specs.declared.terminal.Terminal.{Terminal}
use Rattle.source_tokens.specs.declared.terminal.Terminal.TheVariants as t
use Rattle.source_tokens.specs.declared.token.Token.{Token}
use Rattle.source_tokens.specs.declared.token.Token.TheVariants.{Name, Number, Text, Fixed}
use Rattle.source_tree.specs.declared.expression.Operator.{Operator}
use Rattle.source_tree.specs.declared.expression.Operator.TheVariants as o
use Rattle.source_tree.specs.declared.expression.Level.{Level}
use Rattle.source_tree.specs.declared.expression.Level.TheVariants as l
use Rattle.source_tree.specs.declared.expression.Place.{Place}
use Rattle.source_tree.specs.declared.expression.Place.TheVariants as place
use Rattle.source_tree.specs.declared.expression.Expression.{Expression}
use Rattle.source_tree.specs.declared.expression.Expression.TheVariants as e

-- a token is the operator of a level
pub data Operates : Level → Terminal → Operator → Type 0 where
  or : Operates l.Choice t.Or o.Or
  and : Operates l.Conjunction t.And o.And
  equal : Operates l.Comparison t.Equal o.Equal
  not_equal : Operates l.Comparison t.NotEqual o.NotEqual
  less : Operates l.Comparison t.Less o.Less
  less_or_equal : Operates l.Comparison t.LessOrEqual o.LessOrEqual
  greater : Operates l.Comparison t.Greater o.Greater
  greater_or_equal : Operates l.Comparison t.GreaterOrEqual o.GreaterOrEqual
  plus : Operates l.Sum t.Plus o.Plus
  minus : Operates l.Sum t.Minus o.Minus
  concat : Operates l.Sum t.Concat o.Concat
  times : Operates l.Term t.Times o.Times
  divide : Operates l.Term t.Divide o.Divide
  remainder : Operates l.Term t.Remainder o.Remainder

mutual
  pub data Spells : Level → Expression → List Token → Type 0 where
    -- expr = conj { "or" conj }
    choice_conjunction : (e : Expression) (u : List Token) → Spells l.Conjunction e u → Spells l.Choice e u
    choice_or : (a b : Expression) (u v : List Token) → Spells l.Choice a u → Spells l.Conjunction b v → Spells l.Choice (e.Binary o.Or a b) (u ++ Fixed t.Or ∷ v)
    -- conj = neg { "and" neg }
    conjunction_negation : (e : Expression) (u : List Token) → Spells l.Negation e u → Spells l.Conjunction e u
    conjunction_and : (a b : Expression) (u v : List Token) → Spells l.Conjunction a u → Spells l.Negation b v → Spells l.Conjunction (e.Binary o.And a b) (u ++ Fixed t.And ∷ v)
    -- neg = "not" neg | comp
    negation_comparison : (e : Expression) (u : List Token) → Spells l.Comparison e u → Spells l.Negation e u
    negation_not : (a : Expression) (u : List Token) → Spells l.Negation a u → Spells l.Negation (e.Not a) (Fixed t.Not ∷ u)
    -- comp = sum [ cmp sum ]
    comparison_sum : (e : Expression) (u : List Token) → Spells l.Sum e u → Spells l.Comparison e u
    comparison_two : (w : Terminal) (op : Operator) (a b : Expression) (u v : List Token) → Operates l.Comparison w op → Spells l.Sum a u → Spells l.Sum b v
        → Spells l.Comparison (e.Binary op a b) (u ++ Fixed w ∷ v)
    -- sum = term { ( "+" | "-" | "++" ) term }
    sum_term : (e : Expression) (u : List Token) → Spells l.Term e u → Spells l.Sum e u
    sum_two : (w : Terminal) (op : Operator) (a b : Expression) (u v : List Token) → Operates l.Sum w op → Spells l.Sum a u → Spells l.Term b v
        → Spells l.Sum (e.Binary op a b) (u ++ Fixed w ∷ v)
    -- term = factor { ( "*" | "/" | "%" ) factor }
    term_factor : (e : Expression) (u : List Token) → Spells l.Factor e u → Spells l.Term e u
    term_two : (w : Terminal) (op : Operator) (a b : Expression) (u v : List Token) → Operates l.Term w op → Spells l.Term a u → Spells l.Factor b v
        → Spells l.Term (e.Binary op a b) (u ++ Fixed w ∷ v)
    -- factor = "-" factor | atom
    factor_minus : (a : Expression) (u : List Token) → Spells l.Factor a u → Spells l.Factor (e.Minus a) (Fixed t.Minus ∷ u)
    -- atom = NUMBER | TEXT | "true" | "false" | "alive" NAME | place | "(" expr ")"
    factor_number : (n : ℕ) → Spells l.Factor (e.Number n) (Number n ∷ [])
    factor_text : (bytes : List ℕ) → Spells l.Factor (e.Text bytes) (Text bytes ∷ [])
    factor_true : Spells l.Factor (e.Truth true) (Fixed t.True ∷ [])
    factor_false : Spells l.Factor (e.Truth false) (Fixed t.False ∷ [])
    factor_alive : (x : List ℕ) → Spells l.Factor (e.Alive x) (Fixed t.Alive ∷ Name x ∷ [])
    factor_place : (p : Place Expression) (u : List Token) → SpellsPlace p u → Spells l.Factor (e.Place p) u
    factor_brackets : (e : Expression) (u : List Token) → Spells l.Choice e u → Spells l.Factor e (Fixed t.OpenParen ∷ (u ++ Fixed t.CloseParen ∷ []))

  -- place = NAME | NAME "." NAME | NAME "[" exprs "]" "." NAME
  pub data SpellsPlace : Place Expression → List Token → Type 0 where
    place_name : (x : List ℕ) → SpellsPlace (place.Name x) (Name x ∷ [])
    place_field : (x p : List ℕ) → SpellsPlace (place.Field x p) (Name x ∷ Fixed t.Dot ∷ Name p ∷ [])
    place_entry : (x : List ℕ) (keys : List Expression) (p : List ℕ) (u : List Token) → SpellsKeys keys u
        → SpellsPlace (place.Entry x keys p) (Name x ∷ Fixed t.OpenBracket ∷ (u ++ Fixed t.Dot ∷ Name p ∷ []))

  -- exprs = expr { "," expr }, and the closing bracket
  pub data SpellsKeys : List Expression → List Token → Type 0 where
    last_key : (e : Expression) (u : List Token) → Spells l.Choice e u → SpellsKeys (e ∷ []) (u ++ Fixed t.CloseBracket ∷ [])
    more_keys : (e : Expression) (es : List Expression) (u v : List Token) → Spells l.Choice e u → SpellsKeys es v → SpellsKeys (e ∷ es) (u ++ Fixed t.Comma ∷ v)
