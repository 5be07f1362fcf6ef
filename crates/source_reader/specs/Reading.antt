-- How an expression is read from tokens: what stands in brackets, behind a prefix operator or as a key is read
-- by the reader that is given. A reader reads what has at most a height, and nothing else.
use Rattle.std.specs.Prelude.{ℕ, zero, suc, ◌+◌, ◌-◌, max, nat_le, ◌==◌, true, false, if◌then◌else◌, List, [], ◌∷◌, ◌++◌, length, Option, Some, None, option_and_then}
use denote.Enum.Bare.{sameb}
use Rattle.source_tokens.specs.contracts.terminal.Terminal.{the_type}
use Rattle.source_tokens.specs.declared.terminal.Terminal.{Terminal}
use Rattle.source_tokens.specs.declared.terminal.Terminal.TheVariants as t
use Rattle.source_tokens.specs.declared.token.Token.{Token}
use Rattle.source_tokens.specs.declared.token.Token.TheVariants.{Name, Number, Text, Fixed}
use Rattle.source_tree.specs.declared.expression.Operator.{Operator}
use Rattle.source_tree.specs.declared.expression.Operator.TheVariants as o
use Rattle.source_tree.specs.declared.expression.Level.{Level}
use Rattle.source_tree.specs.declared.expression.Level.TheVariants as l
use Rattle.source_tree.specs.declared.expression.Place.{Place}
use Rattle.source_tree.specs.declared.expression.Place.TheVariants as place
use Rattle.source_tree.specs.declared.expression.Expression.{Expression}
use Rattle.source_tree.specs.declared.expression.Expression.TheVariants as e

-- a value and what is behind it
abbrev pub Reads : Type 0 → Type 0
Reads A = Option (A × List Token)

-- a value, its height and what is behind it
abbrev pub ReadsHigh : Type 0 → Type 0
ReadsHigh A = Option (A × ℕ × List Token)

-- what reads expressions of at most a height
abbrev pub Reader : Type 0
Reader = ℕ → List Token → ReadsHigh Expression

infixl 10 ◌>>=◌
abbrev pub ◌>>=◌ : {A B : Type 0} → Option A → (A → Option B) → Option B
o >>= f = option_and_then f o

-- a value, where it isn't too high
abbrev pub within : {A : Type 0} → ℕ → A → ℕ → List Token → ReadsHigh A
within high a height rest = if nat_le height high then Some (a, height, rest) else None

-- what is behind a fixed token
unfoldable pub behind : Terminal → List Token → Option (List Token)
behind w [] = None
behind w (Fixed v ∷ rest) = if sameb the_type v w then Some rest else None
behind w (Name x ∷ rest) = None
behind w (Number n ∷ rest) = None
behind w (Text bytes ∷ rest) = None

-- a name and what is behind it
unfoldable pub name_at : List Token → Reads (List ℕ)
name_at [] = None
name_at (Name x ∷ rest) = Some (x, rest)
name_at (Number n ∷ rest) = None
name_at (Text bytes ∷ rest) = None
name_at (Fixed w ∷ rest) = None

-- the operator of a level that a token is
unfoldable pub operator_of : Level → Terminal → Option Operator
operator_of l.Choice t.Or = Some o.Or
operator_of l.Conjunction t.And = Some o.And
operator_of l.Comparison t.Equal = Some o.Equal
operator_of l.Comparison t.NotEqual = Some o.NotEqual
operator_of l.Comparison t.Less = Some o.Less
operator_of l.Comparison t.LessOrEqual = Some o.LessOrEqual
operator_of l.Comparison t.Greater = Some o.Greater
operator_of l.Comparison t.GreaterOrEqual = Some o.GreaterOrEqual
operator_of l.Sum t.Plus = Some o.Plus
operator_of l.Sum t.Minus = Some o.Minus
operator_of l.Sum t.Concat = Some o.Concat
operator_of l.Term t.Times = Some o.Times
operator_of l.Term t.Divide = Some o.Divide
operator_of l.Term t.Remainder = Some o.Remainder
operator_of level w = None

-- an operator of a level and what is behind it
unfoldable pub operator_at : Level → List Token → Reads Operator
operator_at level [] = None
operator_at level (Fixed w ∷ rest) = operator_of level w >>= λ op. Some (op, rest)
operator_at level (Name x ∷ rest) = None
operator_at level (Number n ∷ rest) = None
operator_at level (Text bytes ∷ rest) = None

-- further keys, at most so many, behind those that are there; and the closing bracket
unfoldable pub keys_by : ℕ → Reader → ℕ → List Expression → ℕ → List Token → ReadsHigh (List Expression)
keys_by zero inner high keys height tokens = None
keys_by (suc n) inner high keys height tokens = inner high tokens >>= λ key. elim (behind t.Comma key.2) [
  | Some rest ↦ keys_by n inner high (keys ++ key.0 ∷ []) (max height key.1) rest
  | None ↦ behind t.CloseBracket key.2 >>= λ rest. Some (keys ++ key.0 ∷ [], max height key.1, rest)
]

-- the keys, and the property behind them
unfoldable pub entry_by : Reader → ℕ → List ℕ → List Token → ReadsHigh (Place Expression)
entry_by inner high x tokens = keys_by (length tokens) inner (high - 1) [] 0 tokens >>= λ keys. behind t.Dot keys.2 >>= λ rest. name_at rest
    >>= λ p. within high (place.Entry x keys.0 p.0) (keys.1 + 1) p.1

-- a place that begins with this name
unfoldable pub place_by : Reader → ℕ → List ℕ → List Token → ReadsHigh (Place Expression)
place_by inner high x (Fixed t.Dot ∷ rest) = name_at rest >>= λ p. within high (place.Field x p.0) 2 p.1
place_by inner high x (Fixed t.OpenBracket ∷ rest) = entry_by inner high x rest
place_by inner high x rest = within high (place.Name x) 1 rest

abbrev pub alive_by : Reader
alive_by high tokens = name_at tokens >>= λ x. within high (e.Alive x.0) 1 x.1

unfoldable pub minus_by : Reader → Reader
minus_by inner high tokens = if high == 0 then None else (inner (high - 1) tokens >>= λ a. within high (e.Minus a.0) (a.1 + 1) a.2)

unfoldable pub bracketed_by : Reader → Reader
bracketed_by inner high tokens = inner high tokens >>= λ a. behind t.CloseParen a.2 >>= λ rest. Some (a.0, a.1, rest)

-- a factor; inner levels are read by the reader that is given
unfoldable pub factor_by : (Level → Reader) → Reader
factor_by inner high [] = None
factor_by inner high (Number n ∷ rest) = within high (e.Number n) 1 rest
factor_by inner high (Text bytes ∷ rest) = within high (e.Text bytes) 1 rest
factor_by inner high (Name x ∷ rest) = place_by (inner l.Choice) high x rest >>= λ p. Some (e.Place p.0, p.1, p.2)
factor_by inner high (Fixed t.True ∷ rest) = within high (e.Truth true) 1 rest
factor_by inner high (Fixed t.False ∷ rest) = within high (e.Truth false) 1 rest
factor_by inner high (Fixed t.Alive ∷ rest) = alive_by high rest
factor_by inner high (Fixed t.Minus ∷ rest) = minus_by (inner l.Factor) high rest
factor_by inner high (Fixed t.OpenParen ∷ rest) = bracketed_by (inner l.Choice) high rest
factor_by inner high (Fixed w ∷ rest) = None

-- further operands of a level, at most so many, joined to what is there
unfoldable pub chain_by : ℕ → Level → Reader → ℕ → Expression → ℕ → List Token → ReadsHigh Expression
chain_by zero level operand high left height tokens = Some (left, height, tokens)
chain_by (suc n) level operand high left height tokens = elim (operator_at level tokens) [
  | None ↦ Some (left, height, tokens)
  | Some found ↦ operand (high - 1) found.1 >>= λ right. within high (e.Binary found.0 left right.0) (max height right.1 + 1) right.2
      >>= λ next. chain_by n level operand high next.0 next.1 next.2
]

-- how many operators may stand in a chain: one comparison, any number of others
abbrev pub turns : Level → List Token → ℕ
turns l.Comparison tokens = 1
turns level tokens = length tokens

-- a chain of operands of a level
abbrev pub chain : Level → Reader → Reader
chain level operand high tokens = operand high tokens >>= λ first. chain_by (turns level tokens) level operand high first.0 first.1 first.2

abbrev pub term_by : (Level → Reader) → Reader
term_by inner = chain l.Term (factor_by inner)

abbrev pub sum_by : (Level → Reader) → Reader
sum_by inner = chain l.Sum (term_by inner)

abbrev pub comparison_by : (Level → Reader) → Reader
comparison_by inner = chain l.Comparison (sum_by inner)

unfoldable pub not_by : Reader → Reader
not_by inner high tokens = if high == 0 then None else (inner (high - 1) tokens >>= λ a. within high (e.Not a.0) (a.1 + 1) a.2)

unfoldable pub negation_by : (Level → Reader) → Reader
negation_by inner high tokens = elim (behind t.Not tokens) [
  | None ↦ comparison_by inner high tokens
  | Some rest ↦ not_by (inner l.Negation) high rest
]

abbrev pub conjunction_by : (Level → Reader) → Reader
conjunction_by inner = chain l.Conjunction (negation_by inner)

abbrev pub choice_by : (Level → Reader) → Reader
choice_by inner = chain l.Choice (conjunction_by inner)

-- an expression of a level
abbrev pub level_by : Level → (Level → Reader) → Reader
level_by l.Choice = choice_by
level_by l.Conjunction = conjunction_by
level_by l.Negation = negation_by
level_by l.Comparison = comparison_by
level_by l.Sum = sum_by
level_by l.Term = term_by
level_by l.Factor = factor_by

-- an expression of a level, with at most so many brackets and prefix operators round its parts
unfoldable pub level_at : ℕ → Level → Reader
level_at zero level high tokens = None
level_at (suc depth) level high tokens = level_by level (level_at depth) high tokens

abbrev pub rank : Level → ℕ
rank l.Choice = 6
rank l.Conjunction = 5
rank l.Negation = 4
rank l.Comparison = 3
rank l.Sum = 2
rank l.Term = 1
rank l.Factor = 0
