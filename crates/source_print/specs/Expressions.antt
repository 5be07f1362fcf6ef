-- How expressions are printed.
use Rattle.std.specs.Prelude.{◌≡◌, refl, ℕ, Bool, true, false, ◌==◌, ◌||◌, List, [], ◌∷◌, ◌++◌, map, if◌then◌else◌, codes, decimal}
use Rattle.std.specs.List.{flat_map}
use Rattle.source_tree.specs.declared.expression.Operator.{Operator}
use Rattle.source_tree.specs.declared.expression.Operator.TheVariants as o
use Rattle.source_tree.specs.declared.expression.Place.{Place}
use Rattle.source_tree.specs.declared.expression.Place.TheVariants as place
use Rattle.source_tree.specs.declared.expression.Expression.{Expression}
use Rattle.source_tree.specs.declared.expression.Expression.TheFolds.{fold-Expression}
use Rattle.source_tree.specs.declared.expression.Expression.TheOpen.{Expression-F}

-- a byte of a text: a backslash stands before a quote and before a backslash
abbrev pub escaped : ℕ → List ℕ
escaped byte = if (byte == 34) || (byte == 92) then 92 ∷ byte ∷ [] else byte ∷ []

-- a text, in quotes
abbrev pub quoted : List ℕ → List ℕ
quoted bytes = codes "\"" ++ flat_map escaped bytes ++ codes "\""

abbrev pub truth_text : Bool → List ℕ
truth_text true = codes "true"
truth_text false = codes "false"

-- an operator between two operands, with a blank on each side
abbrev pub operator_text : Operator → List ℕ
operator_text o.Or = codes " or "
operator_text o.And = codes " and "
operator_text o.Equal = codes " == "
operator_text o.NotEqual = codes " != "
operator_text o.Less = codes " < "
operator_text o.LessOrEqual = codes " <= "
operator_text o.Greater = codes " > "
operator_text o.GreaterOrEqual = codes " >= "
operator_text o.Plus = codes " + "
operator_text o.Minus = codes " - "
operator_text o.Concat = codes " ++ "
operator_text o.Times = codes " * "
operator_text o.Divide = codes " / "
operator_text o.Remainder = codes " % "

-- what stands behind the first of several: each with a comma and a blank before it, and then what closes them
abbrev pub following : List ℕ → List (List ℕ) → List ℕ
following close [] = close
following close (x ∷ xs) = codes ", " ++ x ++ following close xs

-- one after another, with a comma and a blank between them, and then what closes them
abbrev pub separated : List ℕ → List (List ℕ) → List ℕ
separated close [] = close
separated close (x ∷ xs) = x ++ following close xs

-- the text of an expression, and whether it is an operator with its operands
pub record Printed : Type 0 where
  pub text : List ℕ
  pub operator : Bool

abbrev pub alone : List ℕ → Printed
alone text = record { text = text; operator = false }

abbrev pub operation : List ℕ → Printed
operation text = record { text = text; operator = true }

-- an operand that is itself an operator stands in parentheses, and nothing else does
abbrev pub operand : Printed → List ℕ
operand p = if p.operator then codes "(" ++ p.text ++ codes ")" else p.text

abbrev pub texts : List Printed → List (List ℕ)
texts ps = map (λ (p : Printed). p.text) ps

-- `g`, `x.p` or `A[e1, e2].p`
abbrev pub place_step : Place Printed → List ℕ
place_step (place.Name x) = x
place_step (place.Field x p) = x ++ codes "." ++ p
place_step (place.Entry x keys p) = x ++ codes "[" ++ separated (codes "]") (texts keys) ++ codes "." ++ p

-- an expression, from its parts
abbrev pub expression_step : Expression-F Printed → Printed
expression_step (Expression-F.Number n) = alone (decimal n)
expression_step (Expression-F.Text bytes) = alone (quoted bytes)
expression_step (Expression-F.Truth b) = alone (truth_text b)
expression_step (Expression-F.Alive x) = alone (codes "alive " ++ x)
expression_step (Expression-F.Place p) = alone (place_step p)
expression_step (Expression-F.Minus a) = operation (codes "-" ++ operand a)
expression_step (Expression-F.Not a) = operation (codes "not " ++ operand a)
expression_step (Expression-F.Binary op a b) = operation (operand a ++ operator_text op ++ operand b)

unfoldable pub printed : Expression → Printed
printed = fold-Expression Printed expression_step

abbrev pub expression_text : Expression → List ℕ
expression_text e = (printed e).text

abbrev pub operand_text : Expression → List ℕ
operand_text e = operand (printed e)

-- keys in brackets, behind the opening one
abbrev pub keys_text : List Expression → List ℕ
keys_text keys = separated (codes "]") (map expression_text keys)

-- a quote and a backslash in a text, and keys with what closes them
pub example_texts : (quoted (codes "a\"\\") ≡ codes "\"a\\\"\\\\\"") × (separated (codes "]") (codes "1" ∷ codes "x" ∷ []) ≡ codes "1, x]")
example_texts = (refl, refl)

-- an operator that is an operand stands in parentheses
pub example_operand : operand (operation (codes "1 + 2")) ≡ codes "(1 + 2)"
example_operand = refl
