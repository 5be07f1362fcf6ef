-- Worked examples.
use Rattle.std.proofs.Common.{◌≡◌, ap, ◌∙◌}
use Rattle.std.specs.Prelude.{[], ◌∷◌, ◌++◌, codes, true}
use Rattle.source_tree.specs.declared.expression.Expression.{Expression}
use Rattle.source_tree.specs.declared.expression.Operator.TheVariants as o
use Rattle.source_tree.specs.declared.expression.Expression.TheVariants as e
use Rattle.source_tree.specs.declared.expression.Place.TheVariants as place
use Rattle.source_tree.specs.declared.statement.Statement.TheVariants as s
use Rattle.source_print.specs.Expressions.{Printed, operation, operand, operator_text, printed, expression_text}
use Rattle.source_print.specs.Statements.{statement_text, block_text}
use Rattle.source_print.proofs.Forms.{printed_truth, printed_name, printed_not, printed_minus, printed_binary, while_text, yield_text}

abbrev negated : Expression
negated = e.Not (e.Truth true)

abbrev added : Expression
added = e.Binary o.Plus (e.Place (place.Name (codes "x"))) negated

negated_text : printed negated ≡ operation (codes "not true")
negated_text = printed_not (e.Truth true) ∙ ap (λ p. operation (codes "not " ++ operand p)) (printed_truth true)

added_text : printed added ≡ operation (codes "x + (not true)")
added_text = printed_binary o.Plus (e.Place (place.Name (codes "x"))) negated ∙ ap (λ p. operation (operand p ++ operator_text o.Plus ++ operand (printed negated))) (printed_name (codes "x"))
    ∙ ap (λ p. operation (codes "x" ++ operator_text o.Plus ++ operand p)) negated_text

-- operators that are operands stand in parentheses
pub example_parentheses : expression_text (e.Minus added) ≡ codes "-(x + (not true))"
example_parentheses = ap (λ (p : Printed). p.text) (printed_minus added ∙ ap (λ p. operation (codes "-" ++ operand p)) added_text)

-- a block is two blanks deeper
pub example_block : statement_text (s.While (e.Truth true) (s.Yield ∷ [])) (codes "  ") ≡ codes "  while true {\n    yield;\n  }\n"
unfolding block_text
example_block = while_text (e.Truth true) (s.Yield ∷ []) (codes "  ")
    ∙ ap (λ (p : Printed). codes "  while " ++ p.text ++ codes " " ++ block_text (codes "  ") (s.Yield ∷ []) ++ codes "\n") (printed_truth true)
    ∙ ap (λ line. codes "  while true " ++ (codes "{\n" ++ (line ++ []) ++ codes "  " ++ codes "}") ++ codes "\n") (yield_text (codes "    "))
