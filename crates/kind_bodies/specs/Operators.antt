-- What an operator is in a typed expression.
use Rattle.std.specs.Prelude.{Bool, true, false}
use Rattle.source_tree.specs.declared.expression.Operator.{Operator}
use Rattle.source_tree.specs.declared.expression.Operator.TheVariants as o
use Rattle.typed_program.specs.declared.expression.Kind.{Kind}
use Rattle.typed_program.specs.declared.expression.Kind.TheVariants as kind
use Rattle.typed_program.specs.declared.expression.Operator.TheVariants as op
use Rattle.kind_bodies.specs.declared.operator.Connective.{Connective}
use Rattle.kind_bodies.specs.declared.operator.Connective.TheVariants.{Or, And, Binary}

abbrev pub typed_operator : Operator → Connective
typed_operator o.Or = Or
typed_operator o.And = And
typed_operator o.Equal = Binary op.Equal
typed_operator o.NotEqual = Binary op.NotEqual
typed_operator o.Less = Binary op.Less
typed_operator o.LessOrEqual = Binary op.LessOrEqual
typed_operator o.Greater = Binary op.Greater
typed_operator o.GreaterOrEqual = Binary op.GreaterOrEqual
typed_operator o.Plus = Binary op.Add
typed_operator o.Minus = Binary op.Subtract
typed_operator o.Concat = Binary op.Concat
typed_operator o.Times = Binary op.Multiply
typed_operator o.Divide = Binary op.Divide
typed_operator o.Remainder = Binary op.Remainder

-- whether values of a kind are less or greater than others
abbrev pub is_ordered : Kind → Bool
is_ordered kind.Int = true
is_ordered kind.Text = true
is_ordered kind.Truth = false
is_ordered (kind.Id entity) = false
