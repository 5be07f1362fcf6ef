-- The kind of an expression, and what its rule asks for.
use Rattle.std.proofs.Common.{◌≡◌, ap, sym, ◌∙◌}
use Rattle.std.specs.Prelude.{List}
use Rattle.cloud_base.specs.declared.schema.Schema.{Schema}
use Rattle.typed_program.specs.declared.expression.Expression.{Expression}
use Rattle.typed_program.specs.declared.expression.Expression.TheVariants as e
use Rattle.typed_program.specs.declared.expression.Expression.TheOpen.{Expression-F}
use Rattle.typed_program.specs.declared.expression.Expression.TheFolds.{fold-roll-Expression}
use Rattle.typed_program.specs.declared.expression.Kind.{Kind}
use Rattle.typed_program.specs.Kinds as kinds
use Rattle.typed_program.specs.Kinds.{HasKind, kind_of, kind_step, cell_kind, takes}
use Rattle.typed_program.proofs.Shaped.{type_at}

pub kind_is : (schema : Schema) (seen : List Kind) (a : Expression) (kind : Kind) → HasKind schema seen a kind → kind ≡ kind_of schema a
kind_is schema seen a kind (kinds.int n fits) = sym (ap (kind_of schema) (sym (e.rolls-Int n)) ∙ fold-roll-Expression Kind (kind_step schema) (Expression-F.Int n))
kind_is schema seen a kind (kinds.text bytes fits) = sym (ap (kind_of schema) (sym (e.rolls-Text bytes)) ∙ fold-roll-Expression Kind (kind_step schema) (Expression-F.Text bytes))
kind_is schema seen a kind (kinds.truth b) = sym (ap (kind_of schema) (sym (e.rolls-Truth b)) ∙ fold-roll-Expression Kind (kind_step schema) (Expression-F.Truth b))
kind_is schema seen a kind (kinds.slot n k there) = sym (ap (kind_of schema) (sym (e.rolls-Slot n k)) ∙ fold-roll-Expression Kind (kind_step schema) (Expression-F.Slot n k))
kind_is schema seen a kind (kinds.get number property keys there hs) = ap cell_kind (sym (type_at schema number property there)) ∙ sym (ap (kind_of schema) (sym (e.rolls-Get number keys)) ∙ fold-roll-Expression Kind (kind_step schema) (Expression-F.Get number keys))
kind_is schema seen a kind (kinds.alive n entity there) = sym (ap (kind_of schema) (sym (e.rolls-Alive n entity)) ∙ fold-roll-Expression Kind (kind_step schema) (Expression-F.Alive n entity))
kind_is schema seen a kind (kinds.minus b h) = sym (ap (kind_of schema) (sym (e.rolls-Minus b)) ∙ fold-roll-Expression Kind (kind_step schema) (Expression-F.Minus b))
kind_is schema seen a kind (kinds.not b h) = sym (ap (kind_of schema) (sym (e.rolls-Not b)) ∙ fold-roll-Expression Kind (kind_step schema) (Expression-F.Not b))
kind_is schema seen a kind (kinds.binary operator k x y t hx hy) = sym (ap (kind_of schema) (sym (e.rolls-Binary operator x y)) ∙ fold-roll-Expression Kind (kind_step schema) (Expression-F.Binary operator x y))
kind_is schema seen a kind (kinds.and x y hx hy) = sym (ap (kind_of schema) (sym (e.rolls-And x y)) ∙ fold-roll-Expression Kind (kind_step schema) (Expression-F.And x y))
kind_is schema seen a kind (kinds.or x y hx hy) = sym (ap (kind_of schema) (sym (e.rolls-Or x y)) ∙ fold-roll-Expression Kind (kind_step schema) (Expression-F.Or x y))
