-- Worked examples of valid codes.
use Rattle.std.proofs.Common.{◌≡◌, refl, sym, ap, ◌∙◌, subst, lit<, lit≤}
use Rattle.std.proofs.lemmas.List.Elements.{All-nil, All-cons}
use Rattle.std.specs.Prelude.{pos, true, List, [], ◌∷◌}
use mathlib.Core.Logic.{inl, inr}
use Rattle.cloud_base.specs.Shaped.{IsSchema, AreKeyTypes, AreOwnersKeys}
use Rattle.cloud_base.specs.declared.schema.CellType.TheVariants as cell
use Rattle.cloud_base.specs.declared.schema.Owner.TheVariants as owner
use Rattle.cloud_base.specs.declared.schema.Property.{Property}
use Rattle.cloud_base.specs.declared.schema.Schema.{Schema}
use Rattle.typed_program.specs.declared.expression.Kind.{Kind}
use Rattle.typed_program.specs.declared.expression.Kind.TheVariants.{Int, Truth}
use Rattle.plain_vm.specs.declared.instruction.Literal.TheVariants as literal
use Rattle.plain_vm.specs.declared.instruction.Instruction.{Instruction}
use Rattle.plain_vm.specs.declared.instruction.Instruction.TheVariants as i
use Rattle.plain_vm.specs.Valid.{Shape, Serves, IsValid, IsCode, first_shape, with_stack}

-- one global of integers
abbrev number : Property
number = record { name = 103 ∷ []; owner = owner.Global; cell = cell.Int; keys = [] }

abbrev one_global : Schema
one_global = record { properties = number ∷ []; entities = [] }

one_global_is_schema : IsSchema one_global
one_global_is_schema = record {
  few_properties = lit≤ tt;
  few_entities = lit≤ tt;
  property_keys = All-cons (λ (p : Property). AreKeyTypes one_global p.keys) number [] (lit≤ tt, All-nil _) (All-nil _);
  owners_keys = All-cons (λ (p : Property). AreOwnersKeys p.owner p.keys) number [] refl (All-nil _);
  entity_keys = All-nil _;
}

abbrev with : List Kind → Shape
with stack = with_stack first_shape stack

same : (s : Shape) → Serves s s
same s = record { stack = refl; slots = λ n kind e. e; listings = refl }

abbrev loops : List Instruction
loops = i.Begin ∷ i.Push (literal.Truth true) ∷ i.JumpIfFalse 6 ∷ i.Begin ∷ i.Yield ∷ i.Jump 0 ∷ i.End ∷ []

-- `while true { yield; }`
pub example_loop : IsCode one_global loops
example_loop = (
  one_global_is_schema,
  with [] ∷ with [] ∷ with (Truth ∷ []) ∷ with [] ∷ with [] ∷ with [] ∷ with [] ∷ [],
  record {
    begins = (with [], refl, same (with []));
    fine = (
      (with [], refl, same (with [])),
      tt,
      (
        (tt, (with (Truth ∷ []), refl, same (with (Truth ∷ [])))),
        tt,
        (
          ([], refl, (with [], refl, same (with [])), (with [], refl, same (with []))),
          inl (lit< tt),
          (
            (with [], refl, same (with [])),
            tt,
            (
              (with [], refl, same (with [])),
              tt,
              (
                (with [], refl, same (with [])),
                inr tt,
                (
                  tt,
                  tt,
                  tt,
                ),
              ),
            ),
          ),
        ),
      ),
    );
    last = refl;
  },
)

-- `print g;`
pub example_print : IsCode one_global (i.Begin ∷ i.Get 0 0 ∷ i.Say ∷ i.End ∷ [])
example_print = (
  one_global_is_schema,
  with [] ∷ with [] ∷ with (Int ∷ []) ∷ with [] ∷ [],
  record {
    begins = (with [], refl, same (with []));
    fine = (
      (with [], refl, same (with [])),
      tt,
      (
        (number, [], refl, refl, refl, (with (Int ∷ []), refl, same (with (Int ∷ [])))),
        tt,
        (
          (Int, [], refl, (with [], refl, same (with []))),
          tt,
          (
            tt,
            tt,
            tt,
          ),
        ),
      ),
    );
    last = refl;
  },
)

-- with nothing on the stack nothing can be said
pub example_no_operand : ¬ IsCode one_global (i.Say ∷ i.End ∷ [])
example_no_operand h = nothing_said h.1 h.2
  where
    nothing_said : (shapes : List Shape) → ¬ IsValid one_global (i.Say ∷ i.End ∷ []) shapes
    nothing_said [] h = absurd h.fine
    nothing_said (s ∷ shapes) h =
        let first : s ≡ h.begins.0 = cc (h.begins.1) in
        let empty : [] ≡ s.stack = h.begins.2.stack ∙ sym (ap (λ (t : Shape). t.stack) first) in
        let some : s.stack ≡ h.fine.0.0 ∷ h.fine.0.1 = h.fine.0.2 in
        cc

-- the last instruction is `end`
pub example_no_end : ¬ IsCode one_global (i.Begin ∷ i.Jump 0 ∷ [])
example_no_end h = let e = h.2.last in cc

abbrev says : List Instruction
says = i.Push (literal.Int (pos 7)) ∷ i.Say ∷ i.End ∷ []

abbrev empty : Schema
empty = record { properties = []; entities = [] }

-- a code that no source has
pub example_says : IsCode empty says
example_says = (
  record { few_properties = lit≤ tt; few_entities = lit≤ tt; property_keys = All-nil _; owners_keys = All-nil _; entity_keys = All-nil _ },
  with [] ∷ with (Int ∷ []) ∷ with [] ∷ [],
  record {
    begins = (with [], refl, same (with []));
    fine = ((record { sfits = lit< tt }, (with (Int ∷ []), refl, same (with (Int ∷ [])))), tt, ((Int, [], refl, (with [], refl, same (with []))), tt, (tt, tt, tt)));
    last = refl;
  },
)

pub says_is_code : (schema : Schema) (code : List Instruction) → schema.properties ≡ [] → schema.entities ≡ [] → code ≡ says → IsCode schema code
says_is_code schema code p e c =
    let same : schema ≡ empty = ap (λ x. record { properties = x; entities = schema.entities }) p ∙ ap (λ y. record { properties = []; entities = y }) e in
    subst (λ s. IsCode s code) (sym same) (subst (IsCode empty) (sym c) example_says)
