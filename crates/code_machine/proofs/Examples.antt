-- A worked example of a valid code that goes through a listing.
use Rattle.std.proofs.Common.{◌≡◌, refl, sym, ap, ◌∙◌, subst, lit<, lit≤}
use Rattle.std.proofs.lemmas.List.Elements.{All-nil, All-cons}
use Rattle.std.specs.Prelude.{pos, List, [], ◌∷◌}
use mathlib.Core.Logic.{inl, inr}
use Rattle.cloud_base.specs.Shaped.{IsSchema, AreKeyTypes, AreOwnersKeys}
use Rattle.cloud_base.specs.declared.schema.CellType.TheVariants as cell
use Rattle.cloud_base.specs.declared.schema.Owner.TheVariants as owner
use Rattle.cloud_base.specs.declared.schema.Property.{Property}
use Rattle.cloud_base.specs.declared.schema.Schema.{Schema}
use Rattle.typed_program.specs.declared.expression.Kind.{Kind}
use Rattle.typed_program.specs.declared.expression.Kind.TheVariants.{Int}
use Rattle.plain_vm.specs.declared.instruction.Literal.TheVariants as literal
use Rattle.plain_vm.specs.declared.instruction.Instruction.{Instruction}
use Rattle.plain_vm.specs.declared.instruction.Instruction.TheVariants as i
use Rattle.plain_vm.specs.Valid.{Shape, Serves, IsCode, first_shape, with_stack, with_listings}

abbrev number : Property
number = record { name = 103 ∷ []; owner = owner.Global; cell = cell.Int; keys = [] }

abbrev pub one_global : Schema
one_global = record { properties = number ∷ []; entities = [] }

one_global_is_schema : IsSchema one_global
one_global_is_schema = record {
  few_properties = lit≤ tt;
  few_entities = lit≤ tt;
  property_keys = All-cons (λ (p : Property). AreKeyTypes one_global p.keys) number [] (lit≤ tt, All-nil _) (All-nil _);
  owners_keys = All-cons (λ (p : Property). AreOwnersKeys p.owner p.keys) number [] refl (All-nil _);
  entity_keys = All-nil _;
}

abbrev with : List Kind → Shape
with stack = with_stack first_shape stack

same : (s : Shape) → Serves s s
same s = record { stack = refl; slots = λ n kind e. e; listings = refl }

abbrev pub lists : List Instruction
lists = i.Entries 0 ∷ i.Next 3 0 ∷ i.Jump 1 ∷ i.Push (literal.Int (pos 7)) ∷ i.Say ∷ i.End ∷ []

abbrev within : Shape
within = with_listings (with []) ([] ∷ [])

listed : IsCode one_global lists
listed = (
  one_global_is_schema,
  with [] ∷ within ∷ within ∷ with [] ∷ with (Int ∷ []) ∷ with [] ∷ [],
  record {
    begins = (with [], refl, same (with []));
    fine = (
      (number, refl, (within, refl, same within)),
      tt,
      (
        ([], [], refl, refl, (with [], refl, same (with [])), (within, refl, same within)),
        inl (lit< tt),
        (
          (within, refl, same within),
          inr tt,
          (
            (record { sfits = lit< tt }, (with (Int ∷ []), refl, same (with (Int ∷ [])))),
            tt,
            (
              (Int, [], refl, (with [], refl, same (with []))),
              tt,
              (
                tt,
                tt,
                tt,
              ),
            ),
          ),
        ),
      ),
    );
    last = refl;
  },
)

pub lists_is_code : (schema : Schema) (code : List Instruction) → schema.properties ≡ number ∷ [] → schema.entities ≡ [] → code ≡ lists → IsCode schema code
lists_is_code schema code p e c =
    let same : schema ≡ one_global = ap (λ x. record { properties = x; entities = schema.entities }) p ∙ ap (λ y. record { properties = number ∷ []; entities = y }) e in
    subst (λ s. IsCode s code) (sym same) (subst (IsCode one_global) (sym c) listed)
