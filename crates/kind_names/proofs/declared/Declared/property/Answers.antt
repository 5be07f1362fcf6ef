use Rattle.std.proofs.Common.{length, arith, ap, ◌∙◌}
use Rattle.kind_rules.specs.Names.{Scope, first_place, property_of}
use Rattle.kind_names.specs.Keys.{named, of_property, goes_by}
use Rattle.kind_names.proofs.Places.{small_place, property_found}
use Rattle.kind_names.proofs.declared.Declared.property.Goals as goal

pub as_number-requires : goal.as_number-requires
as_number-requires c =
    let small = c.self.invariant.0 in
    small_place (goes_by of_property (named c.args.key)) c.as_slice-properties.result.now c.find.result c.find.ensures (omega (arith, ap length c.as_slice-properties.ensures, small))

pub returns : goal.returns
returns c =
    c.as_number.ensures ∙ c.find.ensures
    ∙ ap (first_place (goes_by of_property (named c.args.key))) c.as_slice-properties.ensures
    ∙ property_found c.self.inside.schema (named c.args.key)
    ∙ ap (λ (s : Scope). property_of s.schema (named c.args.key).0 (named c.args.key).1) c.self.view_is
