use Rattle.std.proofs.Common.{length, arith, ap, ◌∙◌}
use Rattle.kind_rules.specs.Names.{Scope, first_place, entity_of}
use Rattle.kind_names.specs.Keys.{named, of_entity, of_name, goes_by}
use Rattle.kind_names.proofs.Places.{small_place, entity_found}
use Rattle.kind_names.proofs.declared.Declared.entity.Goals as goal

pub as_number-requires : goal.as_number-requires
as_number-requires c =
    let small = c.self.invariant.1 in
    small_place (goes_by of_entity (named c.global.result)) c.as_slice-entities.result.now c.find.result c.find.ensures (omega (arith, ap length c.as_slice-entities.ensures, small))

pub returns : goal.returns
returns c =
    c.as_number.ensures ∙ c.find.ensures
    ∙ ap (λ k. first_place (goes_by of_entity k) c.as_slice-entities.result.now) c.global.ensures
    ∙ ap (first_place (goes_by of_entity (of_name c.args.name.now))) c.as_slice-entities.ensures
    ∙ entity_found c.self.inside.schema c.args.name.now
    ∙ ap (λ (s : Scope). entity_of s.schema c.args.name.now) c.self.view_is
