use Rattle.std.proofs.Common.{is_some, ap, ◌∙◌}
use Rattle.kind_rules.specs.Names.{Scope, first_place, is_among}
use Rattle.kind_names.specs.Keys.{of_name, goes_by}
use Rattle.kind_names.proofs.Places.{among_found}
use Rattle.kind_names.proofs.declared.Declared.is_taken.Goals as goal

pub returns : goal.returns
returns c =
    c.is_some.ensures
    ∙ ap is_some c.find-found.ensures
    ∙ ap (λ k. is_some (first_place (goes_by of_name k) c.as_slice.result.now)) c.global.ensures
    ∙ ap (λ xs. is_some (first_place (goes_by of_name (of_name c.args.name.now)) xs)) c.as_slice.ensures
    ∙ among_found c.args.name.now c.self.inside.taken
    ∙ ap (λ (s : Scope). is_among c.args.name.now s.taken) c.self.view_is
