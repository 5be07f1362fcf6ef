use Rattle.std.proofs.Common.{rules, tests, sym, ◌∙◌}
use Rattle.std.specs.Str.{bytes_eq}
use Rattle.std.proofs.lemmas.Iterator.{YieldsList-from_slice}
use Rattle.std.proofs.lemmas.Iterator.Search.{position_from_yields_List}
use Rattle.source_tree.specs.declared.program.Client.{Client}
use Rattle.kind_names.proofs.Places.{first_place_position}
use Rattle.kind_check.proofs.Whose.{place_in_names}
use Rattle.kind_check.proofs.schedule.client_number.Goals as goal

pub returns : goal.returns
returns c =
    c.as_client.ensures
    ∙ position_from_yields_List (λ (x : Client). bytes_eq x.name c.args.name.now) _ _ c.position.result c.position.ensures.ran (YieldsList-from_slice c.args.clients.now cc) (λ x b q k. search (rules, tests))
    ∙ sym (first_place_position (λ (x : Client). bytes_eq x.name c.args.name.now) c.args.clients.now)
    ∙ sym (place_in_names c.args.name.now c.args.clients.now)
