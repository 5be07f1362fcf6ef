use Rattle.std.proofs.Common.{rules, tests, sym, ap, ◌∙◌}
use Rattle.std.specs.Str.{bytes_eq}
use Rattle.std.proofs.lemmas.Iterator.{YieldsList-from_slice}
use Rattle.std.proofs.lemmas.Iterator.Search.{position_from_yields_List}
use Rattle.kind_rules.specs.Names.{Variable, slot_of}
use Rattle.kind_names.proofs.Places.{first_place_position}
use Rattle.kind_names.proofs.variables.Variables.slot.Goals as goal

pub returns-clause-slot : goal.returns-clause-slot
returns-clause-slot c =
    c.as_slot.ensures
    ∙ position_from_yields_List (λ (v : Variable). bytes_eq v.name c.args.name.now) _ _ c.position.result c.position.ensures.ran (YieldsList-from_slice c.self.inside.items.items cc) (λ x b q k. search (rules, tests))
    ∙ sym (first_place_position (λ (v : Variable). bytes_eq v.name c.args.name.now) c.self.inside.items.items)
    ∙ ap (λ vs. slot_of vs c.args.name.now) c.self.view_is
