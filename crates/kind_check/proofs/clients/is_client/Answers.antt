use Rattle.std.proofs.Common.{rules, tests, sym, ◌∙◌}
use Rattle.std.specs.Str.{bytes_eq}
use Rattle.std.proofs.lemmas.Iterator.{YieldsList-from_slice}
use Rattle.std.proofs.lemmas.Iterator.Search.{any_from_yields_List}
use Rattle.source_tree.specs.declared.program.Client.{Client}
use Rattle.kind_check.proofs.Whose.{among_names}
use Rattle.kind_check.proofs.clients.is_client.Goals as goal

pub returns : goal.returns
returns c =
    any_from_yields_List (λ (x : Client). bytes_eq x.name c.args.name.now) _ _ c.any.result c.any.ensures.ran (YieldsList-from_slice c.args.clients.now cc) (λ x b q k. search (rules, tests))
    ∙ sym (among_names c.args.name.now c.args.clients.now)
