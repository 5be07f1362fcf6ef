use Rattle.std.proofs.Common.{sym, ◌∙◌, ap, List}
use Rattle.std.specs.Prelude.{is_some}
use Rattle.cloud_base.specs.Values.{Id}
use Rattle.cloud_base.specs.contracts.key.UidOrd.TheImpl as derived
use Rattle.fj_entity.specs.Fates.{Fate, fate_at}
use Rattle.fj_entity.proofs.KeptLemmas.{copied_some, at_order, known_kept}
use Rattle.fj_entity.proofs.roster.Roster.is_known.Goals as goal

pub returns : goal.returns
returns c =
    let r = c.self.inside in
    c.is_some.ensures ∙ sym (copied_some c.get.result) ∙ ap is_some (c.get.ensures ∙ at_order derived.ghosts.cmp c.derived_orders.ensures.ids c.args.id r.known)
    ∙ sym (known_kept r.known r.births c.args.id) ∙ ap (λ (l : List (Id × Fate)). is_some (fate_at l c.args.id)) c.self.view_is
