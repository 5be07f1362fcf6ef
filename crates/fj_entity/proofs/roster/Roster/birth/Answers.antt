use Rattle.std.proofs.Common.{sym, ◌∙◌, ap, List}
use Rattle.cloud_base.specs.Values.{Id}
use Rattle.cloud_base.specs.contracts.key.UidOrd.TheImpl as derived
use Rattle.fj_entity.specs.Fates.{Fate, fate_at}
use Rattle.fj_entity.specs.Kept.{birth_in}
use Rattle.fj_entity.proofs.KeptLemmas.{at_order, birth_kept}
use Rattle.fj_entity.proofs.roster.Roster.birth.Goals as goal

pub returns : goal.returns
returns c =
    let r = c.self.inside in
    c.get.ensures ∙ at_order derived.ghosts.cmp c.derived_orders.ensures.ids c.args.id r.births
    ∙ sym (birth_kept r.known r.births r.groups c.self.invariant c.args.id) ∙ ap (λ (l : List (Id × Fate)). birth_in (fate_at l c.args.id)) c.self.view_is
