use Rattle.std.proofs.Common.{◌≡◌, subst, List, None}
use Rattle.cloud_base.specs.Values.{Id}
use Rattle.cloud_base.specs.Order.{same_id}
use Rattle.cloud_base.specs.contracts.key.UidOrd.TheImpl as derived
use Rattle.fj_entity.specs.Fates.{Fate, fate_at, buried}
use Rattle.fj_entity.specs.Kept.{fates_of}
use Rattle.fj_entity.proofs.KeptLemmas.{puts_by, buried_fates, buried_grouped}
use Rattle.fj_entity.proofs.roster.Roster.bury.Goals as goal

pub invariant_of-self : goal.invariant_of-self
invariant_of-self c =
    let r = c.self.inside in
    buried_grouped c.args.id r.known r.births c.remove.new.self r.groups c.leave_groups.new.groups
    (puts_by derived.ghosts.cmp c.derived_orders.ensures.ids c.args.id None r.births c.remove.new.self c.remove.ensures.updates) c.leave_groups.ensures c.self.invariant

pub returns : goal.returns
returns c =
    let r = c.self.inside in
    subst (λ (l : List (Id × Fate)). (x : Id) → fate_at (fates_of r.known c.remove.new.self) x ≡ buried (same_id c.args.id x) (fate_at l x)) c.self.view_is
    (buried_fates c.args.id r.known r.births c.remove.new.self
    (puts_by derived.ghosts.cmp c.derived_orders.ensures.ids c.args.id None r.births c.remove.new.self c.remove.ensures.updates))
