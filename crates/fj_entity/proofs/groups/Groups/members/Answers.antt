use Rattle.std.proofs.Common.{◌∙◌, List, subst}
use Rattle.cloud_base.specs.Order.{id_order}
use Rattle.cloud_base.specs.Sorted.{Lists}
use Rattle.fj_entity.specs.declared.groups.Member.{Member}
use Rattle.fj_entity.specs.Groups.{IsIn}
use Rattle.fj_entity.proofs.GroupLemmas.{Orders, stretch_lists}
use Rattle.fj_entity.proofs.groups.Groups.members.Goals as goal

pub returns : goal.returns
returns c =
    let o = c.member_orders.ensures in
    let orders : Orders = record { by_parts = o.by_parts; apart = o.apart; tied = o.tied; same = o.same } in
    subst (λ (l : List Member). Lists id_order c.from_vec.result (IsIn l c.args.group)) c.self.view_is
    (stretch_lists orders c.args.group c.self.inside.members c.from_vec.result c.in_order.ensures (c.from_vec.ensures ∙ c.in_ok-ids.ensures))
