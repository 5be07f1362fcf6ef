use Rattle.std.proofs.Common.{sym, subst, List}
use Rattle.std.specs.Prelude.{Contains}
use Rattle.std.specs.Map.{keys_of}
use Rattle.cloud_base.proofs.OrderLemmas.{id_same}
use Rattle.fj_entity.specs.declared.groups.Member.{Member}
use Rattle.fj_entity.specs.Groups.{member_order, Keeps, IsIn}
use Rattle.fj_entity.proofs.GroupLemmas.{Orders, member_same, put_has, put_keeps}
use Rattle.fj_entity.proofs.groups.Groups.add.Goals as goal

pub returns-clause-keeps : goal.returns-clause-keeps
returns-clause-keeps c =
    let o = c.member_orders.ensures in
    let orders : Orders = record { by_parts = o.by_parts; apart = o.apart; tied = o.tied; same = o.same } in
    subst (λ (old : List Member). Keeps old (keys_of c.insert.new.self)) c.self.view_is
    (λ m h. subst (λ l. Contains (keys_of l) m) (sym c.in_ok-insert.ensures.ok) (put_keeps member_order (member_same orders id_same) c.self.inside.members (record { group = c.args.group; id = c.args.id }, tt) m h))

pub returns-clause-adds : goal.returns-clause-adds
returns-clause-adds c =
    subst (λ l. IsIn (keys_of l) c.args.group c.args.id) (sym c.in_ok-insert.ensures.ok) (put_has member_order c.self.inside.members (record { group = c.args.group; id = c.args.id }, tt))
