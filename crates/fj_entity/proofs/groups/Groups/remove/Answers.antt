use Rattle.std.proofs.Common.{sym, subst, List}
use Rattle.std.specs.Map.{keys_of}
use Rattle.fj_entity.specs.declared.groups.Member.{Member}
use Rattle.fj_entity.specs.Groups.{IsIn, Keeps, KeepsOthers}
use Rattle.fj_entity.proofs.GroupLemmas.{Orders, taken_keeps, taken_fewer, taken_leaves}
use Rattle.fj_entity.proofs.groups.Groups.remove.Goals as goal

pub returns-clause-keeps : goal.returns-clause-keeps
returns-clause-keeps c =
    let o = c.member_orders.ensures in
    let orders : Orders = record { by_parts = o.by_parts; apart = o.apart; tied = o.tied; same = o.same } in
    subst (λ (old : List Member). KeepsOthers c.args.id old (keys_of c.remove.new.self)) c.self.view_is
    (subst (λ l. KeepsOthers c.args.id (keys_of c.self.inside.members) (keys_of l)) (sym c.remove.ensures.is) (taken_keeps orders c.self.inside.members (record { group = c.args.group; id = c.args.id })))

pub returns-clause-fewer : goal.returns-clause-fewer
returns-clause-fewer c =
    let o = c.member_orders.ensures in
    let orders : Orders = record { by_parts = o.by_parts; apart = o.apart; tied = o.tied; same = o.same } in
    subst (λ (old : List Member). Keeps (keys_of c.remove.new.self) old) c.self.view_is
    (subst (λ l. Keeps (keys_of l) (keys_of c.self.inside.members)) (sym c.remove.ensures.is) (taken_fewer orders c.self.inside.members (record { group = c.args.group; id = c.args.id })))

pub returns-clause-leaves : goal.returns-clause-leaves
returns-clause-leaves c =
    let o = c.member_orders.ensures in
    let orders : Orders = record { by_parts = o.by_parts; apart = o.apart; tied = o.tied; same = o.same } in
    subst (λ l. ¬ IsIn (keys_of l) c.args.group c.args.id) (sym c.remove.ensures.is) (taken_leaves orders c.self.inside.members (record { group = c.args.group; id = c.args.id }))
