use Rattle.std.proofs.Common.{◌≡◌, sym, ◌∙◌, ap, subst, List, Some, None, cond}
use Rattle.cloud_base.specs.Values.{Id}
use Rattle.cloud_base.specs.Order.{same_id}
use Rattle.cloud_base.specs.contracts.key.UidOrd.TheImpl as derived
use Rattle.cloud_base.specs.declared.key.Key.{Key}
use Rattle.fj_entity.specs.declared.birth.Birth.{Birth}
use Rattle.fj_entity.specs.declared.groups.Group.{Group}
use Rattle.fj_entity.specs.Fates.{Fate, Living, fate_at}
use Rattle.fj_entity.specs.Groups.{IsGroupOf, IsIn}
use Rattle.fj_entity.specs.Kept.{fates_of, AreGrouped}
use Rattle.fj_entity.proofs.KeptLemmas.{puts_by, none_known, unknown_unborn, taken_back, fates_same, keeps_grouped, born_fates, born_grouped}
use Rattle.fj_entity.proofs.roster.Roster.put.Goals as goal

pub invariant_of-self-in-Err : goal.invariant_of-self-in-Err
invariant_of-self-in-Err c =
    let r = c.self.inside in
    let birth : Birth = record { entity = c.args.entity; keys = c.copied-keys.result } in
    let none = none_known r.known r.births c.args.id (ap (λ (l : List (Id × Fate)). fate_at l c.args.id) c.self.view_is ∙ c.requires) in
    let same = taken_back c.args.id (Some birth) r.births c.insert.new.self c.remove.new.self (unknown_unborn r.known r.births r.groups c.self.invariant c.args.id none)
    (puts_by derived.ghosts.cmp c.derived_orders.ensures.ids c.args.id (Some birth) r.births c.insert.new.self c.in_ok-insert.ensures.updates)
    (puts_by derived.ghosts.cmp c.derived_orders.ensures.ids c.args.id None c.insert.new.self c.remove.new.self c.remove.ensures.updates) in
    subst (λ l. AreGrouped l c.remove.new.self c.add_all.new.self) (sym c.in-Err.ensures.err)
    (keeps_grouped r.known r.births c.remove.new.self r.groups c.add_all.new.self same c.add_all.ensures.keeps c.self.invariant)

pub returns-in-Err-clause-err : goal.returns-in-Err-clause-err
returns-in-Err-clause-err c =
    let r = c.self.inside in
    let birth : Birth = record { entity = c.args.entity; keys = c.copied-keys.result } in
    let none = none_known r.known r.births c.args.id (ap (λ (l : List (Id × Fate)). fate_at l c.args.id) c.self.view_is ∙ c.requires) in
    let same = taken_back c.args.id (Some birth) r.births c.insert.new.self c.remove.new.self (unknown_unborn r.known r.births r.groups c.self.invariant c.args.id none)
    (puts_by derived.ghosts.cmp c.derived_orders.ensures.ids c.args.id (Some birth) r.births c.insert.new.self c.in_ok-insert.ensures.updates)
    (puts_by derived.ghosts.cmp c.derived_orders.ensures.ids c.args.id None c.insert.new.self c.remove.new.self c.remove.ensures.updates) in
    ap (λ l. fates_of l c.remove.new.self) c.in-Err.ensures.err ∙ fates_same r.known r.births c.remove.new.self same ∙ c.self.view_is

pub invariant_of-self-in_default : goal.invariant_of-self-in_default
invariant_of-self-in_default c =
    let r = c.self.inside in
    let birth : Birth = record { entity = c.args.entity; keys = c.copied-keys.result } in
    born_grouped c.args.id birth r.known c.insert-2.new.self r.births c.insert.new.self
    (puts_by derived.ghosts.cmp c.derived_orders.ensures.ids c.args.id (Some tt) r.known c.insert-2.new.self c.in_default.ensures.updates)
    (puts_by derived.ghosts.cmp c.derived_orders.ensures.ids c.args.id (Some birth) r.births c.insert.new.self c.in_ok-insert.ensures.updates)
    r.groups c.add_all.new.self c.add_all.ensures.keeps
    (subst (λ (ks : List Key). (g : Group) → IsGroupOf c.args.entity ks g → IsIn c.add_all.new.self g c.args.id) (sym c.copied-keys.ensures) c.in_ok-add_all.ensures.adds)
    c.self.invariant

pub returns-clause-ok : goal.returns-clause-ok
returns-clause-ok c =
    let r = c.self.inside in
    let birth : Birth = record { entity = c.args.entity; keys = c.copied-keys.result } in
    subst (λ (l : List (Id × Fate)). (x : Id) → fate_at (fates_of c.insert-2.new.self c.insert.new.self) x ≡ cond (same_id c.args.id x) (Some (Living c.args.entity c.args.keys.now)) (fate_at l x)) c.self.view_is
    (subst (λ (ks : List Key). (x : Id) → fate_at (fates_of c.insert-2.new.self c.insert.new.self) x ≡ cond (same_id c.args.id x) (Some (Living c.args.entity ks)) (fate_at (fates_of r.known r.births) x)) c.copied-keys.ensures
    (born_fates c.args.id birth r.known c.insert-2.new.self r.births c.insert.new.self
    (puts_by derived.ghosts.cmp c.derived_orders.ensures.ids c.args.id (Some tt) r.known c.insert-2.new.self c.in_default.ensures.updates)
    (puts_by derived.ghosts.cmp c.derived_orders.ensures.ids c.args.id (Some birth) r.births c.insert.new.self c.in_ok-insert.ensures.updates)))
