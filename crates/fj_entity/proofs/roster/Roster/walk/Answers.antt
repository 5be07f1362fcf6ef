use Rattle.std.proofs.Common.{◌≡◌, ◌∷◌, [], ◌++◌, List, sym, ◌∙◌, ap, subst, false, rules}
use Rattle.std.specs.BTreeSet.{insert_key}
use Rattle.std.specs.List.Sorted.{IsStrictlySortedBy}
use Rattle.cloud_base.specs.contracts.key.UidOrd.TheImpl as derived
use Rattle.cloud_base.specs.Values.{Id}
use Rattle.cloud_base.specs.Order.{id_order}
use Rattle.cloud_base.specs.Dead.{is_dead}
use Rattle.cloud_base.specs.Sorted.{Lists}
use Rattle.cloud_base.specs.declared.update.Update.{Update}
use Rattle.fj_entity.specs.Rosters.{RosterStands, IsDoomed}
use Rattle.fj_entity.proofs.WalkLemmas.{closing_start, closing_step, closing_end, if_both}
use Rattle.fj_entity.proofs.roster.Roster.walk.Goals as goal

pub loop-id-init : goal.loop-id-init
loop-id-init c log stands live =
    closing_start log c.args.root c.args.self.now c.push.new.self.items c.insert.new.self.keys live
    (c.in_ok-push.ensures.items ∙ ap (λ (l : List Id). l ++ c.args.root ∷ []) c.new-pending.ensures.items)
    (c.in_ok-insert.ensures.keys ∙ ap (λ (l : List Id). insert_key derived.ghosts.cmp l c.args.root) c.new-dying.ensures.empty)

pub loop-id-preserved : goal.loop-id-preserved
loop-id-preserved c log stands live =
    closing_step log c.args.root c.args.self.now c.loop-id.pending.items c.pop.new.self.items c.reach.new.pending.items c.loop-id.dying.keys c.reach.new.dying.keys c.in-Some.id
    stands c.in-Some.ensures.items c.in_ok-reach.ensures (c.loop-id.invariant log stands live)

pub returns : goal.returns
returns c =
    if_both c.ids_in.result
    (λ (list : List Id). list ≡ c.loop-id.dying.keys) (λ (list : List Id). IsStrictlySortedBy id_order list)
    (λ (list : List Id). (log : List Update) → RosterStands c.args.self.now log → is_dead log c.args.root ≡ false → Lists id_order list (IsDoomed log c.args.root))
    (λ list same ascends log stands live.
    subst (λ (l : List Id). Lists id_order l (IsDoomed log c.args.root)) (sym same)
    (closing_end log c.args.root c.args.self.now c.loop-id.pending.items c.loop-id.dying.keys stands (search rules) (subst (IsStrictlySortedBy id_order) same ascends) (c.loop-id.invariant log stands live)))
    c.ids_in.ensures.ids c.ids_in.ensures.ascends
