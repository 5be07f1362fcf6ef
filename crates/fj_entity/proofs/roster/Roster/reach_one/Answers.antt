use Rattle.std.proofs.Common.{◌≡◌, sym, ◌∙◌}
use Rattle.std.specs.List.{list_any}
use Rattle.std.specs.Ordering.{is_eq}
use Rattle.std.specs.BTreeSet.{insert_key}
use Rattle.std.proofs.lemmas.Bool.{false≢true}
use Rattle.std.specs.BTreeMap.{is_at}
use Rattle.cloud_base.specs.contracts.key.UidOrd.TheImpl as derived
use Rattle.cloud_base.specs.Values.{Id}
use Rattle.cloud_base.specs.Order.{same_id}
use Rattle.fj_entity.proofs.WalkLemmas.{reach_pass, reach_put, found_among}
use Rattle.fj_entity.proofs.roster.Roster.reach_one.Goals as goal
use Rattle.fj_entity.proofs.roster.Roster.reach_one.Goals.{else-is_child-via-then-is_child+else-not-contains, else-is_child-via-else-is_child}

pub returns-in_ok-push : goal.returns-in_ok-push
returns-in_ok-push c =
    let same : list_any (is_at (derived.ghosts.cmp c.args.child)) c.args.dying.now.keys ≡ list_any (same_id c.args.child) c.args.dying.now.keys = λ i. list_any (λ (x : Id). is_eq (c.derived_orders.ensures.ids c.args.child x i)) c.args.dying.now.keys in
    reach_put c.args.self.now c.args.id c.args.child c.args.dying.now.keys c.args.pending.now.items c.insert.new.self.keys c.push.new.self.items
    (sym c.is_child.ensures ∙ c.if-is_child.true)
    (sym same ∙ sym c.contains.ensures ∙ c.if-not-contains.true)
    (c.in_ok-insert.ensures.keys ∙ (λ i. insert_key (λ a b. c.derived_orders.ensures.ids a b i) c.args.dying.now.keys c.args.child))
    c.in_ok-push.ensures.items

pub returns-else-is_child : goal.returns-else-is_child
returns-else-is_child c =
    reach_pass c.args.self.now c.args.id c.args.child c.args.dying.now.keys c.args.pending.now.items
    (λ kid. elim c.else-is_child.branch [
      | else-is_child-via-then-is_child+else-not-contains w ↦
          found_among c.args.child c.args.dying.now.keys
          ((λ i. list_any (λ (x : Id). is_eq (c.derived_orders.ensures.ids c.args.child x (i))) c.args.dying.now.keys))
          (sym w.contains.ensures ∙ w.if-not-contains.false)
      | else-is_child-via-else-is_child w ↦ absurd (false≢true (sym w.if-is_child.false ∙ c.is_child.ensures ∙ kid))
    ])
