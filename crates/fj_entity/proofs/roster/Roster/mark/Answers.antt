use Rattle.std.proofs.Common.{◌≡◌, sym, ◌∙◌, ap, subst, List, Some}
use Rattle.std.specs.Prelude.{is_some}
use Rattle.cloud_base.specs.Values.{Id}
use Rattle.cloud_base.specs.Order.{same_id}
use Rattle.cloud_base.specs.contracts.key.UidOrd.TheImpl as derived
use Rattle.fj_entity.specs.Fates.{Fate, fate_at, marked}
use Rattle.fj_entity.specs.Kept.{fates_of}
use Rattle.fj_entity.proofs.KeptLemmas.{puts_by, known_kept, unknown_unborn, marked_fates, marked_grouped}
use Rattle.fj_entity.proofs.roster.Roster.mark.Goals as goal

pub invariant_of-self : goal.invariant_of-self
invariant_of-self c =
    let r = c.self.inside in
    marked_grouped c.args.id r.known c.insert.new.self r.births r.groups
    (puts_by derived.ghosts.cmp c.derived_orders.ensures.ids c.args.id (Some tt) r.known c.insert.new.self c.in_ok-insert.ensures.updates) c.self.invariant

pub returns-in_ok-insert-clause-ok : goal.returns-in_ok-insert-clause-ok
returns-in_ok-insert-clause-ok c =
    let r = c.self.inside in
    let new = sym (known_kept r.known r.births c.args.id) ∙ ap (λ (l : List (Id × Fate)). is_some (fate_at l c.args.id)) c.self.view_is ∙ sym c.is_known.ensures ∙ c.if-not-is_known.true in
    subst (λ (l : List (Id × Fate)). (x : Id) → fate_at (fates_of c.insert.new.self r.births) x ≡ marked (same_id c.args.id x) (fate_at l x)) c.self.view_is
    (marked_fates c.args.id r.known c.insert.new.self r.births new (unknown_unborn r.known r.births r.groups c.self.invariant c.args.id new)
    (puts_by derived.ghosts.cmp c.derived_orders.ensures.ids c.args.id (Some tt) r.known c.insert.new.self c.in_ok-insert.ensures.updates))
