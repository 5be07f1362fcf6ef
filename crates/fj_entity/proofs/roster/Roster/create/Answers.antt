use Rattle.std.proofs.Common.{◌≡◌, ◌∷◌, [], ◌++◌, List, None, sym, ◌∙◌}
use Rattle.cloud_base.specs.Values.{Id}
use Rattle.cloud_base.specs.Order.{id_order}
use Rattle.cloud_base.specs.Log.{creation}
use Rattle.cloud_base.specs.Sorted.{Lists}
use Rattle.cloud_base.specs.declared.update.Update.{Update}
use Rattle.cloud_base.specs.declared.update.Update.TheVariants.{Create}
use Rattle.fj_entity.specs.Fates.{fate_at}
use Rattle.fj_entity.specs.Rosters.{RosterStands, IsNewlyDead, Kills}
use Rattle.fj_entity.proofs.FateLemmas.{kept_dead, none_alive, none_kept, has_gone_means}
use Rattle.fj_entity.proofs.RosterLemmas.{if_ok, creation_kills, born_dead, put_stands}
use Rattle.fj_entity.proofs.roster.Roster.create.Goals as goal

pub returns-then-is_known-clause-ok : goal.returns-then-is_known-clause-ok
returns-then-is_known-clause-ok c log stands fresh =
    born_dead log c.args.id c.args.entity c.args.keys.now c.args.self.now c.new.result c.new.ensures fresh (kept_dead c.args.self.now log c.args.id stands fresh (sym c.is_known.ensures ∙ c.if-is_known.true)) stands

pub returns-then-has_gone-clause-ok : goal.returns-then-has_gone-clause-ok
returns-then-has_gone-clause-ok c =
    if_ok (λ (died : List Id). (log after : List Update) → RosterStands c.args.self.now log → Kills log after c.args.id → RosterStands c.doom.new.self after × Lists id_order died (IsNewlyDead log after))
    (λ (died : List Id). (log : List Update) → RosterStands c.args.self.now log → creation c.args.id log ≡ None
    → RosterStands c.doom.new.self (log ++ Create c.args.id c.args.entity c.args.keys.now ∷ []) × Lists id_order died (IsNewlyDead log (log ++ Create c.args.id c.args.entity c.args.keys.now ∷ [])))
    c.doom.result
    (λ died f log stands fresh. f log (log ++ Create c.args.id c.args.entity c.args.keys.now ∷ []) stands
    (creation_kills log c.args.id c.args.entity c.args.keys.now fresh (sym (has_gone_means c.args.self.now log c.args.keys.now stands) ∙ sym c.has_gone.ensures ∙ c.if-has_gone.true)))
    c.doom.ensures.ok

pub returns-in_ok-put-clause-ok : goal.returns-in_ok-put-clause-ok
returns-in_ok-put-clause-ok c log stands fresh =
    put_stands log c.args.id c.args.entity c.args.keys.now c.args.self.now c.put.new.self c.new-else-has_gone.result c.new-else-has_gone.ensures fresh
    (none_alive c.args.self.now log c.args.id stands (none_kept (fate_at c.args.self.now c.args.id) (sym c.is_known.ensures ∙ c.if-is_known.false)))
    (sym (has_gone_means c.args.self.now log c.args.keys.now stands) ∙ sym c.has_gone.ensures ∙ c.if-has_gone.false)
    c.in_ok-put.ensures.ok stands

pub put-requires : goal.put-requires
put-requires c = none_kept (fate_at c.args.self.now c.args.id) (sym c.is_known.ensures ∙ c.if-is_known.false)
