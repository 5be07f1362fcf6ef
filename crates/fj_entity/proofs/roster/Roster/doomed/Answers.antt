use Rattle.std.proofs.Common.{◌≡◌, ◌∷◌, [], ◌++◌, List, ℕ, None, true}
use Rattle.cloud_base.specs.Values.{Id}
use Rattle.cloud_base.specs.Order.{id_order}
use Rattle.cloud_base.specs.Log.{creation}
use Rattle.cloud_base.specs.Dead.{has_dead}
use Rattle.cloud_base.specs.Sorted.{Lists}
use Rattle.cloud_base.specs.declared.key.Key.{Key}
use Rattle.cloud_base.specs.declared.update.Update.{Update}
use Rattle.cloud_base.specs.declared.update.Update.TheVariants.{Create, Delete}
use Rattle.fj_entity.specs.Rosters.{RosterStands, IsDoomed, IsNewlyDead}
use Rattle.fj_entity.proofs.RosterLemmas.{if_ok, deletion_kills, creation_kills, newly_dead}
use Rattle.fj_entity.proofs.roster.Roster.doomed.Goals as goal

pub returns-clause-deletion : goal.returns-clause-deletion
returns-clause-deletion c =
    if_ok (λ (died : List Id). (log : List Update) → RosterStands c.args.self.now log → Lists id_order died (IsDoomed log c.args.id))
    (λ (died : List Id). (log : List Update) → RosterStands c.args.self.now log → Lists id_order died (IsNewlyDead log (log ++ Delete c.args.id ∷ [])))
    c.dependents.result (λ died f log stands. newly_dead log (log ++ Delete c.args.id ∷ []) c.args.id died (deletion_kills log c.args.id) (f log stands)) c.dependents.ensures

pub returns-clause-creation : goal.returns-clause-creation
returns-clause-creation c =
    if_ok (λ (died : List Id). (log : List Update) → RosterStands c.args.self.now log → Lists id_order died (IsDoomed log c.args.id))
    (λ (died : List Id). (log : List Update) (e : ℕ) (ks : List Key) → RosterStands c.args.self.now log → creation c.args.id log ≡ None → has_dead log ks ≡ true
    → Lists id_order died (IsNewlyDead log (log ++ Create c.args.id e ks ∷ [])))
    c.dependents.result (λ died f log e ks stands fresh dead. newly_dead log (log ++ Create c.args.id e ks ∷ []) c.args.id died (creation_kills log c.args.id e ks fresh dead) (f log stands)) c.dependents.ensures
