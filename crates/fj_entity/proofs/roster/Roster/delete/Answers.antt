use Rattle.std.proofs.Common.{◌∷◌, [], ◌++◌, List}
use Rattle.cloud_base.specs.Values.{Id}
use Rattle.cloud_base.specs.Order.{id_order}
use Rattle.cloud_base.specs.Sorted.{Lists}
use Rattle.cloud_base.specs.declared.update.Update.{Update}
use Rattle.cloud_base.specs.declared.update.Update.TheVariants.{Delete}
use Rattle.fj_entity.specs.Rosters.{RosterStands, IsNewlyDead, Kills}
use Rattle.fj_entity.proofs.RosterLemmas.{if_ok, deletion_kills}
use Rattle.fj_entity.proofs.roster.Roster.delete.Goals as goal

pub returns-clause-ok : goal.returns-clause-ok
returns-clause-ok c =
    if_ok (λ (died : List Id). (log after : List Update) → RosterStands c.args.self.now log → Kills log after c.args.id → RosterStands c.doom.new.self after × Lists id_order died (IsNewlyDead log after))
    (λ (died : List Id). (log : List Update) → RosterStands c.args.self.now log → RosterStands c.doom.new.self (log ++ Delete c.args.id ∷ []) × Lists id_order died (IsNewlyDead log (log ++ Delete c.args.id ∷ [])))
    c.doom.result (λ died f log stands. f log (log ++ Delete c.args.id ∷ []) stands (deletion_kills log c.args.id)) c.doom.ensures.ok
