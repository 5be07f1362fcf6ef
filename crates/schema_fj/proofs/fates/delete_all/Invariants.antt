use Rattle.std.proofs.Common.{◌++◌, List, take}
use Rattle.cloud_base.specs.declared.update.Update.{Update}
use Rattle.fj_entity.specs.Rosters.{RosterStands}
use Rattle.schema_fj.specs.Told.{deletes}
use Rattle.schema_fj.proofs.fates.delete_all.Given as goal

abbrev pub invariant-loop-id : goal.invariant-loop-id
invariant-loop-id l = (log : List Update) → RosterStands l.fn.roster log → RosterStands l.roster (log ++ deletes (take l.id-index l.ids))
