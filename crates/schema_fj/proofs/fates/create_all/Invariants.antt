use Rattle.std.proofs.Common.{◌++◌, List, take, drop}
use Rattle.cloud_base.specs.declared.update.Update.{Update}
use Rattle.fj_entity.specs.Rosters.{RosterStands}
use Rattle.schema_fj.specs.Told.{AreNew, creates}
use Rattle.schema_fj.proofs.fates.create_all.Given as goal

abbrev pub invariant-loop-created : goal.invariant-loop-created
invariant-loop-created l = (log : List Update) → RosterStands l.fn.roster log → AreNew l.list log → RosterStands l.roster (log ++ creates (take l.created-index l.list)) × AreNew (drop l.created-index l.list) (log ++ creates (take l.created-index l.list))
