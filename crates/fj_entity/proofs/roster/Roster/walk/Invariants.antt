use Rattle.std.proofs.Common.{◌≡◌, ◌+◌, false, List, length}
use Rattle.cloud_base.specs.Dead.{is_dead}
use Rattle.cloud_base.specs.declared.update.Update.{Update}
use Rattle.fj_entity.specs.Rosters.{RosterStands}
use Rattle.fj_entity.specs.Walks.{others}
use Rattle.fj_entity.proofs.WalkLemmas.{Closing}
use Rattle.fj_entity.proofs.roster.Roster.walk.Given as goal

abbrev pub invariant-loop-id : goal.invariant-loop-id
invariant-loop-id l = (log : List Update) → RosterStands l.self log → is_dead log l.fn.root ≡ false → Closing log l.fn.root l.self l.pending.items l.dying.keys

abbrev pub decreases-loop-id : goal.decreases-loop-id
decreases-loop-id l = others l.dying.keys l.self + length l.pending.items
