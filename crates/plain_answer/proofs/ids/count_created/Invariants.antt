use Rattle.std.proofs.Common.{◌≡◌, take, length}
use Rattle.cloud_base.specs.Log.{created}
use Rattle.std.proofs.Common.{◌≤◌}
use Rattle.plain_answer.proofs.ids.count_created.Given as goal

abbrev pub invariant-loop-update : goal.invariant-loop-update
invariant-loop-update l = (l.count ≡ length (created (take l.update-index l.log))) × (l.count ≤ l.update-index)
