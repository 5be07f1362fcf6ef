use Rattle.std.proofs.Common.{◌≡◌, drop}
use Rattle.cloud_base.specs.Log.{is_deleted}
use Rattle.plain_answer.proofs.ids.is_deleted.Given as goal

abbrev pub invariant-loop-update : goal.invariant-loop-update
invariant-loop-update l = is_deleted l.id (drop l.update-index l.log) ≡ is_deleted l.id l.log
