use Rattle.std.proofs.Common.{◌≡◌, drop}
use Rattle.cloud_base.specs.Log.{creation}
use Rattle.plain_answer.proofs.ids.creation.Given as goal

abbrev pub invariant-loop-update : goal.invariant-loop-update
invariant-loop-update l = creation l.id (drop l.update-index l.log) ≡ creation l.id l.log
