use Rattle.std.proofs.Common.{◌≡◌, take}
use Rattle.cloud_base.specs.Log.{created}
use Rattle.cloud_base.specs.Order.{id_order}
use Rattle.cloud_base.specs.Sorted.{ascending}
use Rattle.cloud_base.specs.Answer.{is_listed}
use Rattle.std.specs.Prelude.{filter}
use Rattle.plain_answer.proofs.listing.all_ids.Given as goal

abbrev pub invariant-loop-update : goal.invariant-loop-update
invariant-loop-update l = l.ids.keys ≡ ascending id_order (filter (is_listed l.log l.entity) (created (take l.update-index l.log)))
