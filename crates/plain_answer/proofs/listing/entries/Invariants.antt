use Rattle.std.proofs.Common.{◌≡◌, take}
use Rattle.cloud_base.specs.Log.{touched}
use Rattle.cloud_base.specs.Order.{keys_order}
use Rattle.cloud_base.specs.Sorted.{ascending}
use Rattle.cloud_base.specs.Answer.{is_entry}
use Rattle.std.specs.Prelude.{filter}
use Rattle.plain_answer.proofs.listing.entries.Given as goal

abbrev pub invariant-loop-update : goal.invariant-loop-update
invariant-loop-update l = l.tuples.keys ≡ ascending keys_order (filter (is_entry l.schema l.log l.property) (touched l.property (take l.update-index l.log)))
