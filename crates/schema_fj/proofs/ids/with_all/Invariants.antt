use Rattle.std.proofs.Common.{◌≡◌, take}
use Rattle.std.specs.List.{fold}
use Rattle.std.specs.BTreeSet.{insert_key}
use Rattle.cloud_base.specs.Order.{id_order}
use Rattle.schema_fj.proofs.ids.with_all.Given as goal

abbrev pub invariant-loop-id : goal.invariant-loop-id
invariant-loop-id l = l.more.keys ≡ fold (insert_key id_order) l.fn.set.keys (take l.id-index l.ids)
