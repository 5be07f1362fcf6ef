use Rattle.std.proofs.Common.{refl}
use Rattle.shared_map.proofs.EntryLemmas.{none_ascends}
use Rattle.shared_map.proofs.map.SharedMap.new.Goals as goal

pub invariant_of-result : goal.invariant_of-result
invariant_of-result g c = rw (c.new.ensures.items, c.empty.ensures) (record {
  flags = refl;
  shelf_sorted = none_ascends g.K.Ord.cmp;
  own_sorted = none_ascends g.K.Ord.cmp;
})
