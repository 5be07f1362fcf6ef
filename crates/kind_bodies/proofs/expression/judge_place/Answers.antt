use Rattle.kind_bodies.proofs.Fits.{entry_at}
use Rattle.kind_bodies.proofs.expression.judge_place.Goals as goal

pub array_entry-requires : goal.array_entry-requires
array_entry-requires c = entry_at _ _ _ _ _ c.requires c.in-Entry.is c.as_slice.ensures
