-- The first batch of a client that only yielded.
use Rattle.std.specs.Prelude.{[], ◌∷◌}
use Rattle.cloud_base.specs.declared.batch.Batch.{Batch}
use Rattle.cloud_base.specs.declared.update.Event.TheVariants.{Yield}

abbrev pub first_batch : Batch
first_batch = record { client = 0; round = 1; base = 0; before = []; rest = Yield ∷ [] }
