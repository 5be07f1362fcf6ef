use Rattle.std.proofs.Common.{◌≡◌, take}
use Rattle.cloud_base.proofs.schema.copy_entities.Given as goal

abbrev pub invariant-loop-entity : goal.invariant-loop-entity
invariant-loop-entity l = l.copy ≡ take l.entity-index l.entity-items
