use Rattle.std.proofs.Common.{◌≡◌, ◌++◌, List}
use Rattle.cloud_base.specs.declared.schema.Schema.{Schema}
use Rattle.cloud_base.specs.declared.update.Update.{Update}
use Rattle.schema_fj.specs.States.{StateStands}
use Rattle.schema_fj.specs.Valued.{values_below}
use Rattle.schema_fj.proofs.state.State.values.Given as goal

abbrev pub invariant-loop-number : goal.invariant-loop-number
invariant-loop-number l = (schema : Schema) (base delta : List Update) → StateStands schema l.self base delta → l.list ≡ values_below schema (base ++ delta) l.number
