use Rattle.std.proofs.Common.{◌≡◌, ◌++◌, List, take}
use Rattle.std.specs.Prelude.{map}
use Rattle.cloud_base.specs.declared.schema.Schema.{Schema}
use Rattle.cloud_base.specs.declared.update.Update.{Update}
use Rattle.schema_fj.specs.States.{StateStands}
use Rattle.schema_fj.specs.Valued.{value_in}
use Rattle.schema_fj.proofs.state.State.list_values.Given as goal

abbrev pub invariant-loop-keys : goal.invariant-loop-keys
invariant-loop-keys l = (schema : Schema) (base delta : List Update) → StateStands schema l.self base delta → l.list ≡ l.fn.list ++ map (value_in schema (base ++ delta) l.property) (take l.keys-index l.entries)
