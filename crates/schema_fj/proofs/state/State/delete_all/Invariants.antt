use Rattle.std.proofs.Common.{◌++◌, List, take}
use Rattle.cloud_base.specs.declared.schema.Schema.{Schema}
use Rattle.cloud_base.specs.declared.update.Update.{Update}
use Rattle.schema_fj.specs.States.{StateHolds}
use Rattle.schema_fj.specs.Told.{deletes}
use Rattle.schema_fj.proofs.state.State.delete_all.Given as goal

abbrev pub invariant-loop-id : goal.invariant-loop-id
invariant-loop-id l = (schema : Schema) (base delta : List Update) → StateHolds schema l.fn.self base delta → StateHolds schema l.self base (delta ++ deletes (take l.id-index l.ids))
