use Rattle.std.proofs.Common.{◌++◌, List, take, drop}
use Rattle.cloud_base.specs.declared.schema.Schema.{Schema}
use Rattle.cloud_base.specs.declared.update.Update.{Update}
use Rattle.schema_fj.specs.States.{StateHolds}
use Rattle.schema_fj.specs.Told.{AreNew}
use Rattle.schema_fj.proofs.StateJoin.{SoFar}
use Rattle.schema_fj.proofs.state.State.create_all.Given as goal

abbrev pub invariant-loop-created : goal.invariant-loop-created
invariant-loop-created l = (schema : Schema) (base delta : List Update) → StateHolds schema l.fn.self base delta → AreNew l.list (base ++ delta) → SoFar schema l.self base delta (take l.created-index l.list) (drop l.created-index l.list)
