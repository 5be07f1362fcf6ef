-- A code, as contracts see it.
use Rattle.std.specs.Prelude.{List}
use Rattle.cloud_base.specs.declared.schema.Schema.{Schema}
use Rattle.plain_vm.specs.declared.instruction.Instruction.{Instruction}

pub record CodeOf : Type 0 where
  pub schema : Schema
  pub instructions : List Instruction
