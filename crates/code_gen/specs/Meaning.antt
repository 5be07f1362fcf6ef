-- What the code of a body does is what the body does.
use Rattle.std.specs.Prelude.{◌≡◌, ℕ, List, All}
use Rattle.cloud_base.specs.Events.{Outcome}
use Rattle.cloud_base.specs.declared.schema.Schema.{Schema}
use Rattle.cloud_base.specs.declared.update.Answer.{Answer}
use Rattle.cloud_base.specs.declared.update.Event.{Event}
use Rattle.plain_vm.specs.Exec.{run}
use Rattle.plain_vm.specs.declared.instruction.Instruction.{Instruction}
use Rattle.typed_program.specs.Does.{ends}
use Rattle.typed_program.specs.Shapes.{IsAnswered}
use Rattle.typed_program.specs.Trace.{trace}
use Rattle.typed_program.specs.declared.statement.Statement.{Statement}

-- after some number of instructions the run of a code comes out with these events and this outcome
abbrev pub ComesOut : List Instruction → ℕ → List Answer → List Event × Outcome → Type 0
ComesOut code client answers t = (n : ℕ) × (run code n client answers ≡ ends t.1 t.0)

-- where the queries are answered in shape, a code comes out as the trace of a body does
abbrev pub Means : Schema → List Instruction → List Statement → Type 0
Means schema code body = (client : ℕ) (answers : List Answer) → All (IsAnswered schema) (trace client body answers).0 → ComesOut code client answers (trace client body answers)
