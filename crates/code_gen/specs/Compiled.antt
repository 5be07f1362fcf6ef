-- What the code of a client is.
use Rattle.std.specs.Prelude.{◌≡◌, ℕ, ◌≤◌, List, length, Some, slice_get}
use Rattle.cloud_base.specs.declared.update.Answer.{Answer}
use Rattle.plain_vm.specs.Code.{CodeOf}
use Rattle.typed_program.specs.Trace.{trace}
use Rattle.typed_program.specs.Widths.{most_events}
use Rattle.typed_program.specs.declared.program.Parts.{Parts}
use Rattle.typed_program.specs.declared.statement.Statement.{Statement}
use Rattle.code_gen.specs.Compile.{code_of}
use Rattle.code_gen.specs.Meaning.{Means}

-- the code of a client of a program
pub record Compiled (p : Parts) (client : ℕ) (code : CodeOf) : Type 0 where
  -- the statements of that client
  pub body : List Statement
  pub of_client : slice_get p.bodies client ≡ Some body
  -- the code is valid for the program's schema
  pub schema : code.schema ≡ p.schema
  -- instruction by instruction
  pub instructions : code.instructions ≡ code_of p.schema body
  -- whatever its queries are answered in shape, its run asks, does and ends as the body does
  pub means : Means p.schema code.instructions body
  -- and has no more events than this, whatever the answers
  pub bounded : (number : ℕ) (answers : List Answer) → length (trace number body answers).0 ≤ most_events body
