-- Where the run of a program begins.
use Rattle.std.specs.Prelude.{◌≡◌, ℕ, List, [], length, replicate, Some, None, slice_get}
use Rattle.cloud_base.specs.declared.batch.Batch.{Batch}
use Rattle.front_table.specs.TokenView.{TokenView}
use Rattle.plain_vm.specs.Code.{CodeOf}
use Rattle.session_core.specs.Sessions.{IsOpened}
use Rattle.code_gen.specs.Compiled.{Compiled}
use Rattle.typed_program.specs.Programs.{IsProgram}
use Rattle.typed_program.specs.declared.program.Parts.{Parts}
use Rattle.server_core.specs.Servers.{IsServing, Serving}
use Rattle.client_runner.specs.Steps.{IsRan, Ran}

-- the code of each client of a program
pub record AreCodes (p : Parts) (codes : List CodeOf) : Type 0 where
  pub count : length codes ≡ length p.names
  pub each : (c : ℕ) (code : CodeOf) → slice_get codes c ≡ Some code → Compiled p c code

-- a client that did nothing, whose session has seen nothing of a record of no batches
pub record IsOpenedAs (code : CodeOf) (c : ℕ) (front : TokenView Batch) (run : Ran) : Type 0 where
  pub code_is : run.code ≡ code
  pub opened : IsOpened code.schema c front run.stands
  pub ended : run.ended ≡ None
  pub ran : IsRan run

-- a client for each code
pub record AreOpened (codes : List CodeOf) (front : TokenView Batch) (runs : List Ran) : Type 0 where
  pub count : length runs ≡ length codes
  pub each : (c : ℕ) (code : CodeOf) (run : Ran) → slice_get codes c ≡ Some code → slice_get runs c ≡ Some run → IsOpenedAs code c front run

-- the clients of a program and its server, before anything was done
pub record IsBegun (p : Parts) (server : Serving) (runs : List Ran) : Type 0 where
  pub program : IsProgram p
  pub codes : List CodeOf
  pub of_program : AreCodes p codes
  pub runners : AreOpened codes server.joined runs
  pub ran : (c : ℕ) (run : Ran) → slice_get runs c ≡ Some run → IsRan run
  pub schema : server.schema ≡ p.schema
  pub none_joined : server.joined.list ≡ []
  pub owns : server.owns ≡ replicate (length p.names) None
  pub serving : IsServing server
