use Rattle.code_gen.specs.Compiled.{Compiled}
use Rattle.cloud_play.proofs.Beginning.{IsEach}
use Rattle.cloud_play.proofs.opening.compile_all.Given as goal

-- the codes of the clients so far
abbrev pub invariant-loop-client : goal.invariant-loop-client
invariant-loop-client l = IsEach (Compiled l.program) l.client l.codes.items
