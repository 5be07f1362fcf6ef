use Rattle.std.proofs.Common.{take}
use Rattle.schema_fj.specs.Joined.{JoinsCells}
use Rattle.schema_fj.proofs.state.State.join_cells.Given as goal

abbrev pub invariant-loop-it : goal.invariant-loop-it
invariant-loop-it l = JoinsCells (take l.it-index l.items) l.fn.self l.self
