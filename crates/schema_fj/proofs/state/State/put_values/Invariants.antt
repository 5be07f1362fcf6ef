use Rattle.std.proofs.Common.{take}
use Rattle.schema_fj.specs.Placed.{PutsCells}
use Rattle.schema_fj.proofs.state.State.put_values.Given as goal

abbrev pub invariant-loop-it : goal.invariant-loop-it
invariant-loop-it l = PutsCells (take l.it-index l.items) l.fn.self l.self
