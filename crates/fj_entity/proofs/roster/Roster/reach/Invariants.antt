use Rattle.std.proofs.Common.{take}
use Rattle.std.specs.Prelude.{Contains}
use Rattle.fj_entity.specs.Walks.{Reaches}
use Rattle.fj_entity.proofs.roster.Roster.reach.Given as goal

abbrev pub invariant-loop-child : goal.invariant-loop-child
invariant-loop-child l = Reaches l.self l.id (Contains (take l.child-index l.child-items)) l.fn.dying.keys l.fn.pending.items l.dying.keys l.pending.items
