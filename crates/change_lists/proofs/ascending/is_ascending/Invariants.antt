use Rattle.change_lists.proofs.Neighbours.{Neighbours}
use Rattle.change_lists.proofs.ascending.is_ascending.Given as goal

abbrev pub invariant-loop-i : goal.invariant-loop-i
invariant-loop-i g l = Neighbours g.T.Listed.order l.items l.i
