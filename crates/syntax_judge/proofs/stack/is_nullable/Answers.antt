use Rattle.syntax_judge.proofs.Moves.{more_ways}
use Rattle.syntax_judge.proofs.stack.is_nullable.Goals as goal

pub loop-way-preserved : goal.loop-way-preserved
loop-way-preserved c = more_ways (λ way. way.now) c.productions-way-items.result.now c.loop-way.way-index _ _ c.loop-way-test.true c.if-is_empty.ensures c.loop-way.invariant
