use Rattle.kind_check.proofs.Left.{few_steps}
use Rattle.kind_check.proofs.schedule.check_schedule.Goals as goal

pub check_turn-requires-clause-steps : goal.check_turn-requires-clause-steps
check_turn-requires-clause-steps c = few_steps c.args.items.now c.loop-item.item-index c.item-item.result c.loop-item-test.true c.item-item.is c.requires.steps
