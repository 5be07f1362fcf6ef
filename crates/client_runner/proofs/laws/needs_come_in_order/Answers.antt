use Rattle.client_runner.proofs.Ordered.{next_of_run}
use Rattle.client_runner.proofs.laws.needs_come_in_order.Goals as goal

pub returns : goal.returns
returns c = next_of_run
