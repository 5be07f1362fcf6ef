use Rattle.std.proofs.Common.{subst}
use Rattle.client_runner.specs.Steps.{IsRan}
use Rattle.client_runner.proofs.Running.{is_ran}
use Rattle.client_runner.proofs.runner.Runner.keeps.Goals as goal

pub returns : goal.returns
returns c = subst IsRan c.self.view_is (is_ran c.self.inside c.self.invariant c.keeps.ensures)
