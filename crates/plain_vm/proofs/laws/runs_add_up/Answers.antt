use Rattle.plain_vm.proofs.Runs.{runs_add}
use Rattle.plain_vm.proofs.laws.runs_add_up.Goals as goal

pub returns : goal.returns
returns c = runs_add
