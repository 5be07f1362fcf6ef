use Rattle.plain_vm.proofs.Falling.{steps_fall}
use Rattle.plain_vm.proofs.laws.silent_instructions_end.Goals as goal

pub returns : goal.returns
returns c = steps_fall
