use Rattle.plain_vm.proofs.Well.{begins_well, steps_well}
use Rattle.plain_vm.proofs.laws.valid_codes_are_never_stuck.Goals as goal

pub returns : goal.returns
returns c = record { begins = begins_well; steps = steps_well }
