use Rattle.std.proofs.Common.{refl}
use Rattle.code_machine.proofs.Needing.{begun}
use Rattle.code_machine.proofs.machine.Machine.new.Goals as goal

pub returns-clause-stands : goal.returns-clause-stands
returns-clause-stands c = begun _ c.args.client c.requires c.instructions-valid.ensures.valid c.in_ok-new.ensures refl
