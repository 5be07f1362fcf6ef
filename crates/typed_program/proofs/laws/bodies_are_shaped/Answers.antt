use Rattle.typed_program.proofs.Fits.{trace_fits}
use Rattle.typed_program.proofs.Shaped.{trace_shaped, program_shaped}
use Rattle.typed_program.proofs.laws.bodies_are_shaped.Goals as goal

pub returns : goal.returns
returns c = record { shaped = trace_shaped; fit = trace_fits; program = program_shaped }
