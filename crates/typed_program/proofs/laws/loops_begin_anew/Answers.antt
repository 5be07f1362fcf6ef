use Rattle.typed_program.proofs.Traces.{while_again}
use Rattle.typed_program.proofs.laws.loops_begin_anew.Goals as goal

pub returns : goal.returns
returns c = while_again
