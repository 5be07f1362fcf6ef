use Rattle.typed_program.proofs.Bounds.{trace_bounded}
use Rattle.typed_program.proofs.laws.events_are_bounded.Goals as goal

pub returns : goal.returns
returns c = trace_bounded
