use Rattle.typed_program.proofs.Traces.{value_grows, does_grows}
use Rattle.typed_program.proofs.laws.events_grow.Goals as goal

pub returns : goal.returns
returns c = record { values = value_grows; statements = does_grows }
