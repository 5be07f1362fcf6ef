-- Its names are told apart.
use Rattle.diagram_text.proofs.Names.{legible}
use Rattle.diagram_text.proofs.laws.programs_are_legible.Goals as goal

pub returns : goal.returns
returns c = legible
