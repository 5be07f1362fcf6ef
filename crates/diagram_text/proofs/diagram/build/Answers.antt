-- The list was empty before.
use Rattle.std.proofs.Common.{[]}
use Rattle.diagram_text.proofs.diagram.build.Goals as goal

pub returns : goal.returns
returns c = c.in_ok-draw.ensures [] c.new-steps.ensures
