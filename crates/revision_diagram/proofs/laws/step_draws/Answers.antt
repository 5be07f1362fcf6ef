-- The law, from the lemmas on one step more.
use Rattle.revision_diagram.proofs.Steps.{diagram-step, diagram-places}
use Rattle.revision_diagram.proofs.laws.step_draws.Goals as goal

pub returns-clause-diagram : goal.returns-clause-diagram
returns-clause-diagram c = diagram-step

pub returns-clause-places : goal.returns-clause-places
returns-clause-places c = diagram-places
