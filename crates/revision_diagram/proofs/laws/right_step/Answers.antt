-- The law, from the lemmas on one step more.
use Rattle.revision_diagram.specs.Right.{Right}
use Rattle.revision_diagram.proofs.Places.{EachStep-more, EachStep-by_place}
use Rattle.revision_diagram.proofs.laws.right_step.Goals as goal

pub returns-clause-more : goal.returns-clause-more
returns-clause-more c = λ answers steps s. EachStep-more (Right answers) steps s

pub returns-clause-by_place : goal.returns-clause-by_place
returns-clause-by_place c = λ answers steps. EachStep-by_place (Right answers) steps
