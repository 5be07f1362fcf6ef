-- The law, from the lemmas on one step more.
use Rattle.revision_diagram.specs.Once.{AllStandOnce}
use Rattle.revision_diagram.proofs.Apart.{Once-more}
use Rattle.revision_diagram.proofs.Places.{EachPrefix-front, EachPrefix-by_place}
use Rattle.revision_diagram.proofs.laws.once_step.Goals as goal

pub returns-clause-more : goal.returns-clause-more
returns-clause-more c = Once-more

pub returns-clause-front : goal.returns-clause-front
returns-clause-front c = λ steps s. EachPrefix-front AllStandOnce steps s

pub returns-clause-by_place : goal.returns-clause-by_place
returns-clause-by_place c = λ steps. EachPrefix-by_place AllStandOnce steps
