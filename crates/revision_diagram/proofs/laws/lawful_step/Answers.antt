-- The law, from the lemmas on one step more.
use Rattle.std.specs.Prelude.{IsTrue}
use Rattle.revision_diagram.specs.Lawful.{is_lawful}
use Rattle.revision_diagram.proofs.Places.{EachStep-more, EachStep-by_place}
use Rattle.revision_diagram.proofs.Kept.{lawful-Join}
use Rattle.revision_diagram.proofs.laws.lawful_step.Goals as goal

pub returns-clause-more : goal.returns-clause-more
returns-clause-more c = λ steps s. EachStep-more (λ front t. IsTrue (is_lawful front t)) steps s

pub returns-clause-by_place : goal.returns-clause-by_place
returns-clause-by_place c = λ steps. EachStep-by_place (λ front t. IsTrue (is_lawful front t)) steps

pub returns-clause-join : goal.returns-clause-join
returns-clause-join c = lawful-Join
