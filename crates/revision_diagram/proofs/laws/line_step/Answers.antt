-- The law, from the lemmas on one step more.
use Rattle.std.specs.Prelude.{IsTrue}
use Rattle.revision_diagram.specs.Diagram.{acts_on}
use Rattle.revision_diagram.specs.Story.{is_in_line}
use Rattle.revision_diagram.proofs.Places.{EachStep-more, EachStep-by_place}
use Rattle.revision_diagram.proofs.laws.line_step.Goals as goal

pub returns-clause-more : goal.returns-clause-more
returns-clause-more c = λ steps s c. EachStep-more (λ front t. IsTrue (is_in_line c front (acts_on t))) steps s

pub returns-clause-by_place : goal.returns-clause-by_place
returns-clause-by_place c = λ steps c. EachStep-by_place (λ front t. IsTrue (is_in_line c front (acts_on t))) steps
