-- The law, from its lemmas.
use Rattle.revision_diagram.proofs.Owners.{AllOwned-more, owned_there}
use Rattle.revision_diagram.proofs.laws.owners_step.Goals as goal

pub returns-clause-more : goal.returns-clause-more
returns-clause-more c = AllOwned-more

pub returns-clause-there : goal.returns-clause-there
returns-clause-there c = owned_there
