-- The law, from its lemmas.
use Rattle.revision_diagram.proofs.Kept.{joins_apart-base}
use Rattle.revision_diagram.proofs.Apart.{joins_apart-members}
use Rattle.revision_diagram.proofs.laws.paths_apart.Goals as goal

pub returns-clause-by_members : goal.returns-clause-by_members
returns-clause-by_members c = joins_apart-members

pub returns-clause-at_fork : goal.returns-clause-at_fork
returns-clause-at_fork c = joins_apart-base
