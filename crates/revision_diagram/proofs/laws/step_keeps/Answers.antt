-- The law, from the lemmas on one step more.
use Rattle.revision_diagram.proofs.Kept.{revisions-grow, owner-kept, fork-kept, fork_length-kept}
use Rattle.revision_diagram.proofs.Draws.{past-grows}
use Rattle.revision_diagram.proofs.laws.step_keeps.Goals as goal

pub returns-clause-revisions : goal.returns-clause-revisions
returns-clause-revisions c = revisions-grow

pub returns-clause-owner : goal.returns-clause-owner
returns-clause-owner c = owner-kept

pub returns-clause-fork : goal.returns-clause-fork
returns-clause-fork c = fork-kept

pub returns-clause-fork_length : goal.returns-clause-fork_length
returns-clause-fork_length c = fork_length-kept

pub returns-clause-past : goal.returns-clause-past
returns-clause-past c = past-grows
