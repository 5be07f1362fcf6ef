-- The law, from the lemmas on one step more.
use Rattle.revision_diagram.proofs.Draws.{revisions-Fork, live-Fork, owner-Fork, past-Fork, path-Fork, fork-Fork, fork_length-Fork}
use Rattle.revision_diagram.proofs.Logs.{log-Fork}
use Rattle.revision_diagram.proofs.laws.fork_draws.Goals as goal

pub returns-clause-revisions : goal.returns-clause-revisions
returns-clause-revisions c = revisions-Fork

pub returns-clause-live : goal.returns-clause-live
returns-clause-live c = live-Fork

pub returns-clause-owner : goal.returns-clause-owner
returns-clause-owner c = owner-Fork

pub returns-clause-past : goal.returns-clause-past
returns-clause-past c = past-Fork

pub returns-clause-path : goal.returns-clause-path
returns-clause-path c = path-Fork

pub returns-clause-fork : goal.returns-clause-fork
returns-clause-fork c = fork-Fork

pub returns-clause-fork_length : goal.returns-clause-fork_length
returns-clause-fork_length c = fork_length-Fork

pub returns-clause-log : goal.returns-clause-log
returns-clause-log c = log-Fork
