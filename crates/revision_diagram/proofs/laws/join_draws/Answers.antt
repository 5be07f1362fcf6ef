-- The law, from the lemmas on one step more.
use Rattle.revision_diagram.proofs.Draws.{revisions-Join, live-Join, owner-Join, past-Join, path-Join}
use Rattle.revision_diagram.proofs.Logs.{log-Join}
use Rattle.revision_diagram.proofs.laws.join_draws.Goals as goal

pub returns-clause-revisions : goal.returns-clause-revisions
returns-clause-revisions c = revisions-Join

pub returns-clause-live : goal.returns-clause-live
returns-clause-live c = live-Join

pub returns-clause-owner : goal.returns-clause-owner
returns-clause-owner c = owner-Join

pub returns-clause-past : goal.returns-clause-past
returns-clause-past c = past-Join

pub returns-clause-path : goal.returns-clause-path
returns-clause-path c = path-Join

pub returns-clause-log : goal.returns-clause-log
returns-clause-log c = log-Join
