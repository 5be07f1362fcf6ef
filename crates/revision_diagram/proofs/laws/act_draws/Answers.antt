-- The law, from the lemmas on one step more.
use Rattle.revision_diagram.proofs.Draws.{revisions-act, live-act, owner-act, past-act}
use Rattle.revision_diagram.proofs.laws.act_draws.Goals as goal

pub returns-clause-revisions : goal.returns-clause-revisions
returns-clause-revisions c = revisions-act

pub returns-clause-live : goal.returns-clause-live
returns-clause-live c = live-act

pub returns-clause-owner : goal.returns-clause-owner
returns-clause-owner c = owner-act

pub returns-clause-past : goal.returns-clause-past
returns-clause-past c = past-act
