-- The law, from the lemmas on one step more.
use Rattle.revision_diagram.proofs.Kept.{live-there, past-there, path-there, served, owner-some}
use Rattle.revision_diagram.proofs.Frames.{stands-next}
use Rattle.revision_diagram.proofs.laws.revisions_are_there.Goals as goal

pub returns-clause-live : goal.returns-clause-live
returns-clause-live c = live-there

pub returns-clause-past : goal.returns-clause-past
returns-clause-past c = past-there

pub returns-clause-path : goal.returns-clause-path
returns-clause-path c = path-there

pub returns-clause-server : goal.returns-clause-server
returns-clause-server c = λ steps. (served steps).there

pub returns-clause-nobodys : goal.returns-clause-nobodys
returns-clause-nobodys c = λ steps. (served steps).nobodys

pub returns-clause-owner : goal.returns-clause-owner
returns-clause-owner c = owner-some

pub returns-clause-next : goal.returns-clause-next
returns-clause-next c = stands-next
