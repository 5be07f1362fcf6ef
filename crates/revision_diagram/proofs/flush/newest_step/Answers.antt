-- The law, from its lemmas.
use Rattle.revision_diagram.proofs.Flushes.{newest-Fork, newest-other, newest-Join, newest-act}
use Rattle.revision_diagram.proofs.flush.newest_step.Goals as goal

pub returns-clause-forked : goal.returns-clause-forked
returns-clause-forked c = newest-Fork

pub returns-clause-other : goal.returns-clause-other
returns-clause-other c = newest-other

pub returns-clause-joined : goal.returns-clause-joined
returns-clause-joined c = newest-Join

pub returns-clause-acted : goal.returns-clause-acted
returns-clause-acted c = newest-act
