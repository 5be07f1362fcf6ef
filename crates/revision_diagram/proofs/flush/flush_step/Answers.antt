-- The law, from its lemmas.
use Rattle.revision_diagram.proofs.Flushes.{joins_up-kept, forks_down-kept, first_above-next, first_above-untold}
use Rattle.revision_diagram.proofs.flush.flush_step.Goals as goal

pub returns-clause-joined : goal.returns-clause-joined
returns-clause-joined c = joins_up-kept

pub returns-clause-forked : goal.returns-clause-forked
returns-clause-forked c = forks_down-kept

pub returns-clause-last : goal.returns-clause-last
returns-clause-last c = first_above-next

pub returns-clause-untold : goal.returns-clause-untold
returns-clause-untold c = first_above-untold
