-- The law, from its lemmas.
use Rattle.revision_diagram.proofs.Flushes.{FlushLaw-by_place, Flushed-next, Flushed-last, Flushed-kept}
use Rattle.revision_diagram.proofs.flush.flush_law.Goals as goal

pub returns-clause-by_place : goal.returns-clause-by_place
returns-clause-by_place c = FlushLaw-by_place

pub returns-clause-at_step : goal.returns-clause-at_step
returns-clause-at_step c = Flushed-next

pub returns-clause-at_end : goal.returns-clause-at_end
returns-clause-at_end c = Flushed-last

pub returns-clause-kept : goal.returns-clause-kept
returns-clause-kept c = Flushed-kept
