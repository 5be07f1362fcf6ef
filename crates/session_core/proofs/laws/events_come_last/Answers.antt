-- The law, from its lemmas.
use Rattle.session_core.proofs.Lasting.{done_last, seen_last}
use Rattle.session_core.proofs.laws.events_come_last.Goals as goal

pub returns-clause-done : goal.returns-clause-done
returns-clause-done c s flush event standing = done_last s flush event standing.running

pub returns-clause-seen : goal.returns-clause-seen
returns-clause-seen c s flush event standing = seen_last s flush event standing.running
