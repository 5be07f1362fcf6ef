-- The law, from its lemmas.
use Rattle.played_bounds.proofs.Acts.{updates_act}
use Rattle.played_bounds.proofs.Programs.{client_acts, moment_acts}
use Rattle.played_bounds.proofs.laws.clients_do_little.Goals as goal

pub returns-clause-acts : goal.returns-clause-acts
returns-clause-acts c = client_acts

pub returns-clause-moments : goal.returns-clause-moments
returns-clause-moments c = moment_acts

pub returns-clause-updates : goal.returns-clause-updates
returns-clause-updates c = updates_act
