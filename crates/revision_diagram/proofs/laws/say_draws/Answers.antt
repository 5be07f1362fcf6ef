-- The law, from the lemmas on one step more.
use Rattle.revision_diagram.proofs.Draws.{path-Say}
use Rattle.revision_diagram.proofs.Logs.{log-Say}
use Rattle.revision_diagram.proofs.laws.say_draws.Goals as goal

pub returns-clause-path : goal.returns-clause-path
returns-clause-path c = path-Say

pub returns-clause-log : goal.returns-clause-log
returns-clause-log c = log-Say
