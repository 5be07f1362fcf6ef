-- The law, from the lemmas on one step more.
use Rattle.revision_diagram.proofs.Draws.{path-Do}
use Rattle.revision_diagram.proofs.Logs.{log-Do}
use Rattle.revision_diagram.proofs.laws.do_draws.Goals as goal

pub returns-clause-path : goal.returns-clause-path
returns-clause-path c = path-Do

pub returns-clause-log : goal.returns-clause-log
returns-clause-log c = log-Do
