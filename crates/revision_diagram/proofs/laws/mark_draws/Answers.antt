-- The law, from the lemmas on one step more.
use Rattle.revision_diagram.proofs.Draws.{path-Mark}
use Rattle.revision_diagram.proofs.Logs.{log-Mark}
use Rattle.revision_diagram.proofs.laws.mark_draws.Goals as goal

pub returns-clause-path : goal.returns-clause-path
returns-clause-path c = path-Mark

pub returns-clause-log : goal.returns-clause-log
returns-clause-log c = log-Mark
