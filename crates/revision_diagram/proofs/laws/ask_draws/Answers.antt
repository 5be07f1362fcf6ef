-- The law, from the lemmas on one step more.
use Rattle.revision_diagram.proofs.Draws.{path-Ask}
use Rattle.revision_diagram.proofs.Logs.{log-Ask}
use Rattle.revision_diagram.proofs.laws.ask_draws.Goals as goal

pub returns-clause-path : goal.returns-clause-path
returns-clause-path c = path-Ask

pub returns-clause-log : goal.returns-clause-log
returns-clause-log c = log-Ask
