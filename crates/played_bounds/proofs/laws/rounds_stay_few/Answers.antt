-- The law, from its lemmas.
use Rattle.played_bounds.proofs.Steps.{opening_few, step_few, served_few}
use Rattle.played_bounds.proofs.laws.rounds_stay_few.Goals as goal

pub returns-clause-opening : goal.returns-clause-opening
returns-clause-opening c = opening_few

pub returns-clause-step : goal.returns-clause-step
returns-clause-step c = step_few

pub returns-clause-serve : goal.returns-clause-serve
returns-clause-serve c = served_few
