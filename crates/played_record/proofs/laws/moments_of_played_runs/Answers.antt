-- The laws, from their lemmas.
use Rattle.played_record.proofs.Moments.{opening_moment, step_moment, served_moment, after_moment}
use Rattle.played_record.proofs.Serving.{served_keeps}
use Rattle.played_record.proofs.laws.moments_of_played_runs.Goals as goal

pub returns-clause-opening : goal.returns-clause-opening
returns-clause-opening c = opening_moment

pub returns-clause-step : goal.returns-clause-step
returns-clause-step c = step_moment

pub returns-clause-serve : goal.returns-clause-serve
returns-clause-serve c = served_moment

pub returns-clause-joins : goal.returns-clause-joins
returns-clause-joins c = λ trace k fate w moment. (served_keeps k fate w moment.client).longer

pub returns-clause-sweeps : goal.returns-clause-sweeps
returns-clause-sweeps c = after_moment
