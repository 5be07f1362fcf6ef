-- The laws, from their lemmas.
use Rattle.batch_history.specs.Right.{IsThatOf}
use Rattle.batch_joins.proofs.Alone.{own_fit_alone, own_created_once, own_right}
use Rattle.batch_joins.proofs.laws.own_batches_alone.Goals as goal

pub returns-clause-each : goal.returns-clause-each
returns-clause-each c = own_fit_alone

pub returns-clause-once : goal.returns-clause-once
returns-clause-once c = own_created_once

pub returns-clause-right : goal.returns-clause-right
returns-clause-right c = λ answers. own_right (IsThatOf answers)
