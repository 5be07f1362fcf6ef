-- The laws, from their lemmas.
use Rattle.batch_joins.proofs.Own.{joined_once, joined_fit}
use Rattle.batch_joins.proofs.laws.own_updates_join.Goals as goal

pub returns-clause-once : goal.returns-clause-once
returns-clause-once c = joined_once

pub returns-clause-fit : goal.returns-clause-fit
returns-clause-fit c = joined_fit
