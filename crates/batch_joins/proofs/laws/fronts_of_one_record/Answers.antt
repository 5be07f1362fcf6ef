-- The laws, from their lemmas.
use Rattle.batch_joins.proofs.Own.{more_own, all_own, pulled_part, based_part}
use Rattle.batch_joins.proofs.laws.fronts_of_one_record.Goals as goal

pub returns-clause-longer : goal.returns-clause-longer
returns-clause-longer c = more_own

pub returns-clause-all : goal.returns-clause-all
returns-clause-all c = all_own

pub returns-clause-pulled : goal.returns-clause-pulled
returns-clause-pulled c = pulled_part

pub returns-clause-based : goal.returns-clause-based
returns-clause-based c = based_part
