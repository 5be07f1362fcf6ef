-- The laws, from their lemmas.
use Rattle.played_record.proofs.Records.{one_record, as_many_tails, as_many_ends, played_traced}
use Rattle.played_record.proofs.laws.records_of_played_runs.Goals as goal

pub returns-clause-one : goal.returns-clause-one
returns-clause-one c = one_record

pub returns-clause-clients : goal.returns-clause-clients
returns-clause-clients c = λ answers trace schedule n batches tails ends played.
    (as_many_tails answers trace schedule n batches tails ends played, as_many_ends answers trace schedule n batches tails ends played)

pub returns-clause-traced : goal.returns-clause-traced
returns-clause-traced c = played_traced
