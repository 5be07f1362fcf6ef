-- The law, from its lemma.
use Rattle.played_bounds.proofs.Records.{record_small}
use Rattle.played_bounds.proofs.laws.records_stay_small.Goals as goal

pub returns : goal.returns
returns c = record_small
