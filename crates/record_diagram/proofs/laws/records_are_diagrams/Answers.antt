-- The law, from the laws of the steps.
use Rattle.record_diagram.proofs.Whole.{headline_of_record}
use Rattle.record_diagram.proofs.laws.records_are_diagrams.Goals as goal

pub returns : goal.returns
returns c = headline_of_record
