-- The laws, from their lemmas.
use Rattle.packet_codec.specs.Served.{example_nothing}
use Rattle.packet_codec.proofs.Records.{served_front}
use Rattle.packet_codec.proofs.laws.served_records.Goals as goal

pub returns-clause-nothing : goal.returns-clause-nothing
returns-clause-nothing c = example_nothing

pub returns-clause-fronts : goal.returns-clause-fronts
returns-clause-fronts c = served_front
