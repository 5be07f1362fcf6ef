-- The law, from its lemma.
use Rattle.packet_codec.proofs.Records.{next_may}
use Rattle.packet_codec.proofs.laws.next_batches_are_pushed.Goals as goal

pub returns : goal.returns
returns c = next_may
