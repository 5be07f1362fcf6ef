-- The laws, from their lemmas.
use Rattle.packet_codec.proofs.Bounded.{few_updates, few_batches, within_front, within_joined, within_own}
use Rattle.packet_codec.proofs.laws.bounded_records.Goals as goal

pub returns-clause-updates : goal.returns-clause-updates
returns-clause-updates c = few_updates

pub returns-clause-places : goal.returns-clause-places
returns-clause-places c = few_batches

pub returns-clause-fronts : goal.returns-clause-fronts
returns-clause-fronts c = within_front

pub returns-clause-joined : goal.returns-clause-joined
returns-clause-joined c = within_joined

pub returns-clause-own : goal.returns-clause-own
returns-clause-own c = within_own
