-- The laws, from their lemmas.
use Rattle.batch_history.specs.Right.{IsThatOf}
use Rattle.batch_joins.proofs.Joined.{no_gap, joined_sound, own_joined, right_batches}
use Rattle.batch_joins.proofs.laws.next_batches_join.Goals as goal

pub returns-clause-no_gap : goal.returns-clause-no_gap
returns-clause-no_gap c = no_gap

pub returns-clause-sound : goal.returns-clause-sound
returns-clause-sound c = joined_sound

pub returns-clause-own : goal.returns-clause-own
returns-clause-own c = own_joined

pub returns-clause-right : goal.returns-clause-right
returns-clause-right c = λ answers. right_batches (IsThatOf answers)
