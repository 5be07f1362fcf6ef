-- The laws, from their lemmas.
use Rattle.batch_history.proofs.Fronts.{flat_front, sound_front, right_front}
use Rattle.batch_history.specs.Right.{IsThatOf}
use Rattle.batch_history.proofs.laws.fronts_of_records.Goals as goal

pub returns-clause-flat : goal.returns-clause-flat
returns-clause-flat c = flat_front

pub returns-clause-sound : goal.returns-clause-sound
returns-clause-sound c = sound_front

pub returns-clause-right : goal.returns-clause-right
returns-clause-right c = λ answers. right_front (IsThatOf answers)
