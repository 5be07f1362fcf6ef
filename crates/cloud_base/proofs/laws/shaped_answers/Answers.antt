use Rattle.cloud_base.proofs.ShapedLemmas.{answer_fits, plain_is_value, value_is_said}
use Rattle.cloud_base.proofs.laws.shaped_answers.Goals as goal

pub returns : goal.returns
returns c = record { answers = answer_fits; values = plain_is_value; said = value_is_said }
