use Rattle.cloud_base.proofs.AnswerLemmas.{answer_alike}
use Rattle.cloud_base.proofs.DeadLemmas.{alike_members}
use Rattle.cloud_base.proofs.laws.alike_answers.Goals as goal

pub returns : goal.returns
returns c = record { answers = answer_alike; members = alike_members }
