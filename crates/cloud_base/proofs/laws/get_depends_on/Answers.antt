use Rattle.cloud_base.proofs.AnswerLemmas.{get_depends}
use Rattle.cloud_base.proofs.laws.get_depends_on.Goals as goal

pub returns : goal.returns
returns c = get_depends
