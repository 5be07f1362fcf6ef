use Rattle.cloud_base.proofs.AnswerLemmas.{all_lists, entries_lists}
use Rattle.cloud_base.proofs.laws.answers_list.Goals as goal

pub returns : goal.returns
returns c = record { all = all_lists; entries = entries_lists }
