use Rattle.cloud_base.proofs.PlainLemmas.{int_set, int_add, int_text, int_fits, text_walk}
use Rattle.cloud_base.proofs.laws.plain_steps.Goals as goal

pub returns : goal.returns
returns c = record { set = int_set; add = int_add; no_integer = int_text; fits = int_fits; text = text_walk }
