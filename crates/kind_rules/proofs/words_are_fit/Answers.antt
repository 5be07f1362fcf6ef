use Rattle.kind_rules.proofs.FitWords.{fit_words}
use Rattle.kind_rules.proofs.words_are_fit.Goals as goal

pub returns : goal.returns
returns c = fit_words c.spelled_words.ensures.words
