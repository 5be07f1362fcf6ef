use Rattle.fj_core.proofs.ChangeLemmas as law
use Rattle.fj_core.proofs.laws.changes_keep_values.Goals as goal

pub returns-clause-ints : goal.returns-clause-ints
returns-clause-ints c = law.plain_int-ints

pub returns-clause-texts : goal.returns-clause-texts
returns-clause-texts c = law.plain_text-texts

pub returns-clause-ints_back : goal.returns-clause-ints_back
returns-clause-ints_back c = law.ints_back

pub returns-clause-texts_back : goal.returns-clause-texts_back
returns-clause-texts_back c = law.texts_back
