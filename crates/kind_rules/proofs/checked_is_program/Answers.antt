use Rattle.kind_rules.proofs.Programs.{checked_program}
use Rattle.kind_rules.proofs.checked_is_program.Goals as goal

pub returns : goal.returns
returns c = checked_program c.words_are_fit.ensures
