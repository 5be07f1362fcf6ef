use Rattle.typed_program.proofs.KindLaws.{kind_is}
use Rattle.typed_program.proofs.laws.kinds_are_told.Goals as goal

pub returns : goal.returns
returns c = kind_is
