use Rattle.code_gen.proofs.ValidBodies.{body_valid}
use Rattle.code_gen.proofs.laws.codes_are_valid.Goals as goal

pub returns : goal.returns
returns c = body_valid
