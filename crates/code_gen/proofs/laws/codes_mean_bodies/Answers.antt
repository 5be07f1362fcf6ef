use Rattle.code_gen.proofs.Bodies.{body_means}
use Rattle.code_gen.proofs.laws.codes_mean_bodies.Goals as goal

pub returns : goal.returns
returns c schema body sane kinded = body_means schema body kinded
