use Rattle.kind_bodies.proofs.Tells.{no_memory}
use Rattle.kind_bodies.proofs.plain.update.Goals as goal

pub returns-in_err-target : goal.returns-in_err-target
returns-in_err-target c = no_memory _ _ c.from_residual.result c.from_residual.ensures.1

pub returns-in_err-found : goal.returns-in_err-found
returns-in_err-found c = no_memory _ _ c.from_residual-in_err-found.result c.from_residual-in_err-found.ensures.1
