use Rattle.kind_bodies.proofs.Tells.{no_memory}
use Rattle.kind_bodies.proofs.plain.define.Goals as goal

pub returns-in_err-found : goal.returns-in_err-found
returns-in_err-found c = no_memory _ _ c.from_residual.result c.from_residual.ensures.1

pub returns-in_err-declare : goal.returns-in_err-declare
returns-in_err-declare c = no_memory _ _ c.from_residual-in_err-declare.result c.from_residual-in_err-declare.ensures.1
