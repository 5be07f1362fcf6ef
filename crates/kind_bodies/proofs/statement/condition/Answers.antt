use Rattle.kind_bodies.proofs.Tells.{no_memory_later}
use Rattle.kind_bodies.proofs.statement.condition.Goals as goal

pub returns-in_err-found : goal.returns-in_err-found
returns-in_err-found c = no_memory_later _ _ c.from_residual.result c.from_residual.ensures.1
