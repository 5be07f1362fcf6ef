use Rattle.cloud_base.proofs.DeadLemmas.{is_dead_decides, dead_from_chain}
use Rattle.cloud_base.proofs.laws.dead_by_chains.Goals as goal

pub returns : goal.returns
returns c = record { test = is_dead_decides; chains = dead_from_chain }
