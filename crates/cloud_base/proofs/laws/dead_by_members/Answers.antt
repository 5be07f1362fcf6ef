use Rattle.cloud_base.proofs.DeadLemmas.{dead_same, dead_linked}
use Rattle.cloud_base.proofs.laws.dead_by_members.Goals as goal

pub returns : goal.returns
returns c = record { members = λ log other id once once' f g. dead_same log other id f g once once'; links = dead_linked }
