use Rattle.cloud_base.proofs.LogLemmas.{part_left, part_right, part_append, part_joined}
use Rattle.cloud_base.proofs.laws.parts_of_logs.Goals as goal

pub returns : goal.returns
returns c = record { left = part_left; right = part_right; both = part_append; joined = part_joined }
