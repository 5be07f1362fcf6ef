use Rattle.cloud_base.proofs.LogLemmas.{is_created_decides, created_once_parts, parts_created_once}
use Rattle.cloud_base.proofs.laws.creations_once.Goals as goal

pub returns : goal.returns
returns c = record { test = is_created_decides; parts = λ log more. (created_once_parts log more, λ h. parts_created_once log more h.0 h.1 h.2) }
