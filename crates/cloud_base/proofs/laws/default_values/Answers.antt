use Rattle.cloud_base.proofs.PlainLemmas.{nothing_is_default}
use Rattle.cloud_base.proofs.ShapedLemmas.{default_decides}
use Rattle.cloud_base.proofs.laws.default_values.Goals as goal

pub returns : goal.returns
returns c = record { nothing = nothing_is_default; test = default_decides }
