use Rattle.cloud_base.proofs.LogLemmas.{fit_parts, parts_fit, fit_one_more}
use Rattle.cloud_base.proofs.laws.fit_logs.Goals as goal

pub returns : goal.returns
returns c = record { parts = λ schema log more. (fit_parts schema log more, λ h. parts_fit schema log more h.0 h.1 h.2); one_more = fit_one_more }
