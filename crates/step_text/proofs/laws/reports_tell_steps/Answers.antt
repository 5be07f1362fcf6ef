use Rattle.step_text.proofs.TellLines.{reports_tell}
use Rattle.step_text.proofs.laws.reports_tell_steps.Goals as goal

pub returns : goal.returns
returns c = λ schema names steps ends legible fa ga. record {
  steps_fit = fa;
  ends_fit = ga;
  alone = λ other later fb gb same. reports_tell schema names other steps later ends legible fb fa gb ga same;
}
