use Rattle.std.proofs.Common.{◌∙◌}
use Rattle.code_machine.proofs.Arithmetic.{result_is, quotient_wraps}
use Rattle.code_machine.proofs.operators.quotient.Goals as goal

pub returns : goal.returns
returns c = result_is c.wrapping_div.result _ (c.wrapping_div.ensures ∙ quotient_wraps c.args.a c.args.b c.ranges.a c.ranges.b)
