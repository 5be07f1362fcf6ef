use Rattle.std.proofs.Common.{◌∙◌}
use Rattle.code_machine.proofs.Arithmetic.{result_is, negation_wraps}
use Rattle.code_machine.proofs.operators.negated.Goals as goal

pub returns : goal.returns
returns c = result_is c.wrapping_neg.result _ (c.wrapping_neg.ensures ∙ negation_wraps c.args.a c.ranges.a)
