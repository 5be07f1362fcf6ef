use Rattle.std.proofs.Common.{◌∙◌}
use Rattle.code_machine.proofs.Arithmetic.{result_is, remainder_wraps}
use Rattle.code_machine.proofs.operators.remainder.Goals as goal

pub returns : goal.returns
returns c = result_is c.wrapping_rem.result _ (c.wrapping_rem.ensures ∙ remainder_wraps c.args.a c.args.b c.ranges.a c.ranges.b)
