use Rattle.std.proofs.Common.{arith}
use Rattle.code_machine.proofs.Popping.{popped_first}
use Rattle.code_machine.proofs.state.+pop_keys.Goals as goal

pub returns : goal.returns
returns t c = popped_first c.args.count c.args.stack.now c.pop-value.new.self c.pop_keys-keys.new.stack c.pop-value.result c.pop_keys-keys.result c.push.new.self (omega arith) c.pop-value.ensures c.pop_keys-keys.ensures (cc (c.push.ensures, c.key_of.ensures))
