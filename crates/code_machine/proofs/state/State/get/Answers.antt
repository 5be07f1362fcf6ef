use Rattle.std.proofs.Common.{arith}
use Rattle.code_machine.proofs.Popping.{got}
use Rattle.code_machine.specs.Steps.{held}
use Rattle.code_machine.proofs.state.State.get.Goals as goal

pub returns : goal.returns
returns c = record {
  comes = λ at e. got c.args.property c.args.count at c.args.self.now.place c.args.self.now.stack c.pop_keys-keys.new.stack c.args.self.now.listings c.pop_keys-keys.result (held c.args.self.now) e c.pop_keys-keys.ensures;
  as_ever = tt;
  ids = omega arith;
}
