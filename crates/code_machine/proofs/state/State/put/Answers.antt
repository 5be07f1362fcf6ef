use Rattle.std.proofs.Common.{arith}
use Rattle.code_machine.proofs.Popping.{put}
use Rattle.code_machine.specs.Steps.{held}
use Rattle.code_machine.proofs.state.State.put.Goals as goal

pub returns : goal.returns
returns c = record {
  comes = λ at e. put c.args.operation c.args.property c.args.count at c.args.self.now.place c.pop-value.result c.change_of-change.result c.args.self.now.stack c.pop-value.new.self c.pop_keys-keys.new.stack c.args.self.now.listings c.pop_keys-keys.result (held c.args.self.now) e c.pop-value.ensures c.pop_keys-keys.ensures c.change_of-change.ensures;
  as_ever = tt;
  ids = omega arith;
}
