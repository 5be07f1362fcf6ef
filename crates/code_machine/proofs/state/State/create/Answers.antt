use Rattle.std.proofs.Common.{◌+◌, arith}
use Rattle.code_machine.proofs.Popping.{created, id_is}
use Rattle.code_machine.specs.Steps.{held}
use Rattle.code_machine.proofs.state.State.create.Goals as goal

pub returns : goal.returns
returns c = record {
  comes = λ at e. created c.args.entity c.args.count at c.args.self.now.place (c.args.self.now.serial + 1) c.args.self.now.stack c.pop_keys-keys.new.stack c.push.new.self c.args.self.now.listings c.pop_keys-keys.result c.new-id.result (held c.args.self.now) e c.pop_keys-keys.ensures (id_is c.new-id.result _ _ c.new-id.ensures.client (cc (c.new-id.ensures.serial))) (omega arith) c.in_ok-push.ensures;
  as_ever = tt;
  ids = omega arith;
}
