use Rattle.std.proofs.Common.{subst, arith}
use Rattle.std.specs.Prelude.{Result, Ok, Err, IfOk}
use Rattle.plain_vm.specs.Code.{CodeOf}
use Rattle.code_machine.specs.Machine.{IsShapedNeed}
use Rattle.code_machine.proofs.Needing.{needed_next, need_shaped, same_ids}
use Rattle.code_machine.proofs.machine.Machine.next.Goals as goal

if_ok : {A E : Type 0} {P Q : A → Type 0} → (r : Result A E) → ((x : A) → P x → Q x) → IfOk r P → IfOk r Q
if_ok (Ok x) f h = f x h
if_ok (Err e) f h = h

pub returns-clause-needed : goal.returns-clause-needed
returns-clause-needed c = if_ok c.run_on.result (λ need h. needed_next c.args.self.now _ c.settle.new.self need c.in_ok-settle.ensures.settled c.in_ok-settle.ensures.code c.in_ok-settle.ensures.settled.given h c.requires.ids) c.run_on.ensures

pub returns-clause-shaped : goal.returns-clause-shaped
returns-clause-shaped c = if_ok c.run_on.result (λ need h. subst (λ (code : CodeOf). IsShapedNeed code.schema need) c.in_ok-settle.ensures.code (need_shaped c.settle.new.self.code.now c.settle.new.self.state c.run_on.new.self need h (omega (arith, same_ids c.args.self.now c.settle.new.self c.in_ok-settle.ensures.settled, c.requires.ids)))) c.run_on.ensures
