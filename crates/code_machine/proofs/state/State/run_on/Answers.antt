use Rattle.std.proofs.Common.{sym, subst, arith}
use Rattle.plain_vm.specs.declared.instruction.Instruction.{Instruction}
use Rattle.std.specs.Prelude.{List, None, Some}
use Rattle.code_machine.proofs.Finding.{finds_at}
use Rattle.code_machine.proofs.Stepping.{goes_on, less_left}
use Rattle.code_machine.specs.Finds.{FindsAt}
use Rattle.code_machine.specs.Steps.{Steps, standing, held}
use Rattle.code_machine.proofs.state.State.run_on.Goals as goal

pub step-requires : goal.step-requires
step-requires c = subst (λ (code : List Instruction). FindsAt code (standing c.loop-need.self) (held c.loop-need.self)) (sym c.instructions-instructions.ensures.instructions)
    (finds_at c.args.code.now (standing c.loop-need.self) (held c.loop-need.self) c.loop-need.invariant.sits (omega arith))

pub returns-in-Some : goal.returns-in-Some
returns-in-Some c = record {
  last = c.loop-need.self;
  reaches = c.loop-need.invariant;
  steps = subst (λ (code : List Instruction). Steps code c.loop-need.self c.step.new.self (Some c.in-Some.need)) c.instructions-instructions.ensures.instructions (rw c.in-Some.is at c.in_ok-need.ensures);
}

pub loop-need-smaller : goal.loop-need-smaller
loop-need-smaller c = less_left c.args.code.now c.loop-need.self c.step.new.self c.loop-need.invariant.sits (subst (λ (code : List Instruction). Steps code c.loop-need.self c.step.new.self None) c.instructions-instructions.ensures.instructions (rw c.in_default.is at c.in_ok-need.ensures))

pub loop-need-preserved : goal.loop-need-preserved
loop-need-preserved c = goes_on c.args.code.now c.args.self.now c.loop-need.self c.step.new.self c.requires.ids c.loop-need.invariant (subst (λ (code : List Instruction). Steps code c.loop-need.self c.step.new.self None) c.instructions-instructions.ensures.instructions (rw c.in_default.is at c.in_ok-need.ensures))
