use Rattle.plain_vm.specs.Left.{left_to_do}
use Rattle.code_machine.specs.Runs.{Reaches}
use Rattle.code_machine.specs.Steps.{standing, held}
use Rattle.code_machine.proofs.state.State.run_on.Given as goal

abbrev pub invariant-loop-need : goal.invariant-loop-need
invariant-loop-need l = Reaches l.code l.fn.self l.self

abbrev pub decreases-loop-need : goal.decreases-loop-need
decreases-loop-need l = left_to_do l.code.instructions (standing l.self) (held l.self)
