use Rattle.std.proofs.Common.{◌≡◌, ◌++◌, ◌+◌, ◌≤◌, drop}
use Rattle.step_text.specs.Text.{steps_text}
use Rattle.step_text.proofs.text.write_steps.Given as goal

abbrev pub invariant-loop-step : goal.invariant-loop-step
invariant-loop-step l = record {
  few : l.forks ≤ l.step-index;
  rest : l.out.items ++ steps_text l.schema l.names (l.forks + 1) (drop l.step-index l.steps) ≡ l.fn.out.items ++ steps_text l.schema l.names 1 l.steps;
}
