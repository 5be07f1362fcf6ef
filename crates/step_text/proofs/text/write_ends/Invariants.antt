use Rattle.std.proofs.Common.{◌≡◌, ◌++◌, drop}
use Rattle.step_text.specs.Text.{ends_text}
use Rattle.step_text.proofs.text.write_ends.Given as goal

abbrev pub invariant-loop-client : goal.invariant-loop-client
invariant-loop-client l = l.out.items ++ ends_text l.names l.client (drop l.client l.ends) ≡ l.fn.out.items ++ ends_text l.names 0 l.ends
