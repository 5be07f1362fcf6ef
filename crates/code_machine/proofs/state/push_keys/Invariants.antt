use Rattle.std.proofs.Common.{◌≡◌, map, drop}
use Rattle.typed_program.specs.Trace.{value_of}
use Rattle.plain_vm.specs.Exec.{push_all}
use Rattle.code_machine.proofs.state.push_keys.Given as goal

abbrev pub invariant-loop-key : goal.invariant-loop-key
invariant-loop-key l = push_all (map value_of (drop l.key-index l.keys)) l.stack ≡ push_all (map value_of l.keys) l.fn.stack
