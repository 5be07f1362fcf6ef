use Rattle.std.proofs.Common.{◌≡◌, ◌++◌, take}
use Rattle.std.specs.List.{flat_map}
use Rattle.packet_bytes.specs.Spelling.{key_bytes}
use Rattle.packet_bytes.proofs.write.put_keys.Given as goal

abbrev pub invariant-loop-key : goal.invariant-loop-key
invariant-loop-key l = l.out.items ≡ l.fn.out.items ++ flat_map key_bytes (take l.key-index l.fn.keys)
