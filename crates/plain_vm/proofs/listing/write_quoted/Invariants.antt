use Rattle.std.proofs.Common.{◌≡◌, ◌++◌, ◌∷◌, [], take}
use Rattle.std.specs.List.{flat_map}
use Rattle.plain_vm.specs.Listing.{escaped}
use Rattle.plain_vm.proofs.listing.write_quoted.Given as goal

abbrev pub invariant-loop-byte : goal.invariant-loop-byte
invariant-loop-byte l = l.out.items ≡ (l.fn.out.items ++ 34 ∷ []) ++ flat_map escaped (take l.byte-index l.bytes)
