use Rattle.std.proofs.Common.{◌≡◌, ◌++◌, drop}
use Rattle.plain_vm.specs.Listing.{lines_from, listing}
use Rattle.plain_vm.proofs.listing.print_code.Given as goal

abbrev pub invariant-loop-place : goal.invariant-loop-place
invariant-loop-place l = l.out.items ++ lines_from l.place (drop l.place l.instructions) ≡ listing l.instructions
