use Rattle.std.proofs.Common.{◌≡◌, take}
use Rattle.shared_map.specs.Shelves.{pointed}
use Rattle.shared_map.proofs.own.all_shared.Given as goal

abbrev pub invariant-loop-entry : goal.invariant-loop-entry
invariant-loop-entry g l = pointed l.list.items ≡ pointed (take l.entry-index l.entries)
