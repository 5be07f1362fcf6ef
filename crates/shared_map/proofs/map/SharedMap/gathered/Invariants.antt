use Rattle.std.proofs.Common.{◌≡◌, ◌++◌, length}
use Rattle.shared_map.specs.Shelves.{pointed}
use Rattle.shared_map.proofs.map.SharedMap.gathered.Given as goal

abbrev pub invariant-loop-entry : goal.invariant-loop-entry
invariant-loop-entry g l = pointed l.list.items ++ l.left ≡ l.self

abbrev pub decreases-loop-entry : goal.decreases-loop-entry
decreases-loop-entry g l = length l.left
