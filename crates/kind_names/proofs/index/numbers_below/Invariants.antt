use Rattle.std.proofs.Common.{◌≡◌}
use Rattle.kind_names.specs.Indexes.{below}
use Rattle.kind_names.proofs.index.numbers_below.Given as goal

abbrev pub invariant-loop-number : goal.invariant-loop-number
invariant-loop-number l = l.numbers.items ≡ below l.number
