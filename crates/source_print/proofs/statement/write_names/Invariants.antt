use Rattle.std.proofs.Common.{◌≡◌, ◌++◌, [], drop}
use Rattle.source_print.specs.Expressions.{following}
use Rattle.source_print.proofs.statement.write_names.Given as goal

-- what stands so far, and the names that are left, make all
abbrev pub invariant-loop-name : goal.invariant-loop-name
invariant-loop-name l = l.out.items ++ following [] (drop l.name-index l.rest) ≡ l.initial.out.items ++ following [] l.rest
