use Rattle.std.proofs.Common.{◌≡◌, drop}
use Rattle.kind_rules.specs.Statements.{scope_of, any_used}
use Rattle.kind_bodies.proofs.name.any_used.Given as goal

-- the names that are left decide
abbrev pub invariant-loop-name : goal.invariant-loop-name
invariant-loop-name l = any_used (scope_of l.declared l.variables) (drop l.name-index l.names) ≡ any_used (scope_of l.declared l.variables) l.names
