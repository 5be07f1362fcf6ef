use Rattle.std.proofs.Common.{◌≡◌, ◌++◌, drop}
use Rattle.kind_rules.specs.Declarations.{entity_names}
use Rattle.kind_declarations.proofs.schema.entity_names.Given as goal

-- the names so far and those that are left
abbrev pub invariant-loop-declaration : goal.invariant-loop-declaration
invariant-loop-declaration l = l.names ++ entity_names (drop l.declaration-index l.declarations) ≡ entity_names l.declarations
