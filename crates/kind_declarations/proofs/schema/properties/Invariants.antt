use Rattle.std.proofs.Common.{◌≡◌, ◌++◌, take}
use Rattle.std.specs.List.{flat_map}
use Rattle.kind_rules.specs.Declarations.{owned_in}
use Rattle.kind_declarations.proofs.schema.properties.Given as goal

abbrev pub invariant-loop-declaration : goal.invariant-loop-declaration
invariant-loop-declaration l = l.properties ≡ l.initial.properties ++ flat_map (owned_in l.entities) (take l.declaration-index l.declarations)
