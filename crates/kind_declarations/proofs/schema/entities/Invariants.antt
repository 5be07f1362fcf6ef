use Rattle.std.proofs.Common.{◌≡◌, take}
use Rattle.std.specs.List.{flat_map}
use Rattle.kind_rules.specs.Declarations.{entities_in}
use Rattle.kind_declarations.proofs.schema.entities.Given as goal

abbrev pub invariant-loop-declaration : goal.invariant-loop-declaration
invariant-loop-declaration l = l.entities ≡ flat_map (entities_in l.names) (take l.declaration-index l.declarations)
