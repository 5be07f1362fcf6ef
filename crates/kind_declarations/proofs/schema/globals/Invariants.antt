use Rattle.std.proofs.Common.{◌≡◌, take}
use Rattle.std.specs.List.{flat_map}
use Rattle.kind_rules.specs.Declarations.{globals_in}
use Rattle.kind_declarations.proofs.schema.globals.Given as goal

abbrev pub invariant-loop-declaration : goal.invariant-loop-declaration
invariant-loop-declaration l = l.properties ≡ flat_map globals_in (take l.declaration-index l.declarations)
