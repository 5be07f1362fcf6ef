use Rattle.std.proofs.Common.{◌≡◌, take}
use Rattle.kind_rules.specs.Declarations.{declared_names}
use Rattle.kind_declarations.proofs.schema.taken_names.Given as goal

abbrev pub invariant-loop-declaration : goal.invariant-loop-declaration
invariant-loop-declaration l = l.names ≡ declared_names (take l.declaration-index l.declarations)
