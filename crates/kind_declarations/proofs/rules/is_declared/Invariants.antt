use Rattle.std.proofs.Common.{◌≡◌, drop}
use Rattle.kind_rules.specs.Names.{is_among}
use Rattle.kind_rules.specs.Declarations.{declared_names}
use Rattle.kind_declarations.proofs.rules.is_declared.Given as goal

abbrev pub invariant-loop-declaration : goal.invariant-loop-declaration
invariant-loop-declaration l = is_among l.name (declared_names (drop l.declaration-index l.earlier)) ≡ is_among l.name (declared_names l.earlier)
