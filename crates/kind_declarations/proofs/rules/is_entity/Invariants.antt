use Rattle.std.proofs.Common.{◌≡◌, drop}
use Rattle.kind_rules.specs.Names.{is_among}
use Rattle.kind_rules.specs.Declarations.{entity_names}
use Rattle.kind_declarations.proofs.rules.is_entity.Given as goal

abbrev pub invariant-loop-declaration : goal.invariant-loop-declaration
invariant-loop-declaration l = is_among l.name (entity_names (drop l.declaration-index l.earlier)) ≡ is_among l.name (entity_names l.earlier)
