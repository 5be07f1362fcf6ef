use Rattle.std.proofs.Common.{◌≡◌, drop, map}
use Rattle.source_tree.specs.declared.program.Property.{Property}
use Rattle.kind_rules.specs.Names.{is_among}
use Rattle.kind_declarations.proofs.rules.is_property.Given as goal

abbrev pub invariant-loop-property : goal.invariant-loop-property
invariant-loop-property l = is_among l.name (map (λ (p : Property). p.name) (drop l.property-index l.properties)) ≡ is_among l.name (map (λ (p : Property). p.name) l.properties)
