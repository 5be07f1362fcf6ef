use Rattle.std.proofs.Common.{◌≡◌, ◌++◌, take, codes}
use Rattle.std.specs.List.{flat_map}
use Rattle.source_print.specs.Canonical.{property_text}
use Rattle.source_print.proofs.declaration.write_properties.Given as goal

abbrev pub invariant-loop-property : goal.invariant-loop-property
invariant-loop-property l = l.out.items ≡ (l.fn.out.items ++ codes " {\n") ++ flat_map property_text (take l.property-index l.properties)
