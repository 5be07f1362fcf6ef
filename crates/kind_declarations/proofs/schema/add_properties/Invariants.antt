use Rattle.std.proofs.Common.{◌≡◌, ◌++◌, map, take}
use Rattle.kind_rules.specs.Declarations.{property}
use Rattle.kind_declarations.proofs.schema.add_properties.Given as goal

abbrev pub invariant-loop-one : goal.invariant-loop-one
invariant-loop-one l = l.properties ≡ l.initial.properties ++ map (property l.owner l.keys) (take l.one-index l.written)
