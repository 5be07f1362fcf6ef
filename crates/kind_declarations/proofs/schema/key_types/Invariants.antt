use Rattle.std.proofs.Common.{◌≡◌, take}
use Rattle.kind_rules.specs.Declarations.{key_types}
use Rattle.kind_declarations.proofs.schema.key_types.Given as goal

abbrev pub invariant-loop-key : goal.invariant-loop-key
invariant-loop-key l = l.types ≡ key_types l.entities (take l.key-index l.keys)
