-- What fails at the keys of a declaration.
use Rattle.std.specs.Prelude.{ℕ, List}
use Rattle.std.specs.List.{flat_map}
use Rattle.source_tree.specs.declared.program.Key.{Key}
use Rattle.kind_rules.specs.Declarations.{type_rules}

-- of the type of each key
abbrev pub types_rules : List (List ℕ) → List Key → List ℕ
types_rules entities keys = flat_map (λ (k : Key). type_rules entities k.of) keys
