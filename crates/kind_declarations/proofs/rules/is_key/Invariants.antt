use Rattle.std.proofs.Common.{◌≡◌, drop, map}
use Rattle.source_tree.specs.declared.program.Key.{Key}
use Rattle.kind_rules.specs.Names.{is_among}
use Rattle.kind_declarations.proofs.rules.is_key.Given as goal

abbrev pub invariant-loop-key : goal.invariant-loop-key
invariant-loop-key l = is_among l.name (map (λ (k : Key). k.name) (drop l.key-index l.keys)) ≡ is_among l.name (map (λ (k : Key). k.name) l.keys)
