use Rattle.std.proofs.Common.{◌≡◌, drop}
use Rattle.kind_rules.specs.Declarations.{entity_names}
use Rattle.kind_declarations.specs.Rules.{types_rules}
use Rattle.kind_declarations.proofs.rules.are_known.Given as goal

-- the keys that are left tell of all
abbrev pub invariant-loop-key : goal.invariant-loop-key
invariant-loop-key l = types_rules (entity_names l.earlier) (drop l.key-index l.keys) ≡ types_rules (entity_names l.earlier) l.keys
