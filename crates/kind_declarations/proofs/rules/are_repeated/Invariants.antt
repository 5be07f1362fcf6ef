use Rattle.std.proofs.Common.{◌≡◌, drop}
use Rattle.kind_rules.specs.Names.{is_repeated}
use Rattle.kind_rules.specs.Declarations.{own_names}
use Rattle.kind_declarations.proofs.rules.are_repeated.Given as goal

abbrev pub invariant-loop-place : goal.invariant-loop-place
invariant-loop-place l = is_repeated (own_names (drop l.place l.keys) l.properties) ≡ is_repeated (own_names l.keys l.properties)
