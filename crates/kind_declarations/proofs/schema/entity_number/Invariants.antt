use Rattle.std.proofs.Common.{◌≡◌, ◌+◌, drop, option_map}
use Rattle.std.specs.Str.{bytes_eq}
use Rattle.kind_rules.specs.Names.{first_place}
use Rattle.kind_declarations.proofs.schema.entity_number.Given as goal

-- the place among the rest, counted on
abbrev pub invariant-loop-number : goal.invariant-loop-number
invariant-loop-number l = option_map (λ n. n + l.number) (first_place (λ x. bytes_eq x l.name) (drop l.number l.entities)) ≡ first_place (λ x. bytes_eq x l.name) l.entities
