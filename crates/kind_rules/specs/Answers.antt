-- The fault of a source: at the lowest item at which some rule fails, the lowest rule that fails there.
use Rattle.std.specs.Prelude.{◌≡◌, refl, ℕ, min, List, [], ◌∷◌, Option, Some, None}
use Rattle.kind_rules.specs.Statements.{ItemRules}

-- the lowest of some rules
abbrev pub lowest : ℕ → List ℕ → ℕ
lowest rule [] = rule
lowest rule (r ∷ rules) = lowest (min rule r) rules

abbrev pub lowest_rule : List ℕ → Option ℕ
lowest_rule [] = None
lowest_rule (rule ∷ rules) = Some (lowest rule rules)

pub record Fault : Type 0 where
  pub rule : ℕ
  pub line : ℕ

abbrev pub fault_with : ℕ → Option ℕ → Option Fault → Option Fault
fault_with line None later = later
fault_with line (Some rule) later = Some (record { rule = rule; line = line })

abbrev pub fault_at : ItemRules → Option Fault → Option Fault
fault_at item later = fault_with item.line (lowest_rule item.rules) later

abbrev pub first_fault : List ItemRules → Option Fault
first_fault [] = None
first_fault (item ∷ items) = fault_at item (first_fault items)

module _ where
  -- the first item has no fault, so the lowest rule of the second one is told
  pub example_fault : first_fault (record { line = 1; rules = [] } ∷ record { line = 2; rules = 7 ∷ 4 ∷ 5 ∷ [] } ∷ record { line = 3; rules = 1 ∷ [] } ∷ []) ≡ Some (record { rule = 4; line = 2 })
  example_fault = refl
