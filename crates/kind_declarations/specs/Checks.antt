-- What a check of declarations answers.
use Rattle.std.specs.Prelude.{◌≡◌, ℕ, List, [], Option, Some, None, Result, Ok, Err}
use Rattle.std.specs.Borrow.{Bor}
use Rattle.source_tree.specs.declared.program.Declaration.{Declaration}
use Rattle.kind_rules.specs.Answers.{first_fault}
use Rattle.kind_rules.specs.Declarations.{rules_from}
use Rattle.kind_rules.specs.Names.{Scope}
use Rattle.kind_rules.specs.Programs.{at_lines, lines_behind, whole_scope}
use Rattle.kind_rules.specs.Answers.{Fault}
use Rattle.kind_bodies.specs.declared.fault.KindFault.{KindFault}
use Rattle.kind_bodies.specs.declared.fault.KindFault.TheVariants.{Rule, Memory}

-- the fault of declarations, which stand at the first of some lines
abbrev pub declarations_fault : List Declaration → List ℕ → Option Fault
declarations_fault ds lines = first_fault (at_lines lines (rules_from [] ds))

-- a refusal names the fault; want of memory may have any cause
abbrev pub Refuses : List Declaration → List ℕ → KindFault → Type 0
Refuses ds lines (Rule rule line) = declarations_fault ds lines ≡ Some (record { rule = rule; line = line })
Refuses ds lines Memory = Unit {0}

-- no rule fails, or the fault is told
abbrev pub SettlesRules : List Declaration → List ℕ → Result (Bor (List ℕ)) KindFault → Type 0
SettlesRules ds lines (Ok rest) = (declarations_fault ds lines ≡ None) × (rest.now ≡ lines_behind ds lines)
SettlesRules ds lines (Err fault) = Refuses ds lines fault

-- what comes of a check: no rule fails, and this is declared, or the fault is told
abbrev pub SettlesDeclarations : List Declaration → List ℕ → Result (Scope × Bor (List ℕ)) KindFault → Type 0
SettlesDeclarations ds lines (Ok (declared, rest)) = (declarations_fault ds lines ≡ None) × (declared ≡ whole_scope ds) × (rest.now ≡ lines_behind ds lines)
SettlesDeclarations ds lines (Err fault) = Refuses ds lines fault
