-- What the checker answers for statements and bodies.
use Rattle.std.specs.Prelude.{◌≡◌, ℕ, ⊤, List, Option, Some, None, Result, MatchResult}
use Rattle.std.specs.List.{AllByRecursion}
use Rattle.std.specs.Borrow.{Bor}
use Rattle.source_tree.specs.Words.{statement_words}
use Rattle.source_tree.specs.declared.statement.Statement.{Statement as Written}
use Rattle.typed_program.specs.declared.statement.Statement.{Statement}
use Rattle.kind_rules.specs.Answers.{Fault, first_fault}
use Rattle.kind_rules.specs.Names.{Scope, Variable}
use Rattle.kind_rules.specs.Statements.{Settled, Walked, settle, settle_block}
use Rattle.kind_rules.specs.Words.{IsFitWord}
use Rattle.kind_bodies.specs.declared.fault.KindFault.{KindFault}
use Rattle.kind_bodies.specs.declared.fault.KindFault.TheVariants as fault

-- an error is the fault that is due; it may also be want of memory
abbrev pub Told : Option Fault → KindFault → Type 0
Told due (fault.Rule rule line) = due ≡ Some (record { rule = rule; line = line })
Told due fault.Memory = ⊤

-- a body in which no rule fails and the lines behind it, or else its first fault
abbrev pub SettlesBody : Walked → Result (List Statement × Bor (List ℕ)) KindFault → Type 0
SettlesBody due result = MatchResult result (λ found. (first_fault due.items ≡ None) × (found.0 ≡ due.typed) × (found.1.now ≡ due.lines)) (λ fault. Told (first_fault due.items) fault)

-- the first of two faults
abbrev pub first_of : Option Fault → Option Fault → Option Fault
first_of None later = later
first_of (Some fault) later = Some fault

-- the same, in words that stay closed
unfoldable pub Tells : Option Fault → KindFault → Type 0
Tells due fault = Told due fault

unfoldable pub settled : Scope → Written → List Variable → List ℕ → Settled
settled = settle

unfoldable pub settled_block : Scope → List Written → List Variable → List ℕ → Walked
settled_block = settle_block

-- a statement, the lines behind it and the variables that are visible there are what comes of a source's
-- statement in which no rule fails, or else its first fault is told
abbrev pub Settles : Settled → List Variable → Result (Statement × Bor (List ℕ)) KindFault → Type 0
Settles due visible result =
    MatchResult result (λ found. (first_fault due.items ≡ None) × (found.0 ≡ due.typed) × (found.1.now ≡ due.lines) × (visible ≡ due.visible)) (λ fault. Tells (first_fault due.items) fault)

-- the same of the statements of a block
abbrev pub SettlesBlock : Walked → List Variable → Result (List Statement × Bor (List ℕ)) KindFault → Type 0
SettlesBlock due visible result =
    MatchResult result (λ found. (first_fault due.items ≡ None) × (found.0 ≡ due.typed) × (found.1.now ≡ due.lines) × (visible ≡ due.visible)) (λ fault. Tells (first_fault due.items) fault)

-- the numbers and texts of a statement fit
unfoldable pub IsFitStatement : Written → Type 0
IsFitStatement statement = AllByRecursion IsFitWord (statement_words statement)

unfoldable pub AreFitStatements : List Written → Type 0
AreFitStatements body = AllByRecursion IsFitStatement body
