-- The faults of items that stand together.
use Rattle.std.proofs.Common.{◌≡◌, refl, ℕ, List, [], ◌∷◌, ◌++◌, Option, Some, None, ◌∙◌}
use Rattle.kind_bodies.specs.declared.fault.KindFault.{KindFault}
use Rattle.kind_bodies.specs.declared.fault.KindFault.TheVariants as fault
use Rattle.kind_rules.specs.Answers.{Fault, first_fault, fault_with, lowest_rule}
use Rattle.kind_rules.specs.Statements.{ItemRules}
use Rattle.kind_check.specs.Faults.{TellsFault}

skip_by : (line : ℕ) (o : Option ℕ) (a b c : Option Fault) → (a ≡ None → b ≡ c) → fault_with line o a ≡ None → fault_with line o b ≡ c
skip_by line None a b c f e = f e
skip_by line (Some rule) a b c f e = cc

-- items at which no rule fails change nothing
pub skip : (xs ys : List ItemRules) → first_fault xs ≡ None → first_fault (xs ++ ys) ≡ first_fault ys
skip [] ys e = refl
skip (x ∷ xs) ys e = skip_by x.line (lowest_rule x.rules) (first_fault xs) (first_fault (xs ++ ys)) (first_fault ys) (skip xs ys) e

stop_by : (line : ℕ) (o : Option ℕ) (a b : Option Fault) (f : Fault) → (a ≡ Some f → b ≡ Some f) → fault_with line o a ≡ Some f → fault_with line o b ≡ Some f
stop_by line None a b f g e = g e
stop_by line (Some rule) a b f g e = e

-- the first fault stays the first one
pub stop : (xs ys : List ItemRules) (f : Fault) → first_fault xs ≡ Some f → first_fault (xs ++ ys) ≡ Some f
stop [] ys f e = cc
stop (x ∷ xs) ys f e = stop_by x.line (lowest_rule x.rules) (first_fault xs) (first_fault (xs ++ ys)) f (stop xs ys f) e

pub tells_more : (xs ys : List ItemRules) (e : KindFault) → TellsFault xs e → TellsFault (xs ++ ys) e
tells_more xs ys (fault.Rule rule line) h = stop xs ys _ h
tells_more xs ys fault.Memory h = tt

pub tells_same : (xs ys : List ItemRules) (e : KindFault) → first_fault ys ≡ first_fault xs → TellsFault xs e → TellsFault ys e
tells_same xs ys (fault.Rule rule line) same h = same ∙ h
tells_same xs ys fault.Memory same h = tt
