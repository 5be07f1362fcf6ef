-- What it says that no rule fails.
use Rattle.std.proofs.Common.{◌≡◌, refl, ap, subst}
use Rattle.std.proofs.lemmas.Bool.{eqb-true}
use Rattle.std.specs.Prelude.{ℕ, Bool, true, false, ◌&&◌, List, [], ◌∷◌, ◌++◌, if◌then◌else◌, Option, None}
use Rattle.std.specs.List.{AllByRecursion}
use Rattle.typed_program.specs.declared.expression.Kind.{Kind}
use Rattle.typed_program.specs.declared.expression.Kind.TheVariants.{Int, Text, Truth, Id}
use Rattle.kind_rules.specs.Answers.{Fault, lowest_rule, fault_with, first_fault}
use Rattle.kind_rules.specs.Statements.{ItemRules}
use Rattle.kind_rules.specs.Expressions.{Judged, same_kind, unless, is_clean, unless_kind, unless_kinds, rules_in}

pub none_of_two : (xs ys : List ℕ) → xs ++ ys ≡ [] → (xs ≡ []) × (ys ≡ [])
none_of_two [] ys h = (refl, h)
none_of_two (x ∷ xs) ys h = cc

pub holds : (b : Bool) (rule : ℕ) → unless b rule ≡ [] → b ≡ true
holds true rule h = refl
holds false rule h = cc

pub holds_of_kind : (fits : Kind → Bool) (rule : ℕ) (a : Judged) → a.rules ≡ [] → unless_kind fits rule a ≡ [] → fits a.kind ≡ true
holds_of_kind fits rule a e h = holds (fits a.kind) rule (subst (λ rules. (if is_clean rules then unless (fits a.kind) rule else []) ≡ []) e h)

pub holds_of_kinds : (fits : Kind → Kind → Bool) (rule : ℕ) (a b : Judged) → a.rules ≡ [] → b.rules ≡ [] → unless_kinds fits rule a b ≡ [] → fits a.kind b.kind ≡ true
holds_of_kinds fits rule a b e f h =
    holds (fits a.kind b.kind) rule (subst (λ r. (if is_clean [] && is_clean r then unless (fits a.kind b.kind) rule else []) ≡ []) f (subst (λ r. (if is_clean r && is_clean b.rules then unless (fits a.kind b.kind) rule else []) ≡ []) e h))

pub same_kind_is : (a b : Kind) → same_kind a b ≡ true → a ≡ b
same_kind_is Int Int h = refl
same_kind_is Int Text h = cc
same_kind_is Int Truth h = cc
same_kind_is Int (Id m) h = cc
same_kind_is Text Int h = cc
same_kind_is Text Text h = refl
same_kind_is Text Truth h = cc
same_kind_is Text (Id m) h = cc
same_kind_is Truth Int h = cc
same_kind_is Truth Text h = cc
same_kind_is Truth Truth h = refl
same_kind_is Truth (Id m) h = cc
same_kind_is (Id n) Int h = cc
same_kind_is (Id n) Text h = cc
same_kind_is (Id n) Truth h = cc
same_kind_is (Id n) (Id m) h = ap Id (eqb-true n m h)

pub none_in_keys : (keys : List Judged) → rules_in keys ≡ [] → AllByRecursion (λ (key : Judged). key.rules ≡ []) keys
none_in_keys [] h = tt
none_in_keys (key ∷ keys) h = let two = none_of_two key.rules (rules_in keys) h in (two.0, none_in_keys keys two.1)

-- ---- items

abbrev pub AllClean : List ItemRules → Type 0
AllClean items = AllByRecursion (λ (item : ItemRules). item.rules ≡ []) items

no_fault_in : (line : ℕ) (rules : List ℕ) (later : Option Fault) → fault_with line (lowest_rule rules) later ≡ None → (rules ≡ []) × (later ≡ None)
no_fault_in line [] later h = (refl, h)
no_fault_in line (rule ∷ rules) later h = cc

pub clean_without_fault : (items : List ItemRules) → first_fault items ≡ None → AllClean items
clean_without_fault [] h = tt
clean_without_fault (item ∷ items) h = let two = no_fault_in item.line item.rules (first_fault items) h in (two.0, clean_without_fault items two.1)
