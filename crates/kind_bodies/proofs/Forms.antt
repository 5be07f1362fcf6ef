-- What comes of each form of expression.
use Rattle.std.proofs.Common.{◌≡◌, ℕ, Bool, List, Option, sym, ap, ◌∙◌}
use Rattle.std.specs.Prelude.{pos, Result, IfOk}
use Rattle.std.proofs.lemmas.Result.{IfOk-weaker}
use Rattle.cloud_base.specs.declared.memory.Memory.{Memory}
use Rattle.source_tree.specs.declared.expression.Expression.{Expression as Written}
use Rattle.source_tree.specs.declared.expression.Expression.TheFolds.{fold-roll-Expression}
use Rattle.source_tree.specs.declared.expression.Expression.TheOpen.{Expression-F}
use Rattle.source_tree.specs.declared.expression.Expression.TheVariants as e
use Rattle.source_tree.specs.declared.expression.Operator.{Operator}
use Rattle.typed_program.specs.declared.expression.Expression.TheVariants as typed
use Rattle.typed_program.specs.declared.expression.Kind.TheVariants as kind
use Rattle.kind_rules.specs.Names.{Scope, slot_of}
use Rattle.kind_rules.specs.Expressions.{Judged, fine, alive, judge, judge_step, same_kind, fits}
use Rattle.kind_bodies.specs.declared.found.Found.{Found}
use Rattle.kind_bodies.specs.Found.{told, judged, minus_found, not_found, binary_found}
use Rattle.kind_bodies.proofs.Places.{judged_name, judged_field, judged_entry}
use Rattle.kind_bodies.proofs.Rules.{rule_of_kind, rule_of_kinds}

judge_minus : (scope : Scope) (a : Written) → judge scope (e.Minus a) ≡ judge_step scope (Expression-F.Minus (judge scope a))
judge_minus scope a = ap (λ x. judge scope x) (sym (e.rolls-Minus a)) ∙ fold-roll-Expression Judged (judge_step scope) (Expression-F.Minus a)

judge_not : (scope : Scope) (a : Written) → judge scope (e.Not a) ≡ judge_step scope (Expression-F.Not (judge scope a))
judge_not scope a = ap (λ x. judge scope x) (sym (e.rolls-Not a)) ∙ fold-roll-Expression Judged (judge_step scope) (Expression-F.Not a)

judge_binary : (scope : Scope) (op : Operator) (a b : Written) → judge scope (e.Binary op a b) ≡ judge_step scope (Expression-F.Binary op (judge scope a) (judge scope b))
judge_binary scope op a b = ap (λ x. judge scope x) (sym (e.rolls-Binary op a b)) ∙ fold-roll-Expression Judged (judge_step scope) (Expression-F.Binary op a b)

pub judged_number : (scope : Scope) (n : ℕ) → judged scope (e.Number n) ≡ told (fine kind.Int (typed.Int (pos n)))
unfolding judged
judged_number scope n = ap told (ap (λ x. judge scope x) (sym (e.rolls-Number n)) ∙ fold-roll-Expression Judged (judge_step scope) (Expression-F.Number n))

pub judged_text : (scope : Scope) (bytes : List ℕ) → judged scope (e.Text bytes) ≡ told (fine kind.Text (typed.Text bytes))
unfolding judged
judged_text scope bytes = ap told (ap (λ x. judge scope x) (sym (e.rolls-Text bytes)) ∙ fold-roll-Expression Judged (judge_step scope) (Expression-F.Text bytes))

pub judged_truth : (scope : Scope) (b : Bool) → judged scope (e.Truth b) ≡ told (fine kind.Truth (typed.Truth b))
unfolding judged
judged_truth scope b = ap told (ap (λ x. judge scope x) (sym (e.rolls-Truth b)) ∙ fold-roll-Expression Judged (judge_step scope) (Expression-F.Truth b))

pub judged_alive : (scope : Scope) (x : List ℕ) → judged scope (e.Alive x) ≡ told (alive scope (slot_of scope.visible x))
unfolding judged
judged_alive scope x = ap told (ap (λ x. judge scope x) (sym (e.rolls-Alive x)) ∙ fold-roll-Expression Judged (judge_step scope) (Expression-F.Alive x))

pub judged_minus : (scope : Scope) (a : Written) → judged scope (e.Minus a) ≡ minus_found (judged scope a)
unfolding judged
judged_minus scope a = ap told (judge_minus scope a)
    ∙ ap (λ (r : Option ℕ). record { rule = r; kind = kind.Int; typed = typed.Minus (judge scope a).typed }) (rule_of_kind (same_kind kind.Int) 7 (judge scope a))

pub judged_not : (scope : Scope) (a : Written) → judged scope (e.Not a) ≡ not_found (judged scope a)
unfolding judged
judged_not scope a = ap told (judge_not scope a)
    ∙ ap (λ (r : Option ℕ). record { rule = r; kind = kind.Truth; typed = typed.Not (judge scope a).typed }) (rule_of_kind (same_kind kind.Truth) 7 (judge scope a))

pub judged_binary : (scope : Scope) (op : Operator) (a b : Written) → judged scope (e.Binary op a b) ≡ binary_found op (judged scope a) (judged scope b)
unfolding judged
judged_binary scope op a b = ap told (judge_binary scope op a b)
    ∙ ap (λ (r : Option ℕ). record (binary_found op (told (judge scope a)) (told (judge scope b))) { rule = r }) (rule_of_kinds (fits op) 7 (judge scope a) (judge scope b))

-- an operator with its operands, as the code comes to it
pub both_at : (scope : Scope) (op : Operator) (source a b x y : Written) (left right : Found) (result : Result Found Memory) → source ≡ e.Binary op a b → x ≡ a → y ≡ b
    → left ≡ judged scope x → right ≡ judged scope y → IfOk result (λ found. found ≡ binary_found op left right) → IfOk result (λ found. found ≡ judged scope source)
both_at scope op source a b x y left right result is xa yb l r h =
    IfOk-weaker result (λ found. found ≡ binary_found op left right) (λ found. found ≡ judged scope source)
    (λ found same. same ∙ ap (λ f. binary_found op f right) (l ∙ ap (judged scope) xa) ∙ ap (binary_found op (judged scope a)) (r ∙ ap (judged scope) yb) ∙ sym (ap (judged scope) is ∙ judged_binary scope op a b)) h

-- each form of expression
pub ruleset expressions = (judged_number, judged_text, judged_truth, judged_alive, judged_name, judged_field, judged_entry, judged_minus, judged_not, judged_binary)
