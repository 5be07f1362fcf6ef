-- What comes of each form of expression and of statement.
use Rattle.std.proofs.Common.{◌≡◌, ap, sym, ◌∙◌}
use Rattle.std.specs.Prelude.{ℕ, Bool, List, map, Some, None, pos}
use Rattle.source_tree.specs.declared.expression.Expression.{Expression as Written}
use Rattle.source_tree.specs.declared.expression.Expression.TheFolds.{fold-roll-Expression}
use Rattle.source_tree.specs.declared.expression.Expression.TheOpen.{Expression-F}
use Rattle.source_tree.specs.declared.expression.Expression.TheVariants as written
use Rattle.source_tree.specs.declared.expression.Operator.{Operator}
use Rattle.source_tree.specs.declared.expression.Place.{Place}
use Rattle.source_tree.specs.declared.expression.Place.TheVariants as place
use Rattle.source_tree.specs.declared.statement.Operation.{Operation}
use Rattle.source_tree.specs.declared.statement.Statement.{Statement as Written_statement}
use Rattle.source_tree.specs.declared.statement.Statement.TheFolds.{fold-roll-Statement}
use Rattle.source_tree.specs.declared.statement.Statement.TheOpen.{Statement-F}
use Rattle.source_tree.specs.declared.statement.Statement.TheVariants as statement
use Rattle.typed_program.specs.declared.expression.Expression.TheVariants as e
use Rattle.typed_program.specs.declared.expression.Kind.TheVariants.{Int, Text, Truth}
use Rattle.kind_rules.specs.Expressions.{Judged, fine, read_place, alive, judge_step, judge, judge_place}
use Rattle.kind_rules.specs.Names.{Variable, Scope, slot_of}
use Rattle.kind_rules.specs.Statements.{Settles, settle_step, settle}

pub judge_number : (scope : Scope) (n : ℕ) → judge scope (written.Number n) ≡ fine Int (e.Int (pos n))
judge_number scope n = ap (judge scope) (sym (written.rolls-Number n)) ∙ fold-roll-Expression Judged (judge_step scope) (Expression-F.Number n)

pub judge_text : (scope : Scope) (bytes : List ℕ) → judge scope (written.Text bytes) ≡ fine Text (e.Text bytes)
judge_text scope bytes = ap (judge scope) (sym (written.rolls-Text bytes)) ∙ fold-roll-Expression Judged (judge_step scope) (Expression-F.Text bytes)

pub judge_truth : (scope : Scope) (b : Bool) → judge scope (written.Truth b) ≡ fine Truth (e.Truth b)
judge_truth scope b = ap (judge scope) (sym (written.rolls-Truth b)) ∙ fold-roll-Expression Judged (judge_step scope) (Expression-F.Truth b)

pub judge_alive : (scope : Scope) (x : List ℕ) → judge scope (written.Alive x) ≡ alive scope (slot_of scope.visible x)
judge_alive scope x = ap (judge scope) (sym (written.rolls-Alive x)) ∙ fold-roll-Expression Judged (judge_step scope) (Expression-F.Alive x)

pub judge_minus : (scope : Scope) (a : Written) → judge scope (written.Minus a) ≡ judge_step scope (Expression-F.Minus (judge scope a))
judge_minus scope a = ap (judge scope) (sym (written.rolls-Minus a)) ∙ fold-roll-Expression Judged (judge_step scope) (Expression-F.Minus a)

pub judge_not : (scope : Scope) (a : Written) → judge scope (written.Not a) ≡ judge_step scope (Expression-F.Not (judge scope a))
judge_not scope a = ap (judge scope) (sym (written.rolls-Not a)) ∙ fold-roll-Expression Judged (judge_step scope) (Expression-F.Not a)

pub judge_binary : (scope : Scope) (operator : Operator) (a b : Written) → judge scope (written.Binary operator a b) ≡ judge_step scope (Expression-F.Binary operator (judge scope a) (judge scope b))
judge_binary scope operator a b = ap (judge scope) (sym (written.rolls-Binary operator a b)) ∙ fold-roll-Expression Judged (judge_step scope) (Expression-F.Binary operator a b)

pub judge_at : (scope : Scope) (p : Place Written) → judge scope (written.Place p) ≡ read_place scope (judge_place scope p)
judge_at scope (place.Name x) = ap (judge scope) (sym (written.rolls-Place (place.Name x))) ∙ fold-roll-Expression Judged (judge_step scope) (Expression-F.Place (place.Name x))
judge_at scope (place.Field x p) = ap (judge scope) (sym (written.rolls-Place (place.Field x p))) ∙ fold-roll-Expression Judged (judge_step scope) (Expression-F.Place (place.Field x p))
judge_at scope (place.Entry a keys p) = ap (judge scope) (sym (written.rolls-Place (place.Entry a keys p))) ∙ fold-roll-Expression Judged (judge_step scope) (Expression-F.Place (place.Entry a keys p))

pub settle_definition : (scope : Scope) (x : List ℕ) (a : Written) (visible : List Variable) (lines : List ℕ) → settle scope (statement.Define x a) visible lines ≡ settle_step scope (Statement-F.Define x a) visible lines
settle_definition scope x a visible lines = ap (λ settles. settles visible lines) (ap (settle scope) (sym (statement.rolls-Define x a)) ∙ fold-roll-Statement Settles (settle_step scope) (Statement-F.Define x a))

pub settle_creation : (scope : Scope) (x n : List ℕ) (keys : List Written) (visible : List Variable) (lines : List ℕ) → settle scope (statement.Create x n keys) visible lines ≡ settle_step scope (Statement-F.Create x n keys) visible lines
settle_creation scope x n keys visible lines = ap (λ settles. settles visible lines) (ap (settle scope) (sym (statement.rolls-Create x n keys)) ∙ fold-roll-Statement Settles (settle_step scope) (Statement-F.Create x n keys))

pub settle_assignment : (scope : Scope) (x : List ℕ) (a : Written) (visible : List Variable) (lines : List ℕ) → settle scope (statement.Assign x a) visible lines ≡ settle_step scope (Statement-F.Assign x a) visible lines
settle_assignment scope x a visible lines = ap (λ settles. settles visible lines) (ap (settle scope) (sym (statement.rolls-Assign x a)) ∙ fold-roll-Statement Settles (settle_step scope) (Statement-F.Assign x a))

pub settle_update : (scope : Scope) (p : Place Written) (op : Operation) (a : Written) (visible : List Variable) (lines : List ℕ) → settle scope (statement.Update p op a) visible lines ≡ settle_step scope (Statement-F.Update p op a) visible lines
settle_update scope p op a visible lines = ap (λ settles. settles visible lines) (ap (settle scope) (sym (statement.rolls-Update p op a)) ∙ fold-roll-Statement Settles (settle_step scope) (Statement-F.Update p op a))

pub settle_deletion : (scope : Scope) (x : List ℕ) (visible : List Variable) (lines : List ℕ) → settle scope (statement.Delete x) visible lines ≡ settle_step scope (Statement-F.Delete x) visible lines
settle_deletion scope x visible lines = ap (λ settles. settles visible lines) (ap (settle scope) (sym (statement.rolls-Delete x)) ∙ fold-roll-Statement Settles (settle_step scope) (Statement-F.Delete x))

pub settle_if_only : (scope : Scope) (a : Written) (first : List Written_statement) (visible : List Variable) (lines : List ℕ) → settle scope (statement.If a first None) visible lines ≡ settle_step scope (Statement-F.If a (map (settle scope) first) None) visible lines
settle_if_only scope a first visible lines = ap (λ settles. settles visible lines) (ap (settle scope) (sym (statement.rolls-If a first None)) ∙ fold-roll-Statement Settles (settle_step scope) (Statement-F.If a first None))

pub settle_if_else : (scope : Scope) (a : Written) (first second : List Written_statement) (visible : List Variable) (lines : List ℕ) → settle scope (statement.If a first (Some second)) visible lines ≡ settle_step scope (Statement-F.If a (map (settle scope) first) (Some (map (settle scope) second))) visible lines
settle_if_else scope a first second visible lines = ap (λ settles. settles visible lines) (ap (settle scope) (sym (statement.rolls-If a first (Some second))) ∙ fold-roll-Statement Settles (settle_step scope) (Statement-F.If a first (Some second)))

pub settle_while : (scope : Scope) (a : Written) (body : List Written_statement) (visible : List Variable) (lines : List ℕ) → settle scope (statement.While a body) visible lines ≡ settle_step scope (Statement-F.While a (map (settle scope) body)) visible lines
settle_while scope a body visible lines = ap (λ settles. settles visible lines) (ap (settle scope) (sym (statement.rolls-While a body)) ∙ fold-roll-Statement Settles (settle_step scope) (Statement-F.While a body))

pub settle_for_all : (scope : Scope) (x n : List ℕ) (body : List Written_statement) (visible : List Variable) (lines : List ℕ) → settle scope (statement.ForAll x n body) visible lines ≡ settle_step scope (Statement-F.ForAll x n (map (settle scope) body)) visible lines
settle_for_all scope x n body visible lines = ap (λ settles. settles visible lines) (ap (settle scope) (sym (statement.rolls-ForAll x n body)) ∙ fold-roll-Statement Settles (settle_step scope) (Statement-F.ForAll x n body))

pub settle_for_entries : (scope : Scope) (xs : List (List ℕ)) (n p : List ℕ) (body : List Written_statement) (visible : List Variable) (lines : List ℕ) → settle scope (statement.ForEntries xs n p body) visible lines ≡ settle_step scope (Statement-F.ForEntries xs n p (map (settle scope) body)) visible lines
settle_for_entries scope xs n p body visible lines = ap (λ settles. settles visible lines) (ap (settle scope) (sym (statement.rolls-ForEntries xs n p body)) ∙ fold-roll-Statement Settles (settle_step scope) (Statement-F.ForEntries xs n p body))

pub settle_print : (scope : Scope) (a : Written) (visible : List Variable) (lines : List ℕ) → settle scope (statement.Print a) visible lines ≡ settle_step scope (Statement-F.Print a) visible lines
settle_print scope a visible lines = ap (λ settles. settles visible lines) (ap (settle scope) (sym (statement.rolls-Print a)) ∙ fold-roll-Statement Settles (settle_step scope) (Statement-F.Print a))

pub settle_yield : (scope : Scope) (visible : List Variable) (lines : List ℕ) → settle scope statement.Yield visible lines ≡ settle_step scope Statement-F.Yield visible lines
settle_yield scope visible lines = ap (λ settles. settles visible lines) (ap (settle scope) (sym statement.rolls-Yield) ∙ fold-roll-Statement Settles (settle_step scope) Statement-F.Yield)

pub settle_flush : (scope : Scope) (visible : List Variable) (lines : List ℕ) → settle scope statement.Flush visible lines ≡ settle_step scope Statement-F.Flush visible lines
settle_flush scope visible lines = ap (λ settles. settles visible lines) (ap (settle scope) (sym statement.rolls-Flush) ∙ fold-roll-Statement Settles (settle_step scope) Statement-F.Flush)
