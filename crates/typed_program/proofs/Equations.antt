-- The equations of values and statements, one for each variant.
use Rattle.std.proofs.Common.{◌≡◌, ap, sym, ◌∙◌}
use Rattle.std.specs.Prelude.{ℕ, ℤ, Bool, List, map, None, Some}
use Rattle.cloud_base.specs.declared.update.Answer.{Answer}
use Rattle.typed_program.specs.declared.expression.Kind.{Kind}
use Rattle.typed_program.specs.declared.expression.Operator.{Operator}
use Rattle.typed_program.specs.declared.expression.Expression.{Expression}
use Rattle.typed_program.specs.declared.expression.Expression.TheVariants as e
use Rattle.typed_program.specs.declared.expression.Expression.TheOpen.{Expression-F}
use Rattle.typed_program.specs.declared.expression.Expression.TheFolds.{fold-roll-Expression}
use Rattle.typed_program.specs.declared.statement.Operation.{Operation}
use Rattle.typed_program.specs.declared.statement.Statement.{Statement}
use Rattle.typed_program.specs.declared.statement.Statement.TheVariants as s
use Rattle.typed_program.specs.declared.statement.Statement.TheOpen.{Statement-F}
use Rattle.typed_program.specs.declared.statement.Statement.TheFolds.{fold-roll-Statement}
use Rattle.typed_program.specs.Does.{World, Does}
use Rattle.typed_program.specs.Trace.{value, value_step, does, statement_step}

pub value_int : (line : ℕ) (n : ℤ) → value line (e.Int n) ≡ value_step line (Expression-F.Int n)
value_int line n = ap (value line) (sym (e.rolls-Int n)) ∙ fold-roll-Expression (Does Answer) (value_step line) (Expression-F.Int n)

pub value_text : (line : ℕ) (bytes : List ℕ) → value line (e.Text bytes) ≡ value_step line (Expression-F.Text bytes)
value_text line bytes = ap (value line) (sym (e.rolls-Text bytes)) ∙ fold-roll-Expression (Does Answer) (value_step line) (Expression-F.Text bytes)

pub value_truth : (line : ℕ) (b : Bool) → value line (e.Truth b) ≡ value_step line (Expression-F.Truth b)
value_truth line b = ap (value line) (sym (e.rolls-Truth b)) ∙ fold-roll-Expression (Does Answer) (value_step line) (Expression-F.Truth b)

pub value_slot : (line n : ℕ) (kind : Kind) → value line (e.Slot n kind) ≡ value_step line (Expression-F.Slot n kind)
value_slot line n kind = ap (value line) (sym (e.rolls-Slot n kind)) ∙ fold-roll-Expression (Does Answer) (value_step line) (Expression-F.Slot n kind)

pub value_get : (line p : ℕ) (keys : List Expression) → value line (e.Get p keys) ≡ value_step line (Expression-F.Get p (map (value line) keys))
value_get line p keys = ap (value line) (sym (e.rolls-Get p keys)) ∙ fold-roll-Expression (Does Answer) (value_step line) (Expression-F.Get p keys)

pub value_alive : (line n entity : ℕ) → value line (e.Alive n entity) ≡ value_step line (Expression-F.Alive n entity)
value_alive line n entity = ap (value line) (sym (e.rolls-Alive n entity)) ∙ fold-roll-Expression (Does Answer) (value_step line) (Expression-F.Alive n entity)

pub value_minus : (line : ℕ) (a : Expression) → value line (e.Minus a) ≡ value_step line (Expression-F.Minus (value line a))
value_minus line a = ap (value line) (sym (e.rolls-Minus a)) ∙ fold-roll-Expression (Does Answer) (value_step line) (Expression-F.Minus a)

pub value_not : (line : ℕ) (a : Expression) → value line (e.Not a) ≡ value_step line (Expression-F.Not (value line a))
value_not line a = ap (value line) (sym (e.rolls-Not a)) ∙ fold-roll-Expression (Does Answer) (value_step line) (Expression-F.Not a)

pub value_binary : (line : ℕ) (operator : Operator) (a b : Expression) → value line (e.Binary operator a b) ≡ value_step line (Expression-F.Binary operator (value line a) (value line b))
value_binary line operator a b = ap (value line) (sym (e.rolls-Binary operator a b)) ∙ fold-roll-Expression (Does Answer) (value_step line) (Expression-F.Binary operator a b)

pub value_and : (line : ℕ) (a b : Expression) → value line (e.And a b) ≡ value_step line (Expression-F.And (value line a) (value line b))
value_and line a b = ap (value line) (sym (e.rolls-And a b)) ∙ fold-roll-Expression (Does Answer) (value_step line) (Expression-F.And a b)

pub value_or : (line : ℕ) (a b : Expression) → value line (e.Or a b) ≡ value_step line (Expression-F.Or (value line a) (value line b))
value_or line a b = ap (value line) (sym (e.rolls-Or a b)) ∙ fold-roll-Expression (Does Answer) (value_step line) (Expression-F.Or a b)

pub does_store : (line n : ℕ) (a : Expression) → does (s.Store line n a) ≡ statement_step (Statement-F.Store line n a)
does_store line n a = ap does (sym (s.rolls-Store line n a)) ∙ fold-roll-Statement (Does (Unit {0})) statement_step (Statement-F.Store line n a)

pub does_create : (line n entity : ℕ) (keys : List Expression) → does (s.Create line n entity keys) ≡ statement_step (Statement-F.Create line n entity keys)
does_create line n entity keys = ap does (sym (s.rolls-Create line n entity keys)) ∙ fold-roll-Statement (Does (Unit {0})) statement_step (Statement-F.Create line n entity keys)

pub does_update : (line property : ℕ) (keys : List Expression) (operator : Operation) (a : Expression) → does (s.Update line property keys operator a) ≡ statement_step (Statement-F.Update line property keys operator a)
does_update line property keys operator a = ap does (sym (s.rolls-Update line property keys operator a)) ∙ fold-roll-Statement (Does (Unit {0})) statement_step (Statement-F.Update line property keys operator a)

pub does_delete : (line n entity : ℕ) → does (s.Delete line n entity) ≡ statement_step (Statement-F.Delete line n entity)
does_delete line n entity = ap does (sym (s.rolls-Delete line n entity)) ∙ fold-roll-Statement (Does (Unit {0})) statement_step (Statement-F.Delete line n entity)

pub does_if_only : (line : ℕ) (a : Expression) (first : List Statement) → does (s.If line a first None) ≡ statement_step (Statement-F.If line a (map does first) None)
does_if_only line a first = ap does (sym (s.rolls-If line a first None)) ∙ fold-roll-Statement (Does (Unit {0})) statement_step (Statement-F.If line a first None)

pub does_if_else : (line : ℕ) (a : Expression) (first second : List Statement) → does (s.If line a first (Some second)) ≡ statement_step (Statement-F.If line a (map does first) (Some (map does second)))
does_if_else line a first second = ap does (sym (s.rolls-If line a first (Some second))) ∙ fold-roll-Statement (Does (Unit {0})) statement_step (Statement-F.If line a first (Some second))

pub does_while : (line : ℕ) (a : Expression) (block : List Statement) → does (s.While line a block) ≡ statement_step (Statement-F.While line a (map does block))
does_while line a block = ap does (sym (s.rolls-While line a block)) ∙ fold-roll-Statement (Does (Unit {0})) statement_step (Statement-F.While line a block)

pub does_for_all : (line n entity : ℕ) (block : List Statement) → does (s.ForAll line n entity block) ≡ statement_step (Statement-F.ForAll line n entity (map does block))
does_for_all line n entity block = ap does (sym (s.rolls-ForAll line n entity block)) ∙ fold-roll-Statement (Does (Unit {0})) statement_step (Statement-F.ForAll line n entity block)

pub does_for_entries : (line n property : ℕ) (block : List Statement) → does (s.ForEntries line n property block) ≡ statement_step (Statement-F.ForEntries line n property (map does block))
does_for_entries line n property block = ap does (sym (s.rolls-ForEntries line n property block)) ∙ fold-roll-Statement (Does (Unit {0})) statement_step (Statement-F.ForEntries line n property block)

pub does_print : (line : ℕ) (a : Expression) → does (s.Print line a) ≡ statement_step (Statement-F.Print line a)
does_print line a = ap does (sym (s.rolls-Print line a)) ∙ fold-roll-Statement (Does (Unit {0})) statement_step (Statement-F.Print line a)

pub does_yield : (line : ℕ) → does (s.Yield line) ≡ statement_step (Statement-F.Yield line)
does_yield line = ap does (sym (s.rolls-Yield line)) ∙ fold-roll-Statement (Does (Unit {0})) statement_step (Statement-F.Yield line)

pub does_flush : (line : ℕ) → does (s.Flush line) ≡ statement_step (Statement-F.Flush line)
does_flush line = ap does (sym (s.rolls-Flush line)) ∙ fold-roll-Statement (Does (Unit {0})) statement_step (Statement-F.Flush line)

-- the same where a world is given, so that runs compute by `simp equations`
pub value_int_at : (line : ℕ) (n : ℤ) (w : World) → value line (e.Int n) w ≡ value_step line (Expression-F.Int n) w
value_int_at line n w = ap (λ m. m w) (value_int line n)

pub value_text_at : (line : ℕ) (bytes : List ℕ) (w : World) → value line (e.Text bytes) w ≡ value_step line (Expression-F.Text bytes) w
value_text_at line bytes w = ap (λ m. m w) (value_text line bytes)

pub value_truth_at : (line : ℕ) (b : Bool) (w : World) → value line (e.Truth b) w ≡ value_step line (Expression-F.Truth b) w
value_truth_at line b w = ap (λ m. m w) (value_truth line b)

pub value_slot_at : (line n : ℕ) (kind : Kind) (w : World) → value line (e.Slot n kind) w ≡ value_step line (Expression-F.Slot n kind) w
value_slot_at line n kind w = ap (λ m. m w) (value_slot line n kind)

pub value_get_at : (line p : ℕ) (keys : List Expression) (w : World) → value line (e.Get p keys) w ≡ value_step line (Expression-F.Get p (map (value line) keys)) w
value_get_at line p keys w = ap (λ m. m w) (value_get line p keys)

pub value_alive_at : (line n entity : ℕ) (w : World) → value line (e.Alive n entity) w ≡ value_step line (Expression-F.Alive n entity) w
value_alive_at line n entity w = ap (λ m. m w) (value_alive line n entity)

pub value_minus_at : (line : ℕ) (a : Expression) (w : World) → value line (e.Minus a) w ≡ value_step line (Expression-F.Minus (value line a)) w
value_minus_at line a w = ap (λ m. m w) (value_minus line a)

pub value_not_at : (line : ℕ) (a : Expression) (w : World) → value line (e.Not a) w ≡ value_step line (Expression-F.Not (value line a)) w
value_not_at line a w = ap (λ m. m w) (value_not line a)

pub value_binary_at : (line : ℕ) (operator : Operator) (a b : Expression) (w : World) → value line (e.Binary operator a b) w ≡ value_step line (Expression-F.Binary operator (value line a) (value line b)) w
value_binary_at line operator a b w = ap (λ m. m w) (value_binary line operator a b)

pub value_and_at : (line : ℕ) (a b : Expression) (w : World) → value line (e.And a b) w ≡ value_step line (Expression-F.And (value line a) (value line b)) w
value_and_at line a b w = ap (λ m. m w) (value_and line a b)

pub value_or_at : (line : ℕ) (a b : Expression) (w : World) → value line (e.Or a b) w ≡ value_step line (Expression-F.Or (value line a) (value line b)) w
value_or_at line a b w = ap (λ m. m w) (value_or line a b)

pub does_store_at : (line n : ℕ) (a : Expression) (w : World) → does (s.Store line n a) w ≡ statement_step (Statement-F.Store line n a) w
does_store_at line n a w = ap (λ m. m w) (does_store line n a)

pub does_create_at : (line n entity : ℕ) (keys : List Expression) (w : World) → does (s.Create line n entity keys) w ≡ statement_step (Statement-F.Create line n entity keys) w
does_create_at line n entity keys w = ap (λ m. m w) (does_create line n entity keys)

pub does_update_at : (line property : ℕ) (keys : List Expression) (operator : Operation) (a : Expression) (w : World) → does (s.Update line property keys operator a) w ≡ statement_step (Statement-F.Update line property keys operator a) w
does_update_at line property keys operator a w = ap (λ m. m w) (does_update line property keys operator a)

pub does_delete_at : (line n entity : ℕ) (w : World) → does (s.Delete line n entity) w ≡ statement_step (Statement-F.Delete line n entity) w
does_delete_at line n entity w = ap (λ m. m w) (does_delete line n entity)

pub does_if_only_at : (line : ℕ) (a : Expression) (first : List Statement) (w : World) → does (s.If line a first None) w ≡ statement_step (Statement-F.If line a (map does first) None) w
does_if_only_at line a first w = ap (λ m. m w) (does_if_only line a first)

pub does_if_else_at : (line : ℕ) (a : Expression) (first second : List Statement) (w : World) → does (s.If line a first (Some second)) w ≡ statement_step (Statement-F.If line a (map does first) (Some (map does second))) w
does_if_else_at line a first second w = ap (λ m. m w) (does_if_else line a first second)

pub does_while_at : (line : ℕ) (a : Expression) (block : List Statement) (w : World) → does (s.While line a block) w ≡ statement_step (Statement-F.While line a (map does block)) w
does_while_at line a block w = ap (λ m. m w) (does_while line a block)

pub does_for_all_at : (line n entity : ℕ) (block : List Statement) (w : World) → does (s.ForAll line n entity block) w ≡ statement_step (Statement-F.ForAll line n entity (map does block)) w
does_for_all_at line n entity block w = ap (λ m. m w) (does_for_all line n entity block)

pub does_for_entries_at : (line n property : ℕ) (block : List Statement) (w : World) → does (s.ForEntries line n property block) w ≡ statement_step (Statement-F.ForEntries line n property (map does block)) w
does_for_entries_at line n property block w = ap (λ m. m w) (does_for_entries line n property block)

pub does_print_at : (line : ℕ) (a : Expression) (w : World) → does (s.Print line a) w ≡ statement_step (Statement-F.Print line a) w
does_print_at line a w = ap (λ m. m w) (does_print line a)

pub does_yield_at : (line : ℕ) (w : World) → does (s.Yield line) w ≡ statement_step (Statement-F.Yield line) w
does_yield_at line w = ap (λ m. m w) (does_yield line)

pub does_flush_at : (line : ℕ) (w : World) → does (s.Flush line) w ≡ statement_step (Statement-F.Flush line) w
does_flush_at line w = ap (λ m. m w) (does_flush line)

pub ruleset equations = (value_int_at, value_text_at, value_truth_at, value_slot_at, value_get_at, value_alive_at, value_minus_at, value_not_at, value_binary_at, value_and_at, value_or_at, does_store_at, does_create_at, does_update_at, does_delete_at, does_if_only_at, does_if_else_at, does_while_at, does_for_all_at, does_for_entries_at, does_print_at, does_yield_at, does_flush_at)
