-- The equations of codes, one for each variant.
use Rattle.std.proofs.Common.{◌≡◌, ap, sym, ◌∙◌}
use Rattle.std.specs.Prelude.{ℕ, ℤ, Bool, List, map, None, Some}
use Rattle.cloud_base.specs.declared.schema.Schema.{Schema}
use Rattle.typed_program.specs.declared.expression.Kind.{Kind}
use Rattle.typed_program.specs.declared.expression.Operator.{Operator}
use Rattle.typed_program.specs.declared.expression.Expression.{Expression}
use Rattle.typed_program.specs.declared.expression.Expression.TheVariants as e
use Rattle.typed_program.specs.declared.expression.Expression.TheOpen.{Expression-F}
use Rattle.typed_program.specs.declared.expression.Expression.TheFolds.{fold-roll-Expression}
use Rattle.typed_program.specs.declared.statement.Operation.{Operation}
use Rattle.typed_program.specs.declared.statement.Statement.{Statement}
use Rattle.typed_program.specs.declared.statement.Statement.TheVariants as s
use Rattle.typed_program.specs.declared.statement.Statement.TheOpen.{Statement-F}
use Rattle.typed_program.specs.declared.statement.Statement.TheFolds.{fold-roll-Statement}
use Rattle.code_gen.specs.Compile.{Part, expression_code, expression_step, statement_code, statement_step}

pub code_int : (line : ℕ) (n : ℤ) (at : ℕ) → expression_code line (e.Int n) at ≡ expression_step line (Expression-F.Int n) at
code_int line n at = ap (λ x. expression_code line x at) (sym (e.rolls-Int n)) ∙ ap (λ f. f at) (fold-roll-Expression Part (expression_step line) (Expression-F.Int n))

pub code_text : (line : ℕ) (bytes : List ℕ) (at : ℕ) → expression_code line (e.Text bytes) at ≡ expression_step line (Expression-F.Text bytes) at
code_text line bytes at = ap (λ x. expression_code line x at) (sym (e.rolls-Text bytes)) ∙ ap (λ f. f at) (fold-roll-Expression Part (expression_step line) (Expression-F.Text bytes))

pub code_truth : (line : ℕ) (b : Bool) (at : ℕ) → expression_code line (e.Truth b) at ≡ expression_step line (Expression-F.Truth b) at
code_truth line b at = ap (λ x. expression_code line x at) (sym (e.rolls-Truth b)) ∙ ap (λ f. f at) (fold-roll-Expression Part (expression_step line) (Expression-F.Truth b))

pub code_slot : (line : ℕ) (n : ℕ) (kind : Kind) (at : ℕ) → expression_code line (e.Slot n kind) at ≡ expression_step line (Expression-F.Slot n kind) at
code_slot line n kind at = ap (λ x. expression_code line x at) (sym (e.rolls-Slot n kind)) ∙ ap (λ f. f at) (fold-roll-Expression Part (expression_step line) (Expression-F.Slot n kind))

pub code_get : (line : ℕ) (p : ℕ) (keys : List Expression) (at : ℕ) → expression_code line (e.Get p keys) at ≡ expression_step line (Expression-F.Get p (map (expression_code line) keys)) at
code_get line p keys at = ap (λ x. expression_code line x at) (sym (e.rolls-Get p keys)) ∙ ap (λ f. f at) (fold-roll-Expression Part (expression_step line) (Expression-F.Get p keys))

pub code_alive : (line : ℕ) (n entity : ℕ) (at : ℕ) → expression_code line (e.Alive n entity) at ≡ expression_step line (Expression-F.Alive n entity) at
code_alive line n entity at = ap (λ x. expression_code line x at) (sym (e.rolls-Alive n entity)) ∙ ap (λ f. f at) (fold-roll-Expression Part (expression_step line) (Expression-F.Alive n entity))

pub code_minus : (line : ℕ) (a : Expression) (at : ℕ) → expression_code line (e.Minus a) at ≡ expression_step line (Expression-F.Minus (expression_code line a)) at
code_minus line a at = ap (λ x. expression_code line x at) (sym (e.rolls-Minus a)) ∙ ap (λ f. f at) (fold-roll-Expression Part (expression_step line) (Expression-F.Minus a))

pub code_not : (line : ℕ) (a : Expression) (at : ℕ) → expression_code line (e.Not a) at ≡ expression_step line (Expression-F.Not (expression_code line a)) at
code_not line a at = ap (λ x. expression_code line x at) (sym (e.rolls-Not a)) ∙ ap (λ f. f at) (fold-roll-Expression Part (expression_step line) (Expression-F.Not a))

pub code_binary : (line : ℕ) (operator : Operator) (a b : Expression) (at : ℕ) → expression_code line (e.Binary operator a b) at ≡ expression_step line (Expression-F.Binary operator (expression_code line a) (expression_code line b)) at
code_binary line operator a b at = ap (λ x. expression_code line x at) (sym (e.rolls-Binary operator a b)) ∙ ap (λ f. f at) (fold-roll-Expression Part (expression_step line) (Expression-F.Binary operator a b))

pub code_and : (line : ℕ) (a b : Expression) (at : ℕ) → expression_code line (e.And a b) at ≡ expression_step line (Expression-F.And (expression_code line a) (expression_code line b)) at
code_and line a b at = ap (λ x. expression_code line x at) (sym (e.rolls-And a b)) ∙ ap (λ f. f at) (fold-roll-Expression Part (expression_step line) (Expression-F.And a b))

pub code_or : (line : ℕ) (a b : Expression) (at : ℕ) → expression_code line (e.Or a b) at ≡ expression_step line (Expression-F.Or (expression_code line a) (expression_code line b)) at
code_or line a b at = ap (λ x. expression_code line x at) (sym (e.rolls-Or a b)) ∙ ap (λ f. f at) (fold-roll-Expression Part (expression_step line) (Expression-F.Or a b))

pub code_store : (schema : Schema) (line n : ℕ) (a : Expression) (at : ℕ) → statement_code schema (s.Store line n a) at ≡ statement_step schema (Statement-F.Store line n a) at
code_store schema line n a at = ap (λ x. statement_code schema x at) (sym (s.rolls-Store line n a)) ∙ ap (λ f. f at) (fold-roll-Statement Part (statement_step schema) (Statement-F.Store line n a))

pub code_create : (schema : Schema) (line n entity : ℕ) (keys : List Expression) (at : ℕ) → statement_code schema (s.Create line n entity keys) at ≡ statement_step schema (Statement-F.Create line n entity keys) at
code_create schema line n entity keys at = ap (λ x. statement_code schema x at) (sym (s.rolls-Create line n entity keys)) ∙ ap (λ f. f at) (fold-roll-Statement Part (statement_step schema) (Statement-F.Create line n entity keys))

pub code_update : (schema : Schema) (line property : ℕ) (keys : List Expression) (operation : Operation) (a : Expression) (at : ℕ) → statement_code schema (s.Update line property keys operation a) at ≡ statement_step schema (Statement-F.Update line property keys operation a) at
code_update schema line property keys operation a at = ap (λ x. statement_code schema x at) (sym (s.rolls-Update line property keys operation a)) ∙ ap (λ f. f at) (fold-roll-Statement Part (statement_step schema) (Statement-F.Update line property keys operation a))

pub code_delete : (schema : Schema) (line n entity : ℕ) (at : ℕ) → statement_code schema (s.Delete line n entity) at ≡ statement_step schema (Statement-F.Delete line n entity) at
code_delete schema line n entity at = ap (λ x. statement_code schema x at) (sym (s.rolls-Delete line n entity)) ∙ ap (λ f. f at) (fold-roll-Statement Part (statement_step schema) (Statement-F.Delete line n entity))

pub code_if_only : (schema : Schema) (line : ℕ) (a : Expression) (first : List Statement) (at : ℕ) → statement_code schema (s.If line a first None) at ≡ statement_step schema (Statement-F.If line a (map (statement_code schema) first) None) at
code_if_only schema line a first at = ap (λ x. statement_code schema x at) (sym (s.rolls-If line a first None)) ∙ ap (λ f. f at) (fold-roll-Statement Part (statement_step schema) (Statement-F.If line a first None))

pub code_if_else : (schema : Schema) (line : ℕ) (a : Expression) (first second : List Statement) (at : ℕ) → statement_code schema (s.If line a first (Some second)) at ≡ statement_step schema (Statement-F.If line a (map (statement_code schema) first) (Some (map (statement_code schema) second))) at
code_if_else schema line a first second at = ap (λ x. statement_code schema x at) (sym (s.rolls-If line a first (Some second))) ∙ ap (λ f. f at) (fold-roll-Statement Part (statement_step schema) (Statement-F.If line a first (Some second)))

pub code_while : (schema : Schema) (line : ℕ) (a : Expression) (block : List Statement) (at : ℕ) → statement_code schema (s.While line a block) at ≡ statement_step schema (Statement-F.While line a (map (statement_code schema) block)) at
code_while schema line a block at = ap (λ x. statement_code schema x at) (sym (s.rolls-While line a block)) ∙ ap (λ f. f at) (fold-roll-Statement Part (statement_step schema) (Statement-F.While line a block))

pub code_for_all : (schema : Schema) (line n entity : ℕ) (block : List Statement) (at : ℕ) → statement_code schema (s.ForAll line n entity block) at ≡ statement_step schema (Statement-F.ForAll line n entity (map (statement_code schema) block)) at
code_for_all schema line n entity block at = ap (λ x. statement_code schema x at) (sym (s.rolls-ForAll line n entity block)) ∙ ap (λ f. f at) (fold-roll-Statement Part (statement_step schema) (Statement-F.ForAll line n entity block))

pub code_for_entries : (schema : Schema) (line n property : ℕ) (block : List Statement) (at : ℕ) → statement_code schema (s.ForEntries line n property block) at ≡ statement_step schema (Statement-F.ForEntries line n property (map (statement_code schema) block)) at
code_for_entries schema line n property block at = ap (λ x. statement_code schema x at) (sym (s.rolls-ForEntries line n property block)) ∙ ap (λ f. f at) (fold-roll-Statement Part (statement_step schema) (Statement-F.ForEntries line n property block))

pub code_print : (schema : Schema) (line : ℕ) (a : Expression) (at : ℕ) → statement_code schema (s.Print line a) at ≡ statement_step schema (Statement-F.Print line a) at
code_print schema line a at = ap (λ x. statement_code schema x at) (sym (s.rolls-Print line a)) ∙ ap (λ f. f at) (fold-roll-Statement Part (statement_step schema) (Statement-F.Print line a))

pub code_yield : (schema : Schema) (line : ℕ) (at : ℕ) → statement_code schema (s.Yield line) at ≡ statement_step schema (Statement-F.Yield line) at
code_yield schema line at = ap (λ x. statement_code schema x at) (sym (s.rolls-Yield line)) ∙ ap (λ f. f at) (fold-roll-Statement Part (statement_step schema) (Statement-F.Yield line))

pub code_flush : (schema : Schema) (line : ℕ) (at : ℕ) → statement_code schema (s.Flush line) at ≡ statement_step schema (Statement-F.Flush line) at
code_flush schema line at = ap (λ x. statement_code schema x at) (sym (s.rolls-Flush line)) ∙ ap (λ f. f at) (fold-roll-Statement Part (statement_step schema) (Statement-F.Flush line))

pub ruleset equations = (code_int, code_text, code_truth, code_slot, code_get, code_alive, code_minus, code_not, code_binary, code_and, code_or, code_store, code_create, code_update, code_delete, code_if_only, code_if_else, code_while, code_for_all, code_for_entries, code_print, code_yield, code_flush)
