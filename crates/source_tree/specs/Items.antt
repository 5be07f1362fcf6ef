-- How many items a program has: its globals, arrays, entities, clients, statements and items of the schedule.
use Rattle.std.proofs.Common.{◌≡◌, sym, ap, ◌∙◌}
use Rattle.std.specs.Prelude.{ℕ, ◌+◌, List, [], ◌∷◌, length, map, Option, Some, None, codes}
use Rattle.source_tree.specs.declared.expression.Expression.{Expression}
use Rattle.source_tree.specs.declared.expression.Place.{Place}
use Rattle.source_tree.specs.declared.statement.Operation.{Operation}
use Rattle.source_tree.specs.declared.statement.Statement.{Statement}
use Rattle.source_tree.specs.declared.statement.Statement.TheFolds.{fold-Statement, fold-roll-Statement}
use Rattle.source_tree.specs.declared.statement.Statement.TheOpen.{Statement-F}
use Rattle.source_tree.specs.declared.statement.Statement.TheVariants as s
use Rattle.source_tree.specs.declared.program.Client.{Client}
use Rattle.source_tree.specs.declared.program.Item.{Item}
use Rattle.source_tree.specs.declared.program.Program.{Program}

abbrev pub total : List ℕ → ℕ
total [] = 0
total (n ∷ ns) = n + total ns

abbrev pub total_of : Option (List ℕ) → ℕ
total_of None = 0
total_of (Some ns) = total ns

-- of a statement, from those of the statements in its blocks
abbrev pub items_step : Statement-F ℕ → ℕ
items_step (Statement-F.Define x a) = 1
items_step (Statement-F.Create x n keys) = 1
items_step (Statement-F.Assign x a) = 1
items_step (Statement-F.Update p op a) = 1
items_step (Statement-F.Delete x) = 1
items_step (Statement-F.If a first second) = 1 + (total first + total_of second)
items_step (Statement-F.While a body) = 1 + total body
items_step (Statement-F.ForAll x n body) = 1 + total body
items_step (Statement-F.ForEntries xs n p body) = 1 + total body
items_step (Statement-F.Print a) = 1
items_step Statement-F.Yield = 1
items_step Statement-F.Flush = 1

abbrev pub statement_items : Statement → ℕ
statement_items = fold-Statement ℕ items_step

abbrev pub body_items : List Statement → ℕ
body_items body = total (map statement_items body)

abbrev pub client_items : Client → ℕ
client_items client = 1 + body_items client.body

abbrev pub schedule_items : Option (List Item) → ℕ
schedule_items None = 0
schedule_items (Some items) = length items

abbrev pub program_items : Program → ℕ
program_items p = length p.declarations + (total (map client_items p.clients) + schedule_items p.schedule)

-- ---- what they are of each form

pub items_define : (x : List ℕ) (a : Expression) → statement_items (s.Define x a) ≡ 1
items_define x a = ap statement_items (sym (s.rolls-Define x a)) ∙ fold-roll-Statement ℕ items_step (Statement-F.Define x a)

pub items_create : (x n : List ℕ) (keys : List Expression) → statement_items (s.Create x n keys) ≡ 1
items_create x n keys = ap statement_items (sym (s.rolls-Create x n keys)) ∙ fold-roll-Statement ℕ items_step (Statement-F.Create x n keys)

pub items_assign : (x : List ℕ) (a : Expression) → statement_items (s.Assign x a) ≡ 1
items_assign x a = ap statement_items (sym (s.rolls-Assign x a)) ∙ fold-roll-Statement ℕ items_step (Statement-F.Assign x a)

pub items_update : (p : Place Expression) (op : Operation) (a : Expression) → statement_items (s.Update p op a) ≡ 1
items_update p op a = ap statement_items (sym (s.rolls-Update p op a)) ∙ fold-roll-Statement ℕ items_step (Statement-F.Update p op a)

pub items_delete : (x : List ℕ) → statement_items (s.Delete x) ≡ 1
items_delete x = ap statement_items (sym (s.rolls-Delete x)) ∙ fold-roll-Statement ℕ items_step (Statement-F.Delete x)

pub items_while : (a : Expression) (body : List Statement) → statement_items (s.While a body) ≡ 1 + body_items body
items_while a body = ap statement_items (sym (s.rolls-While a body)) ∙ fold-roll-Statement ℕ items_step (Statement-F.While a body)

pub items_for_all : (x n : List ℕ) (body : List Statement) → statement_items (s.ForAll x n body) ≡ 1 + body_items body
items_for_all x n body = ap statement_items (sym (s.rolls-ForAll x n body)) ∙ fold-roll-Statement ℕ items_step (Statement-F.ForAll x n body)

pub items_for_entries : (xs : List (List ℕ)) (n p : List ℕ) (body : List Statement) → statement_items (s.ForEntries xs n p body) ≡ 1 + body_items body
items_for_entries xs n p body = ap statement_items (sym (s.rolls-ForEntries xs n p body)) ∙ fold-roll-Statement ℕ items_step (Statement-F.ForEntries xs n p body)

pub items_print : (a : Expression) → statement_items (s.Print a) ≡ 1
items_print a = ap statement_items (sym (s.rolls-Print a)) ∙ fold-roll-Statement ℕ items_step (Statement-F.Print a)

pub items_yield : statement_items s.Yield ≡ 1
items_yield = ap statement_items (sym s.rolls-Yield) ∙ fold-roll-Statement ℕ items_step Statement-F.Yield

pub items_flush : statement_items s.Flush ≡ 1
items_flush = ap statement_items (sym s.rolls-Flush) ∙ fold-roll-Statement ℕ items_step Statement-F.Flush

pub items_if : (a : Expression) (first : List Statement) → statement_items (s.If a first None) ≡ 1 + (body_items first + 0)
items_if a first = ap statement_items (sym (s.rolls-If a first None)) ∙ fold-roll-Statement ℕ items_step (Statement-F.If a first None)

pub items_if_else : (a : Expression) (first second : List Statement) → statement_items (s.If a first (Some second)) ≡ 1 + (body_items first + body_items second)
items_if_else a first second = ap statement_items (sym (s.rolls-If a first (Some second))) ∙ fold-roll-Statement ℕ items_step (Statement-F.If a first (Some second))

-- delete x; yield;
pub example_items : body_items (s.Delete (codes "x") ∷ s.Yield ∷ []) ≡ 2
example_items = ap (λ n. n + (statement_items s.Yield + 0)) (items_delete (codes "x")) ∙ ap (λ n. 1 + (n + 0)) items_yield
