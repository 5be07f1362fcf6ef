-- Worked examples: each rule of kinds, where it fails.
use Rattle.std.proofs.Common.{◌≡◌, refl, ap, ◌∙◌}
use Rattle.std.specs.Prelude.{ℕ, List, [], ◌∷◌, replicate, true, Option, Some, None, codes, pos}
use Rattle.cloud_base.specs.declared.schema.CellType.TheVariants as cell
use Rattle.source_tree.specs.declared.expression.Expression.{Expression}
use Rattle.source_tree.specs.declared.expression.Expression.TheVariants as e
use Rattle.source_tree.specs.declared.expression.Operator.TheVariants as o
use Rattle.source_tree.specs.declared.expression.Place.TheVariants as place
use Rattle.source_tree.specs.declared.program.Declaration.{Declaration}
use Rattle.source_tree.specs.declared.program.Declaration.TheVariants as d
use Rattle.source_tree.specs.declared.program.KeyType.TheVariants as k
use Rattle.source_tree.specs.declared.statement.Operation.TheVariants as operation
use Rattle.source_tree.specs.declared.statement.Statement.{Statement}
use Rattle.source_tree.specs.declared.statement.Statement.TheVariants as s
use Rattle.source_tree.specs.declared.program.Item.{Item}
use Rattle.source_tree.specs.declared.program.Item.TheVariants as i
use Rattle.source_tree.specs.declared.program.Program.{Program}
use Rattle.typed_program.specs.declared.expression.Expression.TheVariants as slot
use Rattle.typed_program.specs.declared.expression.Kind.TheVariants.{Int, Text, Id}
use Rattle.typed_program.specs.declared.statement.Operation.TheVariants as change
use Rattle.typed_program.specs.declared.statement.Statement.TheVariants as typed
use Rattle.kind_rules.specs.Answers.{Fault, first_fault}
use Rattle.kind_rules.specs.Expressions.{Judged, Target, fine, target}
use Rattle.kind_rules.specs.Names.{Variable, Scope}
use Rattle.kind_rules.specs.Programs.{whole_scope, items_of}
use Rattle.kind_rules.specs.Statements.{plain, update_rules, typed_update, first_line, next_lines, Settled, settle, settle_block, settle_define, scope_of, condition_rules, with_block, walk, walk_on, declared, variable}
use Rattle.kind_rules.proofs.Equations.{judge_number, judge_text, judge_truth, judge_at, judge_binary, settle_definition, settle_creation, settle_assignment, settle_update, settle_deletion, settle_while, settle_for_all, settle_for_entries, settle_print}

-- `global g : CInt; global t : CString; array A[k : string] { p : CInt } entity E { n : CInt }`
abbrev shop : List Declaration
shop = d.Global (record { name = codes "g"; cell = cell.Int })
    ∷ d.Global (record { name = codes "t"; cell = cell.Text })
    ∷ d.Array (codes "A") (record { name = codes "k"; of = k.Text } ∷ []) (record { name = codes "p"; cell = cell.Int } ∷ [])
    ∷ d.Entity (codes "E") [] (record { name = codes "n"; cell = cell.Int } ∷ [])
    ∷ []

-- the fault of a body whose statements stand on the lines 1, 2, 3
abbrev fault_of : List Statement → Option Fault
fault_of body = first_fault (settle_block (whole_scope shop) body [] (1 ∷ 2 ∷ 3 ∷ [])).items

abbrev fault : ℕ → ℕ → Option Fault
fault rule line = Some (record { rule = rule; line = line })

-- ---- names

abbrev one : Expression
one = e.Number 1

abbrev name : List ℕ → Expression
name x = e.Place (place.Name x)

-- print x;
pub example_undeclared : fault_of (s.Print (name (codes "x")) ∷ []) ≡ fault 2 1
example_undeclared = simp (settle_print, judge_at)

-- var x = x;
pub example_own_declaration : fault_of (s.Define (codes "x") (name (codes "x")) ∷ []) ≡ fault 2 1
example_own_declaration = simp (settle_definition, judge_at)

abbrev defined : (List Variable) → List ℕ → Settled
defined visible lines = settle_define (scope_of (whole_scope shop) visible) (codes "x") (fine Int (slot.Int (pos 1))) visible lines

-- var x = 1;
define : (visible : List Variable) (lines : List ℕ) → settle (whole_scope shop) (s.Define (codes "x") one) visible lines ≡ defined visible lines
define visible lines = settle_definition (whole_scope shop) (codes "x") one visible lines ∙ ap (λ a. settle_define (scope_of (whole_scope shop) visible) (codes "x") a visible lines) (judge_number (scope_of (whole_scope shop) visible) 1)

-- while true { var x = 1; }
loop : (visible : List Variable) (lines : List ℕ) → settle (whole_scope shop) (s.While (e.Truth true) (s.Define (codes "x") one ∷ [])) visible lines
    ≡ with_block [] (typed.While (first_line lines) (slot.Truth true)) visible lines (walk (defined ∷ []) visible (next_lines lines))
loop visible lines = settle_while (whole_scope shop) (e.Truth true) (s.Define (codes "x") one ∷ []) visible lines
    ∙ ap (λ (a : Judged). with_block (condition_rules a) (typed.While (first_line lines) a.typed) visible lines (walk (settle (whole_scope shop) (s.Define (codes "x") one) ∷ []) visible (next_lines lines))) (judge_truth (scope_of (whole_scope shop) visible) true)
    ∙ ap (λ first. with_block [] (typed.While (first_line lines) (slot.Truth true)) visible lines (walk_on first (walk [] first.visible first.lines))) (define visible (next_lines lines))

-- while true { var x = 1; } print x;
pub example_behind_block : fault_of (s.While (e.Truth true) (s.Define (codes "x") one ∷ []) ∷ s.Print (name (codes "x")) ∷ []) ≡ fault 2 3
example_behind_block = simp (loop, settle_print, judge_at)

-- while true { var x = 1; } var x = 1; print x;
pub example_free_again : fault_of (s.While (e.Truth true) (s.Define (codes "x") one ∷ []) ∷ s.Define (codes "x") one ∷ s.Print (name (codes "x")) ∷ []) ≡ None
example_free_again = simp (loop, settle_definition, settle_print, judge_at, judge_number)

-- var x = 1; var x = 1;
pub example_twice : fault_of (s.Define (codes "x") one ∷ s.Define (codes "x") one ∷ []) ≡ fault 1 2
example_twice = simp (settle_definition, judge_number)

-- foreach g in all E { }
pub example_taken : fault_of (s.ForAll (codes "g") (codes "E") [] ∷ []) ≡ fault 1 1
example_taken = simp settle_for_all

-- foreach k, k in entries A.p { }: of the two rules that fail, the lower one is told
pub example_two_names : fault_of (s.ForEntries (codes "k" ∷ codes "k" ∷ []) (codes "A") (codes "p") [] ∷ []) ≡ fault 1 1
example_two_names = simp settle_for_entries

-- g = 1;
pub example_no_variable : fault_of (s.Assign (codes "g") one ∷ []) ≡ fault 2 1
example_no_variable = simp (settle_assignment, judge_number)

-- ---- kinds

-- print 1 + "a";
pub example_operands : fault_of (s.Print (e.Binary o.Plus one (e.Text (codes "a"))) ∷ []) ≡ fault 7 1
example_operands = simp (settle_print, judge_binary, judge_number, judge_text)

-- print "a" ++ x + 1;: an operator fails only where its operands have kinds
pub example_once : fault_of (s.Print (e.Binary o.Plus (e.Binary o.Concat (e.Text (codes "a")) (name (codes "x"))) one) ∷ []) ≡ fault 2 1
example_once = simp (settle_print, judge_binary, judge_number, judge_text, judge_at)

-- var x = 1; x = "a";
pub example_other_kind : fault_of (s.Define (codes "x") one ∷ s.Assign (codes "x") (e.Text (codes "a")) ∷ []) ≡ fault 8 2
example_other_kind = simp (settle_definition, settle_assignment, judge_number, judge_text)

-- while 1 { }
pub example_condition : fault_of (s.While one [] ∷ []) ≡ fault 9 1
example_condition = simp (settle_while, judge_number)

-- var x = 1; delete x;
pub example_no_id : fault_of (s.Define (codes "x") one ∷ s.Delete (codes "x") ∷ []) ≡ fault 7 2
example_no_id = simp (settle_definition, settle_deletion, judge_number)

-- ---- keys and cells

-- print A["a", "a"].p;
pub example_many_keys : fault_of (s.Print (e.Place (place.Entry (codes "A") (e.Text (codes "a") ∷ e.Text (codes "a") ∷ []) (codes "p"))) ∷ []) ≡ fault 4 1
example_many_keys = simp (settle_print, judge_at, judge_text)

-- print A[1].p;
pub example_key_kind : fault_of (s.Print (e.Place (place.Entry (codes "A") (one ∷ []) (codes "p"))) ∷ []) ≡ fault 5 1
example_key_kind = simp (settle_print, judge_at, judge_number)

-- var x = new E[1];
pub example_new_keys : fault_of (s.Create (codes "x") (codes "E") (one ∷ []) ∷ []) ≡ fault 4 1
example_new_keys = simp (settle_creation, judge_number)

-- foreach k in entries g.p { }
pub example_entries_of_global : fault_of (s.ForEntries (codes "k" ∷ []) (codes "g") (codes "p") [] ∷ []) ≡ fault 10 1
example_entries_of_global = simp settle_for_entries

-- foreach k, l in entries A.p { }
pub example_entries : fault_of (s.ForEntries (codes "k" ∷ codes "l" ∷ []) (codes "A") (codes "p") [] ∷ []) ≡ fault 4 1
example_entries = simp settle_for_entries

-- t.add(1); and t.set(1);
pub example_add : fault_of (s.Update (place.Name (codes "t")) operation.Add one ∷ []) ≡ fault 6 1
example_add = simp (settle_update, judge_number)

pub example_set : fault_of (s.Update (place.Name (codes "t")) operation.Set one ∷ []) ≡ fault 7 1
example_set = simp (settle_update, judge_number)

-- ---- many variables

abbrev many : ℕ → Scope
many n = record { schema = (whole_scope shop).schema; taken = []; visible = replicate n (variable (codes "x") Int) }

-- the 64th variable has room, and the 65th one hasn't
pub example_room : (declared (many 63) (codes "y" ∷ []) ≡ []) × (declared (many 64) (codes "y" ∷ []) ≡ 12 ∷ [])
example_room = (refl, refl)

-- ---- programs

abbrev body : List Statement
body = s.Create (codes "x") (codes "E") [] ∷ s.Update (place.Field (codes "x") (codes "n")) operation.Add (name (codes "g")) ∷ s.ForEntries (codes "k" ∷ []) (codes "A") (codes "p") (s.Print (name (codes "k")) ∷ []) ∷ []

abbrev source : List Declaration → List Item → Program
source ds items = record { declarations = ds; clients = record { name = codes "a"; body = [] } ∷ []; schedule = Some items }

abbrev fault_in : Program → Option Fault
fault_in p = first_fault (items_of p (1 ∷ 2 ∷ 3 ∷ 4 ∷ 5 ∷ 6 ∷ 7 ∷ []))

-- `array B[k : C] { } entity C { }`: the type is declared later
pub example_later : fault_in (source (d.Array (codes "B") (record { name = codes "k"; of = k.Entity (codes "C") } ∷ []) [] ∷ d.Entity (codes "C") [] [] ∷ []) []) ≡ fault 3 1
example_later = refl

pub example_earlier : fault_in (source (d.Entity (codes "C") [] [] ∷ d.Array (codes "B") (record { name = codes "k"; of = k.Entity (codes "C") } ∷ []) [] ∷ []) []) ≡ None
example_earlier = refl

-- a property with the name of a key, and an entity with the name of a global
pub example_own_name : fault_in (source (d.Array (codes "B") (record { name = codes "k"; of = k.Int } ∷ []) (record { name = codes "k"; cell = cell.Int } ∷ []) ∷ []) []) ≡ fault 1 1
example_own_name = refl

pub example_declared : fault_in (source (d.Global (record { name = codes "g"; cell = cell.Int }) ∷ d.Entity (codes "g") [] [] ∷ []) []) ≡ fault 1 2
example_declared = refl

-- `a 3; b 1;`: no client is named b
pub example_turn : fault_in (source shop (i.Steps (codes "a") 3 ∷ i.Steps (codes "b") 1 ∷ [])) ≡ fault 11 7
example_turn = refl

abbrev held : List Variable
held = variable (codes "x") (Id 0) ∷ []

abbrev each : List Variable
each = variable (codes "x") (Id 0) ∷ variable (codes "k") Text ∷ []

-- foreach k in entries A.p { print k; }
entries : (lines : List ℕ) → settle (whole_scope shop) (s.ForEntries (codes "k" ∷ []) (codes "A") (codes "p") (s.Print (name (codes "k")) ∷ [])) held lines
    ≡ with_block [] (typed.ForEntries (first_line lines) 1 2) held lines (walk (plain [] (typed.Print (first_line (next_lines lines)) (slot.Slot 1 Text)) ∷ []) each (next_lines lines))
entries lines = settle_for_entries (whole_scope shop) (codes "k" ∷ []) (codes "A") (codes "p") (s.Print (name (codes "k")) ∷ []) held lines
    ∙ ap (λ first. with_block [] (typed.ForEntries (first_line lines) 1 2) held lines (walk_on first (walk [] first.visible first.lines)))
    (settle_print (whole_scope shop) (name (codes "k")) each (next_lines lines) ∙ ap (λ (a : Judged). plain a.rules (typed.Print (first_line (next_lines lines)) a.typed) each (next_lines lines)) (judge_at (scope_of (whole_scope shop) each) (place.Name (codes "k"))))

abbrev here : Scope
here = scope_of (whole_scope shop) held

abbrev aimed : Target
aimed = target here (place.Field (codes "x") (codes "n"))

-- x.n.add(g);
added : (lines : List ℕ) → settle (whole_scope shop) (s.Update (place.Field (codes "x") (codes "n")) operation.Add (name (codes "g"))) held lines
    ≡ plain [] (typed.Update (first_line lines) 3 (slot.Slot 0 (Id 0) ∷ []) change.Add (slot.Get 0 [])) held lines
added lines = settle_update (whole_scope shop) (place.Field (codes "x") (codes "n")) operation.Add (name (codes "g")) held lines
    ∙ ap (λ a. plain (update_rules here aimed operation.Add a) (typed_update (first_line lines) aimed operation.Add a) held lines) (judge_at here (place.Name (codes "g")))

-- var x = new E; x.n.add(g); foreach k in entries A.p { print k; }
pub example_fine : fault_of body ≡ None
example_fine = simp (settle_creation, added, entries)

pub example_typed : (settle_block (whole_scope shop) body [] (4 ∷ 5 ∷ 6 ∷ 7 ∷ [])).typed
    ≡ typed.Create 4 0 0 [] ∷ typed.Update 5 3 (slot.Slot 0 (Id 0) ∷ []) change.Add (slot.Get 0 []) ∷ typed.ForEntries 6 1 2 (typed.Print 7 (slot.Slot 1 Text) ∷ []) ∷ []
example_typed = simp (settle_creation, added, entries)
