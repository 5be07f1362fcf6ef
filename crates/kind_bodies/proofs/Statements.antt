-- What comes of each form of statement without blocks.
use Rattle.std.proofs.Common.{◌≡◌, ℕ, List, [], ◌∷◌, ◌++◌, map, length, Option, Some, None, sym, ap, ◌∙◌}
use Rattle.std.specs.Prelude.{◌==◌}
use Rattle.std.proofs.lemmas.List.{length-map}
use Rattle.cloud_base.specs.PlainCell.{value_kind}
use Rattle.cloud_base.specs.Shaped.{entity_at, cell_type}
use Rattle.source_tree.specs.declared.expression.Expression.{Expression as Source}
use Rattle.source_tree.specs.declared.expression.Place.{Place}
use Rattle.source_tree.specs.declared.statement.Operation.{Operation}
use Rattle.source_tree.specs.declared.statement.Statement.TheFolds.{fold-roll-Statement}
use Rattle.source_tree.specs.declared.statement.Statement.TheOpen.{Statement-F}
use Rattle.source_tree.specs.declared.statement.Statement.TheVariants as s
use Rattle.typed_program.specs.Kinds.{cell_kind}
use Rattle.typed_program.specs.declared.expression.Kind.TheVariants.{Id}
use Rattle.typed_program.specs.declared.statement.Statement.TheVariants as typed
use Rattle.kind_rules.specs.Answers.{lowest_rule, first_fault, fault_with}
use Rattle.kind_rules.specs.Expressions.{Judged, Target as Targeted, judge, judge_place, target, unless, unless_kind, same_kind, kind_at, mistyped, rules_in}
use Rattle.kind_rules.specs.Names.{Scope, Variable, entity_of, slot_of}
use Rattle.kind_rules.specs.Statements.{Settled, Settles, settle, settle_step, settle_define, settle_create, plain, scope_of, declared, variable, first_line, next_lines, number_or_zero, keys_of_entity, creation_rules, assignment_rules, update_rules, operation_rules, typed_update, typed_operation, has_operation, argument_kind, deletion_rules, typed_deletion}
use Rattle.kind_bodies.specs.Effects.{created_types, creation_rule, assignment_rule, operation_rule}
use Rattle.kind_bodies.specs.Found.{told, judged, judged_keys, targeted, lower}
use Rattle.kind_bodies.specs.Settles.{settled}
use Rattle.kind_bodies.proofs.Rules.{lowest_rule-append, lower_comm, lower_assoc, rule_of_kind}

creation_told : (scope : Scope) (found : Option ℕ) (keys : List Source)
    → lowest_rule (creation_rules scope found (map (judge scope) keys)) ≡ creation_rule scope.schema found (length keys) (judged_keys scope (created_types scope.schema found) keys).rule
unfolding judged_keys
creation_told scope None keys = lowest_rule-append (2 ∷ []) (rules_in (map (judge scope) keys))
creation_told scope (Some number) keys =
    let types = keys_of_entity (entity_at scope.schema number) in
    let js = map (judge scope) keys in
    lowest_rule-append (unless (length js == length types) 4) (mistyped types js ++ rules_in js)
    ∙ ap (λ n. lower (lowest_rule (unless (n == length types) 4)) (lowest_rule (mistyped types js ++ rules_in js))) (length-map keys (judge scope))

assignment_told : (scope : Scope) (slot : Option ℕ) (a : Judged) → lowest_rule (assignment_rules scope slot a) ≡ assignment_rule scope.visible slot (told a)
assignment_told scope None a = lowest_rule-append (2 ∷ []) a.rules
assignment_told scope (Some slot) a = rule_of_kind (same_kind (kind_at scope.visible slot)) 8 a

operation_told : (scope : Scope) (property : Option ℕ) (op : Operation) (a : Judged) → lowest_rule (a.rules ++ operation_rules scope property op a) ≡ operation_rule scope.schema property op (told a)
operation_told scope None op a = lowest_rule-append a.rules [] ∙ lower_comm (lowest_rule a.rules) None
operation_told scope (Some number) op a =
    let allowed = unless (has_operation op (value_kind (cell_type scope.schema number))) 6 in
    let fits = same_kind (argument_kind op (cell_kind (cell_type scope.schema number))) in
    lowest_rule-append a.rules (allowed ++ unless_kind fits 7 a)
    ∙ ap (lower (lowest_rule a.rules)) (lowest_rule-append allowed (unless_kind fits 7 a))
    ∙ sym (lower_assoc (lowest_rule a.rules) (lowest_rule allowed) (lowest_rule (unless_kind fits 7 a)))
    ∙ ap (λ (r : Option ℕ). lower r (lowest_rule (unless_kind fits 7 a))) (lower_comm (lowest_rule a.rules) (lowest_rule allowed))
    ∙ lower_assoc (lowest_rule allowed) (lowest_rule a.rules) (lowest_rule (unless_kind fits 7 a))
    ∙ ap (lower (lowest_rule allowed)) (sym (lowest_rule-append a.rules (unless_kind fits 7 a)) ∙ rule_of_kind fits 7 a)

update_told : (scope : Scope) (t : Targeted) (op : Operation) (a : Judged) → lowest_rule (update_rules scope t op a) ≡ lower (lowest_rule t.rules) (operation_rule scope.schema t.property op (told a))
update_told scope t op a = lowest_rule-append t.rules (a.rules ++ operation_rules scope t.property op a) ∙ ap (lower (lowest_rule t.rules)) (operation_told scope t.property op a)

define_is : (scope : Scope) (x : List ℕ) (a : Source) (visible : List Variable) (lines : List ℕ)
    → settled scope (s.Define x a) visible lines ≡ settle_define (scope_of scope visible) x (judge (scope_of scope visible) a) visible lines
unfolding settled
define_is scope x a visible lines = ap (λ st. settle scope st visible lines) (sym (s.rolls-Define x a)) ∙ ap (λ (f : Settles). f visible lines) (fold-roll-Statement Settles (settle_step scope) (Statement-F.Define x a))

pub define_fault : (scope : Scope) (x : List ℕ) (a : Source) (visible : List Variable) (lines : List ℕ)
    → first_fault (settled scope (s.Define x a) visible lines).items ≡ fault_with (first_line lines) (lower (lowest_rule (declared (scope_of scope visible) (x ∷ []))) (judged (scope_of scope visible) a).rule) None
unfolding judged
define_fault scope x a visible lines = ap (λ (d : Settled). first_fault d.items) (define_is scope x a visible lines)
    ∙ ap (λ (r : Option ℕ). fault_with (first_line lines) r None) (lowest_rule-append (declared (scope_of scope visible) (x ∷ [])) (judge (scope_of scope visible) a).rules)

pub define_typed : (scope : Scope) (x : List ℕ) (a : Source) (visible : List Variable) (lines : List ℕ)
    → (settled scope (s.Define x a) visible lines).typed ≡ typed.Store (first_line lines) (length visible) (judged (scope_of scope visible) a).typed
unfolding judged
define_typed scope x a visible lines = ap (λ (d : Settled). d.typed) (define_is scope x a visible lines)

pub define_lines : (scope : Scope) (x : List ℕ) (a : Source) (visible : List Variable) (lines : List ℕ) → (settled scope (s.Define x a) visible lines).lines ≡ next_lines lines
define_lines scope x a visible lines = ap (λ (d : Settled). d.lines) (define_is scope x a visible lines)

pub define_visible : (scope : Scope) (x : List ℕ) (a : Source) (visible : List Variable) (lines : List ℕ)
    → (settled scope (s.Define x a) visible lines).visible ≡ visible ++ variable x (judged (scope_of scope visible) a).kind ∷ []
unfolding judged
define_visible scope x a visible lines = ap (λ (d : Settled). d.visible) (define_is scope x a visible lines)

pub ruleset define = (define_fault, define_typed, define_lines, define_visible)

create_is : (scope : Scope) (x n : List ℕ) (keys : List Source) (visible : List Variable) (lines : List ℕ)
    → settled scope (s.Create x n keys) visible lines ≡ settle_create (scope_of scope visible) x (entity_of scope.schema n) (map (judge (scope_of scope visible)) keys) visible lines
unfolding settled
create_is scope x n keys visible lines = ap (λ st. settle scope st visible lines) (sym (s.rolls-Create x n keys)) ∙ ap (λ (f : Settles). f visible lines) (fold-roll-Statement Settles (settle_step scope) (Statement-F.Create x n keys))

pub create_fault : (scope : Scope) (x n : List ℕ) (keys : List Source) (visible : List Variable) (lines : List ℕ)
    → first_fault (settled scope (s.Create x n keys) visible lines).items ≡ fault_with (first_line lines) (lower (lowest_rule (declared (scope_of scope visible) (x ∷ []))) (creation_rule scope.schema (entity_of scope.schema n) (length keys) (judged_keys (scope_of scope visible) (created_types scope.schema (entity_of scope.schema n)) keys).rule)) None
unfolding judged_keys
create_fault scope x n keys visible lines = ap (λ (d : Settled). first_fault d.items) (create_is scope x n keys visible lines)
    ∙ ap (λ (r : Option ℕ). fault_with (first_line lines) r None) (lowest_rule-append (declared (scope_of scope visible) (x ∷ [])) (creation_rules (scope_of scope visible) (entity_of scope.schema n) (map (judge (scope_of scope visible)) keys)) ∙ ap (lower (lowest_rule (declared (scope_of scope visible) (x ∷ [])))) (creation_told (scope_of scope visible) (entity_of scope.schema n) keys))

pub create_typed : (scope : Scope) (x n : List ℕ) (keys : List Source) (visible : List Variable) (lines : List ℕ)
    → (settled scope (s.Create x n keys) visible lines).typed ≡ typed.Create (first_line lines) (length visible) (number_or_zero (entity_of scope.schema n)) (judged_keys (scope_of scope visible) (created_types scope.schema (entity_of scope.schema n)) keys).typed
unfolding judged_keys
create_typed scope x n keys visible lines = ap (λ (d : Settled). d.typed) (create_is scope x n keys visible lines)

pub create_lines : (scope : Scope) (x n : List ℕ) (keys : List Source) (visible : List Variable) (lines : List ℕ) → (settled scope (s.Create x n keys) visible lines).lines ≡ next_lines lines
create_lines scope x n keys visible lines = ap (λ (d : Settled). d.lines) (create_is scope x n keys visible lines)

pub create_visible : (scope : Scope) (x n : List ℕ) (keys : List Source) (visible : List Variable) (lines : List ℕ)
    → (settled scope (s.Create x n keys) visible lines).visible ≡ visible ++ variable x (Id (number_or_zero (entity_of scope.schema n))) ∷ []
unfolding judged_keys
create_visible scope x n keys visible lines = ap (λ (d : Settled). d.visible) (create_is scope x n keys visible lines)

pub ruleset create = (create_fault, create_typed, create_lines, create_visible)

assign_is : (scope : Scope) (x : List ℕ) (a : Source) (visible : List Variable) (lines : List ℕ)
    → settled scope (s.Assign x a) visible lines ≡ plain (assignment_rules (scope_of scope visible) (slot_of visible x) (judge (scope_of scope visible) a)) (typed.Store (first_line lines) (number_or_zero (slot_of visible x)) (judge (scope_of scope visible) a).typed) visible lines
unfolding settled
assign_is scope x a visible lines = ap (λ st. settle scope st visible lines) (sym (s.rolls-Assign x a)) ∙ ap (λ (f : Settles). f visible lines) (fold-roll-Statement Settles (settle_step scope) (Statement-F.Assign x a))

pub assign_fault : (scope : Scope) (x : List ℕ) (a : Source) (visible : List Variable) (lines : List ℕ)
    → first_fault (settled scope (s.Assign x a) visible lines).items ≡ fault_with (first_line lines) (assignment_rule visible (slot_of visible x) (judged (scope_of scope visible) a)) None
unfolding judged
assign_fault scope x a visible lines = ap (λ (d : Settled). first_fault d.items) (assign_is scope x a visible lines)
    ∙ ap (λ (r : Option ℕ). fault_with (first_line lines) r None) (assignment_told (scope_of scope visible) (slot_of visible x) (judge (scope_of scope visible) a))

pub assign_typed : (scope : Scope) (x : List ℕ) (a : Source) (visible : List Variable) (lines : List ℕ)
    → (settled scope (s.Assign x a) visible lines).typed ≡ typed.Store (first_line lines) (number_or_zero (slot_of visible x)) (judged (scope_of scope visible) a).typed
unfolding judged
assign_typed scope x a visible lines = ap (λ (d : Settled). d.typed) (assign_is scope x a visible lines)

pub assign_lines : (scope : Scope) (x : List ℕ) (a : Source) (visible : List Variable) (lines : List ℕ) → (settled scope (s.Assign x a) visible lines).lines ≡ next_lines lines
assign_lines scope x a visible lines = ap (λ (d : Settled). d.lines) (assign_is scope x a visible lines)

pub assign_visible : (scope : Scope) (x : List ℕ) (a : Source) (visible : List Variable) (lines : List ℕ)
    → (settled scope (s.Assign x a) visible lines).visible ≡ visible
unfolding judged
assign_visible scope x a visible lines = ap (λ (d : Settled). d.visible) (assign_is scope x a visible lines)

pub ruleset assign = (assign_fault, assign_typed, assign_lines, assign_visible)

update_is : (scope : Scope) (p : Place Source) (op : Operation) (a : Source) (visible : List Variable) (lines : List ℕ)
    → settled scope (s.Update p op a) visible lines ≡ plain (update_rules (scope_of scope visible) (target (scope_of scope visible) (judge_place (scope_of scope visible) p)) op (judge (scope_of scope visible) a)) (typed_update (first_line lines) (target (scope_of scope visible) (judge_place (scope_of scope visible) p)) op (judge (scope_of scope visible) a)) visible lines
unfolding settled
update_is scope p op a visible lines = ap (λ st. settle scope st visible lines) (sym (s.rolls-Update p op a)) ∙ ap (λ (f : Settles). f visible lines) (fold-roll-Statement Settles (settle_step scope) (Statement-F.Update p op a))

pub update_fault : (scope : Scope) (p : Place Source) (op : Operation) (a : Source) (visible : List Variable) (lines : List ℕ)
    → first_fault (settled scope (s.Update p op a) visible lines).items ≡ fault_with (first_line lines) (lower (targeted (scope_of scope visible) p).rule (operation_rule scope.schema (targeted (scope_of scope visible) p).property op (judged (scope_of scope visible) a))) None
unfolding judged targeted
update_fault scope p op a visible lines = ap (λ (d : Settled). first_fault d.items) (update_is scope p op a visible lines)
    ∙ ap (λ (r : Option ℕ). fault_with (first_line lines) r None) (update_told (scope_of scope visible) (target (scope_of scope visible) (judge_place (scope_of scope visible) p)) op (judge (scope_of scope visible) a))

pub update_typed : (scope : Scope) (p : Place Source) (op : Operation) (a : Source) (visible : List Variable) (lines : List ℕ)
    → (settled scope (s.Update p op a) visible lines).typed ≡ typed.Update (first_line lines) (number_or_zero (targeted (scope_of scope visible) p).property) (targeted (scope_of scope visible) p).keys (typed_operation op) (judged (scope_of scope visible) a).typed
unfolding judged targeted
update_typed scope p op a visible lines = ap (λ (d : Settled). d.typed) (update_is scope p op a visible lines)

pub update_lines : (scope : Scope) (p : Place Source) (op : Operation) (a : Source) (visible : List Variable) (lines : List ℕ) → (settled scope (s.Update p op a) visible lines).lines ≡ next_lines lines
update_lines scope p op a visible lines = ap (λ (d : Settled). d.lines) (update_is scope p op a visible lines)

pub update_visible : (scope : Scope) (p : Place Source) (op : Operation) (a : Source) (visible : List Variable) (lines : List ℕ)
    → (settled scope (s.Update p op a) visible lines).visible ≡ visible
unfolding judged targeted
update_visible scope p op a visible lines = ap (λ (d : Settled). d.visible) (update_is scope p op a visible lines)

pub ruleset update = (update_fault, update_typed, update_lines, update_visible)

delete_is : (scope : Scope) (x : List ℕ) (visible : List Variable) (lines : List ℕ)
    → settled scope (s.Delete x) visible lines ≡ plain (deletion_rules (scope_of scope visible) (slot_of visible x)) (typed_deletion (first_line lines) (scope_of scope visible) (slot_of visible x)) visible lines
unfolding settled
delete_is scope x visible lines = ap (λ st. settle scope st visible lines) (sym (s.rolls-Delete x)) ∙ ap (λ (f : Settles). f visible lines) (fold-roll-Statement Settles (settle_step scope) (Statement-F.Delete x))

pub delete_fault : (scope : Scope) (x : List ℕ) (visible : List Variable) (lines : List ℕ)
    → first_fault (settled scope (s.Delete x) visible lines).items ≡ fault_with (first_line lines) (lowest_rule (deletion_rules (scope_of scope visible) (slot_of visible x))) None
delete_fault scope x visible lines = ap (λ (d : Settled). first_fault d.items) (delete_is scope x visible lines)

pub delete_typed : (scope : Scope) (x : List ℕ) (visible : List Variable) (lines : List ℕ)
    → (settled scope (s.Delete x) visible lines).typed ≡ typed_deletion (first_line lines) (scope_of scope visible) (slot_of visible x)
delete_typed scope x visible lines = ap (λ (d : Settled). d.typed) (delete_is scope x visible lines)

pub delete_lines : (scope : Scope) (x : List ℕ) (visible : List Variable) (lines : List ℕ) → (settled scope (s.Delete x) visible lines).lines ≡ next_lines lines
delete_lines scope x visible lines = ap (λ (d : Settled). d.lines) (delete_is scope x visible lines)

pub delete_visible : (scope : Scope) (x : List ℕ) (visible : List Variable) (lines : List ℕ)
    → (settled scope (s.Delete x) visible lines).visible ≡ visible
delete_visible scope x visible lines = ap (λ (d : Settled). d.visible) (delete_is scope x visible lines)

pub ruleset delete = (delete_fault, delete_typed, delete_lines, delete_visible)

print_is : (scope : Scope) (a : Source) (visible : List Variable) (lines : List ℕ)
    → settled scope (s.Print a) visible lines ≡ plain (judge (scope_of scope visible) a).rules (typed.Print (first_line lines) (judge (scope_of scope visible) a).typed) visible lines
unfolding settled
print_is scope a visible lines = ap (λ st. settle scope st visible lines) (sym (s.rolls-Print a)) ∙ ap (λ (f : Settles). f visible lines) (fold-roll-Statement Settles (settle_step scope) (Statement-F.Print a))

pub print_fault : (scope : Scope) (a : Source) (visible : List Variable) (lines : List ℕ)
    → first_fault (settled scope (s.Print a) visible lines).items ≡ fault_with (first_line lines) ((judged (scope_of scope visible) a).rule) None
unfolding judged
print_fault scope a visible lines = ap (λ (d : Settled). first_fault d.items) (print_is scope a visible lines)

pub print_typed : (scope : Scope) (a : Source) (visible : List Variable) (lines : List ℕ)
    → (settled scope (s.Print a) visible lines).typed ≡ typed.Print (first_line lines) (judged (scope_of scope visible) a).typed
unfolding judged
print_typed scope a visible lines = ap (λ (d : Settled). d.typed) (print_is scope a visible lines)

pub print_lines : (scope : Scope) (a : Source) (visible : List Variable) (lines : List ℕ) → (settled scope (s.Print a) visible lines).lines ≡ next_lines lines
print_lines scope a visible lines = ap (λ (d : Settled). d.lines) (print_is scope a visible lines)

pub print_visible : (scope : Scope) (a : Source) (visible : List Variable) (lines : List ℕ)
    → (settled scope (s.Print a) visible lines).visible ≡ visible
unfolding judged
print_visible scope a visible lines = ap (λ (d : Settled). d.visible) (print_is scope a visible lines)

pub ruleset print = (print_fault, print_typed, print_lines, print_visible)

yield_is : (scope : Scope) (visible : List Variable) (lines : List ℕ)
    → settled scope s.Yield visible lines ≡ plain [] (typed.Yield (first_line lines)) visible lines
unfolding settled
yield_is scope visible lines = ap (λ st. settle scope st visible lines) (sym s.rolls-Yield) ∙ ap (λ (f : Settles). f visible lines) (fold-roll-Statement Settles (settle_step scope) Statement-F.Yield)

pub yield_fault : (scope : Scope) (visible : List Variable) (lines : List ℕ)
    → first_fault (settled scope s.Yield visible lines).items ≡ fault_with (first_line lines) (None) None
yield_fault scope visible lines = ap (λ (d : Settled). first_fault d.items) (yield_is scope visible lines)

pub yield_typed : (scope : Scope) (visible : List Variable) (lines : List ℕ)
    → (settled scope s.Yield visible lines).typed ≡ typed.Yield (first_line lines)
yield_typed scope visible lines = ap (λ (d : Settled). d.typed) (yield_is scope visible lines)

pub yield_lines : (scope : Scope) (visible : List Variable) (lines : List ℕ) → (settled scope s.Yield visible lines).lines ≡ next_lines lines
yield_lines scope visible lines = ap (λ (d : Settled). d.lines) (yield_is scope visible lines)

pub yield_visible : (scope : Scope) (visible : List Variable) (lines : List ℕ)
    → (settled scope s.Yield visible lines).visible ≡ visible
yield_visible scope visible lines = ap (λ (d : Settled). d.visible) (yield_is scope visible lines)

pub ruleset yield = (yield_fault, yield_typed, yield_lines, yield_visible)

flush_is : (scope : Scope) (visible : List Variable) (lines : List ℕ)
    → settled scope s.Flush visible lines ≡ plain [] (typed.Flush (first_line lines)) visible lines
unfolding settled
flush_is scope visible lines = ap (λ st. settle scope st visible lines) (sym s.rolls-Flush) ∙ ap (λ (f : Settles). f visible lines) (fold-roll-Statement Settles (settle_step scope) Statement-F.Flush)

pub flush_fault : (scope : Scope) (visible : List Variable) (lines : List ℕ)
    → first_fault (settled scope s.Flush visible lines).items ≡ fault_with (first_line lines) (None) None
flush_fault scope visible lines = ap (λ (d : Settled). first_fault d.items) (flush_is scope visible lines)

pub flush_typed : (scope : Scope) (visible : List Variable) (lines : List ℕ)
    → (settled scope s.Flush visible lines).typed ≡ typed.Flush (first_line lines)
flush_typed scope visible lines = ap (λ (d : Settled). d.typed) (flush_is scope visible lines)

pub flush_lines : (scope : Scope) (visible : List Variable) (lines : List ℕ) → (settled scope s.Flush visible lines).lines ≡ next_lines lines
flush_lines scope visible lines = ap (λ (d : Settled). d.lines) (flush_is scope visible lines)

pub flush_visible : (scope : Scope) (visible : List Variable) (lines : List ℕ)
    → (settled scope s.Flush visible lines).visible ≡ visible
flush_visible scope visible lines = ap (λ (d : Settled). d.visible) (flush_is scope visible lines)

pub ruleset flush = (flush_fault, flush_typed, flush_lines, flush_visible)
