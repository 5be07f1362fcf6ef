-- What comes of each form of statement with blocks, and of blocks.
use Rattle.std.proofs.Common.{◌≡◌, refl, ℕ, ◌+◌, ◌<◌, ◌≤◌, List, [], ◌∷◌, ◌++◌, map, length, take, drop, get_or, Option, Some, None, sym, ap, ◌∙◌, append_assoc, append-nil, is_some, subst}
use Rattle.std.proofs.Math.Seq.{take-append_seam}
use Rattle.std.proofs.lemmas.List.{drop_more, drop_all}
use Rattle.cloud_base.specs.Shaped.{property_at}
use Rattle.cloud_base.specs.declared.schema.Owner.TheVariants as owner
use Rattle.source_tree.specs.declared.expression.Expression.{Expression as Source}
use Rattle.source_tree.specs.declared.statement.Statement.{Statement as Written, roll-out-Statement, out-Statement}
use Rattle.source_tree.specs.declared.statement.Statement.TheFolds.{fold-roll-Statement}
use Rattle.source_tree.specs.declared.statement.Statement.TheOpen.{Statement-F}
use Rattle.source_tree.specs.declared.statement.Statement.TheVariants as s
use Rattle.typed_program.specs.declared.expression.Kind.TheVariants.{Truth, Id}
use Rattle.typed_program.specs.declared.statement.Statement.{Statement}
use Rattle.typed_program.specs.declared.statement.Statement.TheVariants as typed
use Rattle.kind_rules.specs.Answers.{Fault, lowest_rule, first_fault, fault_with}
use Rattle.kind_rules.specs.Expressions.{judge, same_kind, unless, keys_of_property}
use Rattle.kind_rules.specs.Names.{Scope, Variable, entity_of, property_of}
use Rattle.kind_rules.specs.Statements.{ItemRules, Settled, Settles, Walked, walk, walk_on, settle, settle_step, with_block, with_blocks, scope_of, declared, variable, variables, first_line, next_lines, number_or_zero, condition_rules, entity_rules, entries_rules}
use Rattle.kind_bodies.specs.declared.fault.KindFault.{KindFault}
use Rattle.kind_bodies.specs.declared.fault.KindFault.TheVariants as fault
use Rattle.kind_bodies.specs.Effects.{condition_rule}
use Rattle.kind_bodies.specs.Found.{judged, lower}
use Rattle.kind_bodies.specs.Settles.{settled, settled_block, Tells, first_of}
use Rattle.kind_bodies.proofs.Rules.{lowest_rule-append, rule_of_kind}
use Rattle.kind_bodies.proofs.Statements as plain

first_fault-append : (xs ys : List ItemRules) → first_fault (xs ++ ys) ≡ first_of (first_fault xs) (first_fault ys)
first_fault-append [] ys = refl
first_fault-append (x ∷ xs) ys = ap (fault_with x.line (lowest_rule x.rules)) (first_fault-append xs ys) ∙ by_rule x.line (lowest_rule x.rules) (first_fault xs) (first_fault ys)
  where
    by_rule : (line : ℕ) (rule : Option ℕ) (a b : Option Fault) → fault_with line rule (first_of a b) ≡ first_of (fault_with line rule a) b
    by_rule line None a b = refl
    by_rule line (Some rule) a b = refl

-- what is told of the first of two is told of both
pub tells_first : (a b : Option Fault) (fault : KindFault) → Tells a fault → Tells (first_of a b) fault
unfolding Tells
tells_first a b (fault.Rule rule line) h = ap (λ (x : Option Fault). first_of x b) h
tells_first a b fault.Memory h = tt

while_is : (scope : Scope) (a : Source) (body : List Written) (visible : List Variable) (lines : List ℕ)
    → settled scope (s.While a body) visible lines ≡ with_block (condition_rules (judge (scope_of scope visible) a)) (typed.While (first_line lines) (judge (scope_of scope visible) a).typed) visible lines (settled_block scope body visible (next_lines lines))
unfolding settled settled_block
while_is scope a body visible lines = ap (λ st. settle scope st visible lines) (sym (s.rolls-While a body)) ∙ ap (λ (f : Settles). f visible lines) (fold-roll-Statement Settles (settle_step scope) (Statement-F.While a body))

pub while_fault : (scope : Scope) (a : Source) (body : List Written) (visible : List Variable) (lines : List ℕ)
    → first_fault (settled scope (s.While a body) visible lines).items ≡ fault_with (first_line lines) (condition_rule (judged (scope_of scope visible) a)) (first_fault (settled_block scope body visible (next_lines lines)).items)
unfolding judged
while_fault scope a body visible lines = ap (λ (d : Settled). first_fault d.items) (while_is scope a body visible lines)
    ∙ ap (λ (r : Option ℕ). fault_with (first_line lines) r (first_fault (settled_block scope body visible (next_lines lines)).items)) (rule_of_kind (same_kind Truth) 9 (judge (scope_of scope visible) a))

pub while_typed : (scope : Scope) (a : Source) (body : List Written) (visible : List Variable) (lines : List ℕ)
    → (settled scope (s.While a body) visible lines).typed ≡ typed.While (first_line lines) (judged (scope_of scope visible) a).typed (settled_block scope body visible (next_lines lines)).typed
unfolding judged
while_typed scope a body visible lines = ap (λ (d : Settled). d.typed) (while_is scope a body visible lines)

pub while_lines : (scope : Scope) (a : Source) (body : List Written) (visible : List Variable) (lines : List ℕ) → (settled scope (s.While a body) visible lines).lines ≡ (settled_block scope body visible (next_lines lines)).lines
while_lines scope a body visible lines = ap (λ (d : Settled). d.lines) (while_is scope a body visible lines)

pub while_visible : (scope : Scope) (a : Source) (body : List Written) (visible : List Variable) (lines : List ℕ) → (settled scope (s.While a body) visible lines).visible ≡ visible
while_visible scope a body visible lines = ap (λ (d : Settled). d.visible) (while_is scope a body visible lines)

if_is : (scope : Scope) (a : Source) (first : List Written) (visible : List Variable) (lines : List ℕ)
    → settled scope (s.If a first None) visible lines ≡ with_block (condition_rules (judge (scope_of scope visible) a)) (λ one. typed.If (first_line lines) (judge (scope_of scope visible) a).typed one None) visible lines (settled_block scope first visible (next_lines lines))
unfolding settled settled_block
if_is scope a first visible lines = ap (λ st. settle scope st visible lines) (sym (s.rolls-If a first None)) ∙ ap (λ (f : Settles). f visible lines) (fold-roll-Statement Settles (settle_step scope) (Statement-F.If a first None))

pub if_fault : (scope : Scope) (a : Source) (first : List Written) (visible : List Variable) (lines : List ℕ)
    → first_fault (settled scope (s.If a first None) visible lines).items ≡ fault_with (first_line lines) (condition_rule (judged (scope_of scope visible) a)) (first_fault (settled_block scope first visible (next_lines lines)).items)
unfolding judged
if_fault scope a first visible lines = ap (λ (d : Settled). first_fault d.items) (if_is scope a first visible lines)
    ∙ ap (λ (r : Option ℕ). fault_with (first_line lines) r (first_fault (settled_block scope first visible (next_lines lines)).items)) (rule_of_kind (same_kind Truth) 9 (judge (scope_of scope visible) a))

pub if_typed : (scope : Scope) (a : Source) (first : List Written) (visible : List Variable) (lines : List ℕ)
    → (settled scope (s.If a first None) visible lines).typed ≡ typed.If (first_line lines) (judged (scope_of scope visible) a).typed (settled_block scope first visible (next_lines lines)).typed None
unfolding judged
if_typed scope a first visible lines = ap (λ (d : Settled). d.typed) (if_is scope a first visible lines)

pub if_lines : (scope : Scope) (a : Source) (first : List Written) (visible : List Variable) (lines : List ℕ) → (settled scope (s.If a first None) visible lines).lines ≡ (settled_block scope first visible (next_lines lines)).lines
if_lines scope a first visible lines = ap (λ (d : Settled). d.lines) (if_is scope a first visible lines)

pub if_visible : (scope : Scope) (a : Source) (first : List Written) (visible : List Variable) (lines : List ℕ) → (settled scope (s.If a first None) visible lines).visible ≡ visible
if_visible scope a first visible lines = ap (λ (d : Settled). d.visible) (if_is scope a first visible lines)

if_else_is : (scope : Scope) (a : Source) (first second : List Written) (visible : List Variable) (lines : List ℕ)
    → settled scope (s.If a first (Some second)) visible lines ≡ with_blocks (condition_rules (judge (scope_of scope visible) a)) (λ one two. typed.If (first_line lines) (judge (scope_of scope visible) a).typed one (Some two)) visible lines (settled_block scope first visible (next_lines lines)) (settled_block scope second visible (settled_block scope first visible (next_lines lines)).lines)
unfolding settled settled_block
if_else_is scope a first second visible lines = ap (λ st. settle scope st visible lines) (sym (s.rolls-If a first (Some second))) ∙ ap (λ (f : Settles). f visible lines) (fold-roll-Statement Settles (settle_step scope) (Statement-F.If a first (Some second)))

pub if_else_fault : (scope : Scope) (a : Source) (first second : List Written) (visible : List Variable) (lines : List ℕ)
    → first_fault (settled scope (s.If a first (Some second)) visible lines).items ≡ fault_with (first_line lines) (condition_rule (judged (scope_of scope visible) a)) (first_of (first_fault (settled_block scope first visible (next_lines lines)).items) (first_fault (settled_block scope second visible (settled_block scope first visible (next_lines lines)).lines).items))
unfolding judged
if_else_fault scope a first second visible lines = ap (λ (d : Settled). first_fault d.items) (if_else_is scope a first second visible lines)
    ∙ ap (λ (r : Option ℕ). fault_with (first_line lines) r (first_fault ((settled_block scope first visible (next_lines lines)).items ++ (settled_block scope second visible (settled_block scope first visible (next_lines lines)).lines).items))) (rule_of_kind (same_kind Truth) 9 (judge (scope_of scope visible) a))
    ∙ ap (fault_with (first_line lines) (condition_rule (judged (scope_of scope visible) a))) (first_fault-append (settled_block scope first visible (next_lines lines)).items (settled_block scope second visible (settled_block scope first visible (next_lines lines)).lines).items)

pub if_else_typed : (scope : Scope) (a : Source) (first second : List Written) (visible : List Variable) (lines : List ℕ)
    → (settled scope (s.If a first (Some second)) visible lines).typed ≡ typed.If (first_line lines) (judged (scope_of scope visible) a).typed (settled_block scope first visible (next_lines lines)).typed (Some (settled_block scope second visible (settled_block scope first visible (next_lines lines)).lines).typed)
unfolding judged
if_else_typed scope a first second visible lines = ap (λ (d : Settled). d.typed) (if_else_is scope a first second visible lines)

pub if_else_lines : (scope : Scope) (a : Source) (first second : List Written) (visible : List Variable) (lines : List ℕ) → (settled scope (s.If a first (Some second)) visible lines).lines ≡ (settled_block scope second visible (settled_block scope first visible (next_lines lines)).lines).lines
if_else_lines scope a first second visible lines = ap (λ (d : Settled). d.lines) (if_else_is scope a first second visible lines)

pub if_else_visible : (scope : Scope) (a : Source) (first second : List Written) (visible : List Variable) (lines : List ℕ) → (settled scope (s.If a first (Some second)) visible lines).visible ≡ visible
if_else_visible scope a first second visible lines = ap (λ (d : Settled). d.visible) (if_else_is scope a first second visible lines)

all_is : (scope : Scope) (x n : List ℕ) (body : List Written) (visible : List Variable) (lines : List ℕ)
    → settled scope (s.ForAll x n body) visible lines ≡ with_block (declared (scope_of scope visible) (x ∷ []) ++ entity_rules (entity_of scope.schema n)) (typed.ForAll (first_line lines) (length visible) (number_or_zero (entity_of scope.schema n))) visible lines (settled_block scope body (visible ++ variable x (Id (number_or_zero (entity_of scope.schema n))) ∷ []) (next_lines lines))
unfolding settled settled_block
all_is scope x n body visible lines = ap (λ st. settle scope st visible lines) (sym (s.rolls-ForAll x n body)) ∙ ap (λ (f : Settles). f visible lines) (fold-roll-Statement Settles (settle_step scope) (Statement-F.ForAll x n body))

pub all_fault : (scope : Scope) (x n : List ℕ) (body : List Written) (visible : List Variable) (lines : List ℕ)
    → first_fault (settled scope (s.ForAll x n body) visible lines).items ≡ fault_with (first_line lines) (lower (lowest_rule (declared (scope_of scope visible) (x ∷ []))) (lowest_rule (unless (is_some (entity_of scope.schema n)) 2))) (first_fault (settled_block scope body (visible ++ variable x (Id (number_or_zero (entity_of scope.schema n))) ∷ []) (next_lines lines)).items)
all_fault scope x n body visible lines = ap (λ (d : Settled). first_fault d.items) (all_is scope x n body visible lines)
    ∙ ap (λ (r : Option ℕ). fault_with (first_line lines) r (first_fault (settled_block scope body (visible ++ variable x (Id (number_or_zero (entity_of scope.schema n))) ∷ []) (next_lines lines)).items)) (lowest_rule-append (declared (scope_of scope visible) (x ∷ [])) (entity_rules (entity_of scope.schema n)))

pub all_typed : (scope : Scope) (x n : List ℕ) (body : List Written) (visible : List Variable) (lines : List ℕ)
    → (settled scope (s.ForAll x n body) visible lines).typed ≡ typed.ForAll (first_line lines) (length visible) (number_or_zero (entity_of scope.schema n)) (settled_block scope body (visible ++ variable x (Id (number_or_zero (entity_of scope.schema n))) ∷ []) (next_lines lines)).typed
all_typed scope x n body visible lines = ap (λ (d : Settled). d.typed) (all_is scope x n body visible lines)

pub all_lines : (scope : Scope) (x n : List ℕ) (body : List Written) (visible : List Variable) (lines : List ℕ) → (settled scope (s.ForAll x n body) visible lines).lines ≡ (settled_block scope body (visible ++ variable x (Id (number_or_zero (entity_of scope.schema n))) ∷ []) (next_lines lines)).lines
all_lines scope x n body visible lines = ap (λ (d : Settled). d.lines) (all_is scope x n body visible lines)

pub all_visible : (scope : Scope) (x n : List ℕ) (body : List Written) (visible : List Variable) (lines : List ℕ) → (settled scope (s.ForAll x n body) visible lines).visible ≡ visible
all_visible scope x n body visible lines = ap (λ (d : Settled). d.visible) (all_is scope x n body visible lines)

entries_is : (scope : Scope) (xs : List (List ℕ)) (n p : List ℕ) (body : List Written) (visible : List Variable) (lines : List ℕ)
    → settled scope (s.ForEntries xs n p body) visible lines ≡ with_block (declared (scope_of scope visible) xs ++ entries_rules (scope_of scope visible) xs n p) (typed.ForEntries (first_line lines) (length visible) (number_or_zero (property_of scope.schema (owner.Array n) p))) visible lines (settled_block scope body (visible ++ variables xs (keys_of_property (property_at scope.schema (number_or_zero (property_of scope.schema (owner.Array n) p))))) (next_lines lines))
unfolding settled settled_block
entries_is scope xs n p body visible lines = ap (λ st. settle scope st visible lines) (sym (s.rolls-ForEntries xs n p body)) ∙ ap (λ (f : Settles). f visible lines) (fold-roll-Statement Settles (settle_step scope) (Statement-F.ForEntries xs n p body))

pub entries_fault : (scope : Scope) (xs : List (List ℕ)) (n p : List ℕ) (body : List Written) (visible : List Variable) (lines : List ℕ)
    → first_fault (settled scope (s.ForEntries xs n p body) visible lines).items ≡ fault_with (first_line lines) (lower (lowest_rule (declared (scope_of scope visible) xs)) (lowest_rule (entries_rules (scope_of scope visible) xs n p))) (first_fault (settled_block scope body (visible ++ variables xs (keys_of_property (property_at scope.schema (number_or_zero (property_of scope.schema (owner.Array n) p))))) (next_lines lines)).items)
entries_fault scope xs n p body visible lines = ap (λ (d : Settled). first_fault d.items) (entries_is scope xs n p body visible lines)
    ∙ ap (λ (r : Option ℕ). fault_with (first_line lines) r (first_fault (settled_block scope body (visible ++ variables xs (keys_of_property (property_at scope.schema (number_or_zero (property_of scope.schema (owner.Array n) p))))) (next_lines lines)).items)) (lowest_rule-append (declared (scope_of scope visible) xs) (entries_rules (scope_of scope visible) xs n p))

pub entries_typed : (scope : Scope) (xs : List (List ℕ)) (n p : List ℕ) (body : List Written) (visible : List Variable) (lines : List ℕ)
    → (settled scope (s.ForEntries xs n p body) visible lines).typed ≡ typed.ForEntries (first_line lines) (length visible) (number_or_zero (property_of scope.schema (owner.Array n) p)) (settled_block scope body (visible ++ variables xs (keys_of_property (property_at scope.schema (number_or_zero (property_of scope.schema (owner.Array n) p))))) (next_lines lines)).typed
entries_typed scope xs n p body visible lines = ap (λ (d : Settled). d.typed) (entries_is scope xs n p body visible lines)

pub entries_lines : (scope : Scope) (xs : List (List ℕ)) (n p : List ℕ) (body : List Written) (visible : List Variable) (lines : List ℕ) → (settled scope (s.ForEntries xs n p body) visible lines).lines ≡ (settled_block scope body (visible ++ variables xs (keys_of_property (property_at scope.schema (number_or_zero (property_of scope.schema (owner.Array n) p))))) (next_lines lines)).lines
entries_lines scope xs n p body visible lines = ap (λ (d : Settled). d.lines) (entries_is scope xs n p body visible lines)

pub entries_visible : (scope : Scope) (xs : List (List ℕ)) (n p : List ℕ) (body : List Written) (visible : List Variable) (lines : List ℕ) → (settled scope (s.ForEntries xs n p body) visible lines).visible ≡ visible
entries_visible scope xs n p body visible lines = ap (λ (d : Settled). d.visible) (entries_is scope xs n p body visible lines)

-- a statement before others in a block
block_fault : (scope : Scope) (st : Written) (rest : List Written) (visible : List Variable) (lines : List ℕ)
    → first_fault (settled_block scope (st ∷ rest) visible lines).items
    ≡ first_of (first_fault (settled scope st visible lines).items) (first_fault (settled_block scope rest (settled scope st visible lines).visible (settled scope st visible lines).lines).items)
unfolding settled settled_block
block_fault scope st rest visible lines = first_fault-append (settle scope st visible lines).items (walk (map (settle scope) rest) (settle scope st visible lines).visible (settle scope st visible lines).lines).items

block_next : (scope : Scope) (st : Written) (rest : List Written) (visible : List Variable) (lines : List ℕ)
    → settled_block scope (st ∷ rest) visible lines ≡ walk_on (settled scope st visible lines) (settled_block scope rest (settled scope st visible lines).visible (settled scope st visible lines).lines)
unfolding settled settled_block
block_next scope st rest visible lines = refl

block_end : (scope : Scope) (visible : List Variable) (lines : List ℕ) → settled_block scope [] visible lines ≡ record { items = []; typed = []; visible = visible; lines = lines }
unfolding settled_block
block_end scope visible lines = refl

-- the statement at a place stands before those behind it
left_at_statement : (body : List Written) (at : ℕ) (st : Written) → at < length body → st ≡ get_or body at st → drop at body ≡ st ∷ drop (at + 1) body
left_at_statement body at st more is = drop_more body at st more ∙ ap (λ (x : Written). x ∷ drop (at + 1) body) (sym is)

-- a fault of the statement at a place is the first one
pub block_told : (scope : Scope) (body : List Written) (at : ℕ) (st : Written) (visible : List Variable) (lines : List ℕ) (all : Option Fault) (fault : KindFault) → at < length body → st ≡ get_or body at st
    → first_fault (settled_block scope (drop at body) visible lines).items ≡ all → Tells (first_fault (settled scope st visible lines).items) fault → Tells all fault
block_told scope body at st visible lines all fault more is here told =
    subst (λ f. Tells f fault) (sym (ap (λ b. first_fault (settled_block scope b visible lines).items) (left_at_statement body at st more is) ∙ block_fault scope st (drop (at + 1) body) visible lines) ∙ here)
    (tells_first (first_fault (settled scope st visible lines).items) _ fault told)

-- what comes of the statements that are left, from here on, makes with those so far what comes of all
pub record Ahead (left all : Walked) (so_far : List Statement) : Type 0 where
  pub fault : first_fault left.items ≡ first_fault all.items
  pub typed : so_far ++ left.typed ≡ all.typed
  pub visible : left.visible ≡ all.visible
  pub lines : left.lines ≡ all.lines

pub block_step : (scope : Scope) (body : List Written) (at : ℕ) (st : Written) (visible new : List Variable) (lines after : List ℕ) (typed pushed : List Statement) (one : Statement) (all : Walked)
    → at < length body → st ≡ get_or body at st → first_fault (settled scope st visible lines).items ≡ None → one ≡ (settled scope st visible lines).typed
    → after ≡ (settled scope st visible lines).lines → new ≡ (settled scope st visible lines).visible → pushed ≡ typed ++ one ∷ []
    → Ahead (settled_block scope (drop at body) visible lines) all typed → Ahead (settled_block scope (drop (at + 1) body) new after) all pushed
block_step scope body at st visible new lines after typed pushed one all more is none one_is after_is new_is push ahead =
    let rest = drop (at + 1) body in
    let S = settled scope st visible lines in
    let R = settled_block scope rest S.visible S.lines in
    let N = settled_block scope rest new after in
    let same : N ≡ R = ap (λ (v : List Variable). settled_block scope rest v after) new_is ∙ ap (settled_block scope rest S.visible) after_is in
    let split = left_at_statement body at st more is in
    let whole : settled_block scope (drop at body) visible lines ≡ walk_on S R = ap (λ b. settled_block scope b visible lines) split ∙ block_next scope st rest visible lines in
    record {
      fault = ap (λ (w : Walked). first_fault w.items) same ∙ ap (λ (f : Option Fault). first_of f (first_fault R.items)) (sym none)
          ∙ sym (ap (λ b. first_fault (settled_block scope b visible lines).items) split ∙ block_fault scope st rest visible lines) ∙ ahead.fault;
      typed = ap (λ (p : List Statement). p ++ N.typed) push ∙ append_assoc typed (one ∷ []) N.typed ∙ ap (λ (o : Statement). typed ++ o ∷ N.typed) one_is
          ∙ ap (λ (w : Walked). typed ++ S.typed ∷ w.typed) same ∙ ap (λ (w : Walked). typed ++ w.typed) (sym whole) ∙ ahead.typed;
      visible = ap (λ (w : Walked). w.visible) same ∙ sym (ap (λ (w : Walked). w.visible) whole) ∙ ahead.visible;
      lines = ap (λ (w : Walked). w.lines) same ∙ sym (ap (λ (w : Walked). w.lines) whole) ∙ ahead.lines;
    }

pub block_ends : (scope : Scope) (body : List Written) (at : ℕ) (visible : List Variable) (lines : List ℕ) (typed : List Statement) (all : Walked) → length body ≤ at
    → Ahead (settled_block scope (drop at body) visible lines) all typed → (first_fault all.items ≡ None) × (typed ≡ all.typed) × (lines ≡ all.lines) × (visible ≡ all.visible)
block_ends scope body at visible lines typed all end ahead =
    let none = ap (λ b. settled_block scope b visible lines) (drop_all at body end) ∙ block_end scope visible lines in (
      sym ahead.fault ∙ ap (λ (w : Walked). first_fault w.items) none,
      sym (append-nil typed) ∙ ap (λ (w : Walked). typed ++ w.typed) (sym none) ∙ ahead.typed,
      ap (λ (w : Walked). w.lines) (sym none) ∙ ahead.lines,
      ap (λ (w : Walked). w.visible) (sym none) ∙ ahead.visible,
    )

pub starts : (all : Walked) (typed : List Statement) → typed ≡ [] → Ahead all all typed
starts all typed none = record { fault = refl; typed = ap (λ (ts : List Statement). ts ++ all.typed) none; visible = refl; lines = refl }

-- the variables behind a statement are those before it, and at most one more
settled_adds : (scope : Scope) (layer : Statement-F Settles) (visible : List Variable) (lines : List ℕ) → (more : List Variable) × (((settle_step scope layer) visible lines).visible ≡ visible ++ more)
settled_adds scope (Statement-F.Define x a) visible lines = (variable x (judge (scope_of scope visible) a).kind ∷ [], refl)
settled_adds scope (Statement-F.Create x n keys) visible lines = (variable x (Id (number_or_zero (entity_of scope.schema n))) ∷ [], refl)
settled_adds scope (Statement-F.Assign x a) visible lines = ([], sym (append-nil visible))
settled_adds scope (Statement-F.Update p op a) visible lines = ([], sym (append-nil visible))
settled_adds scope (Statement-F.Delete x) visible lines = ([], sym (append-nil visible))
settled_adds scope (Statement-F.If a first None) visible lines = ([], sym (append-nil visible))
settled_adds scope (Statement-F.If a first (Some second)) visible lines = ([], sym (append-nil visible))
settled_adds scope (Statement-F.While a block) visible lines = ([], sym (append-nil visible))
settled_adds scope (Statement-F.ForAll x n block) visible lines = ([], sym (append-nil visible))
settled_adds scope (Statement-F.ForEntries xs n p block) visible lines = ([], sym (append-nil visible))
settled_adds scope (Statement-F.Print a) visible lines = ([], sym (append-nil visible))
settled_adds scope Statement-F.Yield visible lines = ([], sym (append-nil visible))
settled_adds scope Statement-F.Flush visible lines = ([], sym (append-nil visible))

statement_adds : (scope : Scope) (st : Written) (visible : List Variable) (lines : List ℕ) → (more : List Variable) × ((settle scope st visible lines).visible ≡ visible ++ more)
statement_adds scope st visible lines =
    let is = ap (λ x. settle scope x visible lines) (sym (roll-out-Statement st)) ∙ ap (λ (f : Settles). f visible lines) (fold-roll-Statement Settles (settle_step scope) (out-Statement st)) in
    let adds = settled_adds scope _ visible lines in
    (adds.0, ap (λ (d : Settled). d.visible) is ∙ adds.1)

block_adds : (scope : Scope) (body : List Written) (visible : List Variable) (lines : List ℕ) → (more : List Variable) × ((walk (map (settle scope) body) visible lines).visible ≡ visible ++ more)
block_adds scope [] visible lines = ([], sym (append-nil visible))
block_adds scope (st ∷ body) visible lines =
    let one = statement_adds scope st visible lines in
    let all = block_adds scope body (settle scope st visible lines).visible (settle scope st visible lines).lines in
    (one.0 ++ all.0, all.1 ∙ ap (λ (v : List Variable). v ++ all.0) one.1 ∙ append_assoc visible one.0 all.0)

-- behind a block the variables before it are the first ones
pub stays : (scope : Scope) (body : List Written) (visible : List Variable) (lines : List ℕ) → take (length visible) (settled_block scope body visible lines).visible ≡ visible
unfolding settled_block
stays scope body visible lines = let all = block_adds scope body visible lines in ap (take (length visible)) all.1 ∙ take-append_seam visible all.0

pub stays_behind : (scope : Scope) (body : List Written) (visible more : List Variable) (lines : List ℕ) → take (length visible) (settled_block scope body (visible ++ more) lines).visible ≡ visible
unfolding settled_block
stays_behind scope body visible more lines =
    let all = block_adds scope body (visible ++ more) lines in
    ap (take (length visible)) (all.1 ∙ append_assoc visible more all.0) ∙ take-append_seam visible (more ++ all.0)

pub ruleset while_forms = (while_fault, while_typed, while_lines, while_visible, stays)

pub ruleset all_forms = (all_fault, all_typed, all_lines, all_visible, stays_behind)

pub ruleset entries_forms = (entries_fault, entries_typed, entries_lines, entries_visible, stays_behind)

pub ruleset if_forms = (if_fault, if_typed, if_lines, if_visible, if_else_fault, if_else_typed, if_else_lines, if_else_visible, stays, tells_first, plain.yield, plain.flush)
