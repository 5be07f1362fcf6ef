-- Which rules of kinds fail at the statements of a body, in their order, and the typed statements.
-- Rules have their numbers: 1 names that are taken, 2 what a name must be, 4 how many keys or names there
-- are, 5 the kinds of keys, 6 and 7 what an update may be, 8 assignments, 9 conditions, 10 what has entries,
-- 12 how many variables are visible at once.
use Rattle.std.specs.Prelude.{ℕ, ◌+◌, ◌==◌, ◌||◌, not, Bool, true, false, List, [], ◌∷◌, ◌++◌, length, map, min, is_some, Option, Some, None, nat_le}
use Rattle.cloud_base.specs.PlainCell.{ValueKind, Number, Words, value_kind}
use Rattle.cloud_base.specs.Shaped.{property_at, entity_at, cell_type}
use Rattle.cloud_base.specs.declared.schema.Entity.{Entity}
use Rattle.cloud_base.specs.declared.schema.KeyType.{KeyType}
use Rattle.cloud_base.specs.declared.schema.Owner.TheVariants as owner
use Rattle.source_tree.specs.declared.statement.Operation.{Operation}
use Rattle.source_tree.specs.declared.statement.Operation.TheVariants as o
use Rattle.source_tree.specs.declared.statement.Statement.TheFolds.{fold-Statement}
use Rattle.source_tree.specs.declared.statement.Statement.TheOpen.{Statement-F}
use Rattle.source_tree.specs.declared.statement.Statement.{Statement as Written_statement}
use Rattle.typed_program.specs.Kinds.{key_kind, cell_kind}
use Rattle.typed_program.specs.declared.expression.Expression.{Expression}
use Rattle.typed_program.specs.declared.expression.Kind.{Kind}
use Rattle.typed_program.specs.declared.expression.Kind.TheVariants.{Int, Text, Truth, Id}
use Rattle.typed_program.specs.declared.statement.Operation.{Operation as TypedOperation}
use Rattle.typed_program.specs.declared.statement.Operation.TheVariants as operation
use Rattle.typed_program.specs.declared.statement.Statement.{Statement}
use Rattle.typed_program.specs.declared.statement.Statement.TheVariants as s
use Rattle.kind_rules.specs.Names.{Variable, Scope, is_among, is_repeated, property_of, entity_of, slot_of}
use Rattle.kind_rules.specs.Expressions.{Judged, same_kind, unless, unless_kind, judge, judge_place, Target, target, kind_at, key_rules, keys_of_property, typed_keys, rules_in}

-- an item of a source: its line, and the rules that fail there
pub record ItemRules : Type 0 where
  pub line : ℕ
  pub rules : List ℕ

-- the line of the next item; a line beyond 32 bits counts as the last one that has them
abbrev pub first_line : List ℕ → ℕ
first_line [] = 0
first_line (line ∷ lines) = min line 4294967295

abbrev pub next_lines : List ℕ → List ℕ
next_lines [] = []
next_lines (line ∷ lines) = lines

-- what comes of a statement: its item and those of its blocks, its typed form, which counts where no rule
-- fails, the variables that are visible behind it, and the lines of the items behind it
pub record Settled : Type 0 where
  pub items : List ItemRules
  pub typed : Statement
  pub visible : List Variable
  pub lines : List ℕ

-- what comes of the statements of a block
pub record Walked : Type 0 where
  pub items : List ItemRules
  pub typed : List Statement
  pub visible : List Variable
  pub lines : List ℕ

-- from the visible variables and the lines of the items on
abbrev pub Settles : Type 0
Settles = List Variable → List ℕ → Settled

abbrev pub walk_on : Settled → Walked → Walked
walk_on first rest = record { items = first.items ++ rest.items; typed = first.typed ∷ rest.typed; visible = rest.visible; lines = rest.lines }

-- each statement in order, each where those before it declared their variables
abbrev pub walk : List Settles → List Variable → List ℕ → Walked
walk [] visible lines = record { items = []; typed = []; visible = visible; lines = lines }
walk (s ∷ ss) visible lines = walk_on (s visible lines) (walk ss (s visible lines).visible (s visible lines).lines)

-- a statement without blocks
abbrev pub plain : List ℕ → Statement → List Variable → List ℕ → Settled
plain rules typed visible lines = record { items = record { line = first_line lines; rules = rules } ∷ []; typed = typed; visible = visible; lines = next_lines lines }

-- a statement with a block, whose variables are visible in it alone
abbrev pub with_block : List ℕ → (List Statement → Statement) → List Variable → List ℕ → Walked → Settled
with_block rules typed visible lines block = record { items = record { line = first_line lines; rules = rules } ∷ block.items; typed = typed block.typed; visible = visible; lines = block.lines }

abbrev pub with_blocks : List ℕ → (List Statement → List Statement → Statement) → List Variable → List ℕ → Walked → Walked → Settled
with_blocks rules typed visible lines first second = record { items = record { line = first_line lines; rules = rules } ∷ (first.items ++ second.items); typed = typed first.typed second.typed; visible = visible; lines = second.lines }

-- the most variables that are visible at once
abbrev pub most_visible : ℕ
most_visible = 64

-- whether a name is a variable's, or a global's, array's or entity's
abbrev pub is_used : Scope → List ℕ → Bool
is_used scope x = is_some (slot_of scope.visible x) || is_among x scope.taken

abbrev pub any_used : Scope → List (List ℕ) → Bool
any_used scope [] = false
any_used scope (x ∷ xs) = is_used scope x || any_used scope xs

-- a statement declares variables
abbrev pub declared : Scope → List (List ℕ) → List ℕ
declared scope xs = unless (not (is_repeated xs || any_used scope xs)) 1 ++ unless (nat_le (length scope.visible + length xs) most_visible) 12

abbrev pub variable : List ℕ → Kind → Variable
variable x kind = record { name = x; kind = kind }

-- each name with the kind of its key
abbrev pub variables : List (List ℕ) → List KeyType → List Variable
variables [] types = []
variables (x ∷ xs) [] = variable x Int ∷ variables xs []
variables (x ∷ xs) (type ∷ types) = variable x (key_kind type) ∷ variables xs types

abbrev pub scope_of : Scope → List Variable → Scope
scope_of scope visible = record scope { visible = visible }

abbrev pub keys_of_entity : Option Entity → List KeyType
keys_of_entity None = []
keys_of_entity (Some entity) = entity.keys

abbrev pub number_or_zero : Option ℕ → ℕ
number_or_zero None = 0
number_or_zero (Some n) = n

-- where an entity is due
abbrev pub entity_rules : Option ℕ → List ℕ
entity_rules found = unless (is_some found) 2

abbrev pub creation_rules : Scope → Option ℕ → List Judged → List ℕ
creation_rules scope None keys = 2 ∷ rules_in keys
creation_rules scope (Some number) keys = key_rules (keys_of_entity (entity_at scope.schema number)) keys

abbrev pub assignment_rules : Scope → Option ℕ → Judged → List ℕ
assignment_rules scope None a = 2 ∷ a.rules
assignment_rules scope (Some slot) a = a.rules ++ unless_kind (same_kind (kind_at scope.visible slot)) 8 a

-- whether cells of values of a kind have an operation
abbrev pub has_operation : Operation → ValueKind → Bool
has_operation o.Add Number = true
has_operation o.Add Words = false
has_operation o.Set kind = true
has_operation o.SetIfEmpty Number = false
has_operation o.SetIfEmpty Words = true

-- the kind of an operation's argument
abbrev pub argument_kind : Operation → Kind → Kind
argument_kind o.Add kind = Int
argument_kind o.Set kind = kind
argument_kind o.SetIfEmpty kind = Text

abbrev pub typed_operation : Operation → TypedOperation
typed_operation o.Add = operation.Add
typed_operation o.Set = operation.Set
typed_operation o.SetIfEmpty = operation.SetIfEmpty

abbrev pub operation_rules : Scope → Option ℕ → Operation → Judged → List ℕ
operation_rules scope None op a = []
operation_rules scope (Some number) op a = unless (has_operation op (value_kind (cell_type scope.schema number))) 6 ++ unless_kind (same_kind (argument_kind op (cell_kind (cell_type scope.schema number)))) 7 a

abbrev pub update_rules : Scope → Target → Operation → Judged → List ℕ
update_rules scope t op a = t.rules ++ (a.rules ++ operation_rules scope t.property op a)

abbrev pub typed_update : ℕ → Target → Operation → Judged → Statement
typed_update line t op a = s.Update line (number_or_zero t.property) t.keys (typed_operation op) a.typed

abbrev pub entity_of_kind : Kind → Option ℕ
entity_of_kind (Id entity) = Some entity
entity_of_kind other = None

-- where a variable that holds an id is due
abbrev pub deletion_rules : Scope → Option ℕ → List ℕ
deletion_rules scope None = 2 ∷ []
deletion_rules scope (Some slot) = unless (is_some (entity_of_kind (kind_at scope.visible slot))) 7

abbrev pub typed_deletion : ℕ → Scope → Option ℕ → Statement
typed_deletion line scope None = s.Delete line 0 0
typed_deletion line scope (Some slot) = s.Delete line slot (number_or_zero (entity_of_kind (kind_at scope.visible slot)))

-- what has entries: `entries` of an entity or a global is told as such
abbrev pub entries_of_array : Scope → List (List ℕ) → Option ℕ → List ℕ
entries_of_array scope xs None = 2 ∷ []
entries_of_array scope xs (Some number) = unless (length xs == length (keys_of_property (property_at scope.schema number))) 4

abbrev pub entries_of_other : Scope → List (List ℕ) → List ℕ → List ℕ → Option ℕ → List ℕ
entries_of_other scope xs n p None = entries_of_array scope xs (property_of scope.schema (owner.Array n) p)
entries_of_other scope xs n p (Some global) = 10 ∷ []

abbrev pub entries_of : Scope → List (List ℕ) → List ℕ → List ℕ → Option ℕ → List ℕ
entries_of scope xs n p (Some entity) = unless (is_some (property_of scope.schema (owner.Entity entity) p)) 2 ++ 10 ∷ []
entries_of scope xs n p None = entries_of_other scope xs n p (property_of scope.schema owner.Global n)

abbrev pub entries_rules : Scope → List (List ℕ) → List ℕ → List ℕ → List ℕ
entries_rules scope xs n p = entries_of scope xs n p (entity_of scope.schema n)

-- a condition is a truth value
abbrev pub condition_rules : Judged → List ℕ
condition_rules a = a.rules ++ unless_kind (same_kind Truth) 9 a

abbrev pub settle_define : Scope → List ℕ → Judged → Settles
settle_define scope x a visible lines = plain (declared scope (x ∷ []) ++ a.rules) (s.Store (first_line lines) (length visible) a.typed) (visible ++ variable x a.kind ∷ []) lines

abbrev pub settle_create : Scope → List ℕ → Option ℕ → List Judged → Settles
settle_create scope x found keys visible lines = plain (declared scope (x ∷ []) ++ creation_rules scope found keys) (s.Create (first_line lines) (length visible) (number_or_zero found) (typed_keys keys)) (visible ++ variable x (Id (number_or_zero found)) ∷ []) lines

abbrev pub settle_if : List ℕ → Expression → List Settles → Option (List Settles) → Settles
settle_if rules a first None visible lines = with_block rules (λ one. s.If (first_line lines) a one None) visible lines (walk first visible (next_lines lines))
settle_if rules a first (Some second) visible lines = with_blocks rules (λ one two. s.If (first_line lines) a one (Some two)) visible lines (walk first visible (next_lines lines)) (walk second visible (walk first visible (next_lines lines)).lines)

abbrev pub settle_all : Scope → List ℕ → Option ℕ → List Settles → Settles
settle_all scope x found block visible lines = with_block (declared scope (x ∷ []) ++ entity_rules found) (s.ForAll (first_line lines) (length visible) (number_or_zero found)) visible lines (walk block (visible ++ variable x (Id (number_or_zero found)) ∷ []) (next_lines lines))

abbrev pub settle_entries : Scope → List (List ℕ) → List ℕ → List ℕ → Option ℕ → List Settles → Settles
settle_entries scope xs n p found block visible lines = with_block (declared scope xs ++ entries_rules scope xs n p) (s.ForEntries (first_line lines) (length visible) (number_or_zero found)) visible lines (walk block (visible ++ variables xs (keys_of_property (property_at scope.schema (number_or_zero found)))) (next_lines lines))

-- from what comes of the statements in the blocks of a statement. What the scope says of visible variables
-- is what is visible here
abbrev pub settle_step : Scope → Statement-F Settles → Settles
settle_step scope (Statement-F.Define x a) visible lines = settle_define (scope_of scope visible) x (judge (scope_of scope visible) a) visible lines
settle_step scope (Statement-F.Create x n keys) visible lines = settle_create (scope_of scope visible) x (entity_of scope.schema n) (map (judge (scope_of scope visible)) keys) visible lines
settle_step scope (Statement-F.Assign x a) visible lines = plain (assignment_rules (scope_of scope visible) (slot_of visible x) (judge (scope_of scope visible) a)) (s.Store (first_line lines) (number_or_zero (slot_of visible x)) (judge (scope_of scope visible) a).typed) visible lines
settle_step scope (Statement-F.Update p op a) visible lines = plain (update_rules (scope_of scope visible) (target (scope_of scope visible) (judge_place (scope_of scope visible) p)) op (judge (scope_of scope visible) a)) (typed_update (first_line lines) (target (scope_of scope visible) (judge_place (scope_of scope visible) p)) op (judge (scope_of scope visible) a)) visible lines
settle_step scope (Statement-F.Delete x) visible lines = plain (deletion_rules (scope_of scope visible) (slot_of visible x)) (typed_deletion (first_line lines) (scope_of scope visible) (slot_of visible x)) visible lines
settle_step scope (Statement-F.If a first second) visible lines = settle_if (condition_rules (judge (scope_of scope visible) a)) (judge (scope_of scope visible) a).typed first second visible lines
settle_step scope (Statement-F.While a block) visible lines = with_block (condition_rules (judge (scope_of scope visible) a)) (s.While (first_line lines) (judge (scope_of scope visible) a).typed) visible lines (walk block visible (next_lines lines))
settle_step scope (Statement-F.ForAll x n block) visible lines = settle_all (scope_of scope visible) x (entity_of scope.schema n) block visible lines
settle_step scope (Statement-F.ForEntries xs n p block) visible lines = settle_entries (scope_of scope visible) xs n p (property_of scope.schema (owner.Array n) p) block visible lines
settle_step scope (Statement-F.Print a) visible lines = plain (judge (scope_of scope visible) a).rules (s.Print (first_line lines) (judge (scope_of scope visible) a).typed) visible lines
settle_step scope Statement-F.Yield visible lines = plain [] (s.Yield (first_line lines)) visible lines
settle_step scope Statement-F.Flush visible lines = plain [] (s.Flush (first_line lines)) visible lines

abbrev pub settle : Scope → Written_statement → Settles
settle scope = fold-Statement Settles (settle_step scope)

-- the statements of a block
abbrev pub settle_block : Scope → List Written_statement → List Variable → List ℕ → Walked
settle_block scope body = walk (map (settle scope) body)
