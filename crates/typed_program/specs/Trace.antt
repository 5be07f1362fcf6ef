-- What a client does for the answers that it gets.
use Rattle.std.specs.Prelude.{ℕ, zero, suc, Bool, true, false, not, List, [], ◌∷◌, map, replicate, Option, None, Some, if◌then◌else◌, ℤ, pos, ◌+ℤ◌, ◌-ℤ◌, ◌*ℤ◌, neg_ℤ, int_div, int_rem}
use Rattle.std.specs.Int.{w64, int_wrap}
use Rattle.std.specs.Ordering.{int_cmp, bool_cmp, is_eq, is_lt, is_le, is_gt, is_ge}
use Rattle.std.specs.declared.cmp.Ordering.{Ordering}
use Rattle.std.specs.declared.cmp.Ordering.TheVariants.{Equal}
use Rattle.cloud_base.specs.Values.{Id}
use Rattle.cloud_base.specs.Order.{text_order, same_id}
use Rattle.cloud_base.specs.Texts.{cat_text}
use Rattle.cloud_base.specs.Events.{Outcome, ended}
use Rattle.cloud_base.specs.declared.end.End.TheVariants.{Done, Spent, Trap}
use Rattle.cloud_base.specs.declared.key.Key.{Key}
use Rattle.cloud_base.specs.declared.key.Key.TheVariants as key
use Rattle.cloud_base.specs.declared.update.Answer.{Answer}
use Rattle.cloud_base.specs.declared.update.Answer.TheVariants as answer
use Rattle.cloud_base.specs.declared.update.CellChange.{CellChange}
use Rattle.cloud_base.specs.declared.update.CellChange.TheVariants as change
use Rattle.cloud_base.specs.declared.update.Event.{Event}
use Rattle.cloud_base.specs.declared.update.Event.TheVariants as event
use Rattle.cloud_base.specs.declared.update.Query.TheVariants as query
use Rattle.cloud_base.specs.declared.update.Update.TheVariants as update
use Rattle.typed_program.specs.Does.{World, Run, goes, ends, Does, ◌>>=◌, done, stop, tell, ask, begin, load, store, next_id, each, all}
use Rattle.typed_program.specs.declared.expression.Operator.{Operator}
use Rattle.typed_program.specs.declared.expression.Operator.TheVariants as op
use Rattle.typed_program.specs.declared.expression.Expression.{Expression}
use Rattle.typed_program.specs.declared.expression.Expression.TheFolds.{fold-Expression}
use Rattle.typed_program.specs.declared.expression.Expression.TheOpen.{Expression-F}
use Rattle.typed_program.specs.declared.statement.Operation.{Operation}
use Rattle.typed_program.specs.declared.statement.Operation.TheVariants as operation
use Rattle.typed_program.specs.declared.statement.Statement.{Statement}
use Rattle.typed_program.specs.declared.statement.Statement.TheFolds.{fold-Statement}
use Rattle.typed_program.specs.declared.statement.Statement.TheOpen.{Statement-F}

-- what a value is, where it is of the kind that is wanted
abbrev pub int_of : Answer → ℤ
int_of (answer.Int n) = n
int_of other = pos 0

abbrev pub text_of : Answer → List ℕ
text_of (answer.Text bytes) = bytes
text_of other = []

abbrev pub truth_of : Answer → Bool
truth_of (answer.Truth b) = b
truth_of other = false

abbrev pub id_of : Answer → Id
id_of (answer.Id id) = id
id_of other = record { client = 0; serial = 0 }

abbrev pub ids_of : Answer → List Id
ids_of (answer.Ids ids) = ids
ids_of other = []

abbrev pub tuples_of : Answer → List (List Key)
tuples_of (answer.Tuples tuples) = tuples
tuples_of other = []

-- the key of a value, and the value of a key
abbrev pub key_of : Answer → Key
key_of (answer.Int n) = key.Int n
key_of (answer.Text bytes) = key.Text bytes
key_of (answer.Id id) = key.Ref id
key_of other = key.Int (pos 0)

abbrev pub value_of : Key → Answer
value_of (key.Int n) = answer.Int n
value_of (key.Text bytes) = answer.Text bytes
value_of (key.Ref id) = answer.Id id

-- integers by value, texts by bytes, ids and truth values by equality
abbrev pub same_value : Answer → Answer → Bool
same_value (answer.Int a) (answer.Int b) = is_eq (int_cmp a b)
same_value (answer.Text a) (answer.Text b) = is_eq (text_order a b)
same_value (answer.Truth a) (answer.Truth b) = is_eq (bool_cmp a b)
same_value (answer.Id a) (answer.Id b) = same_id a b
same_value a b = false

-- integers by value, texts by the first differing byte
abbrev pub value_order : Answer → Answer → Ordering
value_order (answer.Int a) (answer.Int b) = int_cmp a b
value_order (answer.Text a) (answer.Text b) = text_order a b
value_order a b = Equal

-- an integer of 64 bits
abbrev pub wrapped : ℤ → Answer
wrapped n = answer.Int (int_wrap w64 n)

abbrev pub is_zero : Answer → Bool
is_zero value = is_eq (int_cmp (int_of value) (pos 0))

-- an operator on two values. A quotient is cut off toward zero, and a remainder has the sign of the
-- dividend; -2^63 / -1 is -2^63. A zero divisor ends the run
abbrev pub combine : ℕ → Operator → Answer → Answer → Does Answer
combine line op.Add a b = done (wrapped (int_of a +ℤ int_of b))
combine line op.Subtract a b = done (wrapped (int_of a -ℤ int_of b))
combine line op.Multiply a b = done (wrapped (int_of a *ℤ int_of b))
combine line op.Divide a b = if is_zero b then stop (Trap line) else done (wrapped (int_div (int_of a) (int_of b)))
combine line op.Remainder a b = if is_zero b then stop (Trap line) else done (wrapped (int_rem (int_of a) (int_of b)))
combine line op.Concat a b = done (answer.Text (cat_text (text_of a) (text_of b)))
combine line op.Equal a b = done (answer.Truth (same_value a b))
combine line op.NotEqual a b = done (answer.Truth (not (same_value a b)))
combine line op.Less a b = done (answer.Truth (is_lt (value_order a b)))
combine line op.LessOrEqual a b = done (answer.Truth (is_le (value_order a b)))
combine line op.Greater a b = done (answer.Truth (is_gt (value_order a b)))
combine line op.GreaterOrEqual a b = done (answer.Truth (is_ge (value_order a b)))

-- from what the parts of an expression do. `and` and `or` leave out the right operand where the left
-- one decides
abbrev pub value_step : ℕ → Expression-F (Does Answer) → Does Answer
value_step line (Expression-F.Int n) = done (answer.Int n)
value_step line (Expression-F.Text bytes) = done (answer.Text bytes)
value_step line (Expression-F.Truth b) = done (answer.Truth b)
value_step line (Expression-F.Slot n kind) = load n
value_step line (Expression-F.Get property keys) = each keys >>= λ values. ask (query.Get property (map key_of values))
value_step line (Expression-F.Alive n entity) = load n >>= λ value. ask (query.Alive (id_of value))
value_step line (Expression-F.Minus a) = a >>= λ value. done (wrapped (neg_ℤ (int_of value)))
value_step line (Expression-F.Not a) = a >>= λ value. done (answer.Truth (not (truth_of value)))
value_step line (Expression-F.Binary operator a b) = a >>= λ x. b >>= λ y. combine line operator x y
value_step line (Expression-F.And a b) = a >>= λ x. if truth_of x then b else done (answer.Truth false)
value_step line (Expression-F.Or a b) = a >>= λ x. if truth_of x then done (answer.Truth true) else b

-- the value of an expression in a statement of a line
abbrev pub value : ℕ → Expression → Does Answer
value line = fold-Expression (Does Answer) (value_step line)

abbrev pub change_of : Operation → Answer → CellChange
change_of operation.Add value = change.Add (int_of value)
change_of operation.Set (answer.Text bytes) = change.SetText bytes
change_of operation.Set value = change.SetInt (int_of value)
change_of operation.SetIfEmpty value = change.SetIfEmpty (text_of value)

-- a loop that begins at most so many times
abbrev pub loop : ℕ → Does Answer → Does (Unit {0}) → Does (Unit {0})
loop zero test block = stop Spent
loop (suc times) test block = begin >>= λ u. test >>= λ value. if truth_of value then (block >>= λ u. loop times test block) else done tt

-- a loop begins anew before each test: once for each turn that is left at most, and then at 0 turns
abbrev pub repeat : Does Answer → Does (Unit {0}) → Does (Unit {0})
repeat test block w = loop (suc w.turns) test block w

-- a block for each of the ids, in a slot
abbrev pub for_ids : ℕ → List Id → Does (Unit {0}) → Does (Unit {0})
for_ids n [] block = done tt
for_ids n (id ∷ ids) block = store n (answer.Id id) >>= λ u. block >>= λ u. for_ids n ids block

-- keys in a slot and those behind it
abbrev pub store_keys : ℕ → List Key → Does (Unit {0})
store_keys n [] = done tt
store_keys n (k ∷ keys) = store n (value_of k) >>= λ u. store_keys (suc n) keys

-- a block for each of the key lists
abbrev pub for_tuples : ℕ → List (List Key) → Does (Unit {0}) → Does (Unit {0})
for_tuples n [] block = done tt
for_tuples n (keys ∷ tuples) block = store_keys n keys >>= λ u. block >>= λ u. for_tuples n tuples block

abbrev pub branch : Answer → List (Does (Unit {0})) → Option (List (Does (Unit {0}))) → Does (Unit {0})
branch value first None = if truth_of value then all first else done tt
branch value first (Some second) = if truth_of value then all first else all second

-- from what the statements in the blocks of a statement do
abbrev pub statement_step : Statement-F (Does (Unit {0})) → Does (Unit {0})
statement_step (Statement-F.Store line n a) = begin >>= λ u. value line a >>= λ v. store n v
statement_step (Statement-F.Create line n entity keys) = begin >>= λ u. each (map (value line) keys) >>= λ values. next_id >>= λ id. tell (event.Do (update.Create id entity (map key_of values))) >>= λ u. store n (answer.Id id)
statement_step (Statement-F.Update line property keys operator a) = begin >>= λ u. each (map (value line) keys) >>= λ values. value line a >>= λ v. tell (event.Do (update.Cell property (map key_of values) (change_of operator v)))
statement_step (Statement-F.Delete line n entity) = begin >>= λ u. load n >>= λ v. tell (event.Do (update.Delete (id_of v)))
statement_step (Statement-F.If line a first second) = begin >>= λ u. value line a >>= λ v. branch v first second
statement_step (Statement-F.While line a block) = repeat (value line a) (all block)
statement_step (Statement-F.ForAll line n entity block) = begin >>= λ u. ask (query.All entity) >>= λ v. for_ids n (ids_of v) (all block)
statement_step (Statement-F.ForEntries line n property block) = begin >>= λ u. ask (query.Entries property) >>= λ v. for_tuples n (tuples_of v) (all block)
statement_step (Statement-F.Print line a) = begin >>= λ u. value line a >>= λ v. tell (event.Say v)
statement_step (Statement-F.Yield line) = begin >>= λ u. tell event.Yield
statement_step (Statement-F.Flush line) = begin >>= λ u. tell event.Flush

-- what a statement does
abbrev pub does : Statement → Does (Unit {0})
does = fold-Statement (Does (Unit {0})) statement_step

-- what the statements of a body do, in order
abbrev pub does_body : List Statement → Does (Unit {0})
does_body body = all (map does body)

-- the turns that a client has
abbrev pub budget : ℕ
budget = 16384

abbrev pub start : ℕ → List Answer → World
start client answers = record { client = client; turns = budget; answers = answers; slots = replicate 64 (answer.Int (pos 0)); serial = 0; events = [] }

-- a body that is gone through is done
abbrev pub come_out : Run (Unit {0}) → List Event × Outcome
come_out (goes u w) = (w.events, ended Done)
come_out (ends outcome events) = (events, outcome)

-- what a client with a body does for the answers that are given, one for each query in order, and how its
-- run comes out
abbrev pub trace : ℕ → List Statement → List Answer → List Event × Outcome
trace client body answers = come_out (does_body body (start client answers))
