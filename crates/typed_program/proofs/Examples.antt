-- Worked examples of traces.
use Rattle.std.proofs.Common.{◌≡◌, refl}
use Rattle.std.specs.Prelude.{ℕ, pos, negsuc, true, false, List, [], ◌∷◌, None, Some}
use Rattle.std.specs.Int.{int_wrap}
use Rattle.cloud_base.specs.Values.{Id}
use Rattle.cloud_base.specs.Texts.{cat_text}
use Rattle.cloud_base.specs.Events.{Outcome, ended, asks}
use Rattle.cloud_base.specs.declared.end.End.TheVariants.{Done, Spent, Trap}
use Rattle.cloud_base.specs.declared.key.Key.TheVariants as key
use Rattle.cloud_base.specs.declared.update.Answer.{Answer}
use Rattle.cloud_base.specs.declared.update.Answer.TheVariants as answer
use Rattle.cloud_base.specs.declared.update.CellChange.TheVariants as change
use Rattle.cloud_base.specs.declared.update.Event.{Event}
use Rattle.cloud_base.specs.declared.update.Event.TheVariants as event
use Rattle.cloud_base.specs.declared.update.Query.TheVariants as query
use Rattle.cloud_base.specs.declared.update.Update.TheVariants as update
use Rattle.typed_program.specs.declared.expression.Kind.TheVariants as kind
use Rattle.typed_program.specs.declared.expression.Operator.TheVariants as op
use Rattle.typed_program.specs.declared.expression.Expression.{Expression}
use Rattle.typed_program.specs.declared.expression.Expression.TheVariants as e
use Rattle.typed_program.specs.declared.statement.Operation.TheVariants as operation
use Rattle.typed_program.specs.declared.statement.Statement.{Statement}
use Rattle.typed_program.specs.declared.statement.Statement.TheVariants as s
use Rattle.typed_program.specs.Does.{goes}
use Rattle.typed_program.specs.Trace.{does_body, trace, start, come_out, combine}
use Rattle.typed_program.proofs.Equations.{equations}

abbrev zero_int : Expression
zero_int = e.Int (pos 0)

-- a variable that is stored, read, and stored again
pub example_store : trace 2 (s.Store 1 0 (e.Int (pos 7)) ∷ s.Store 2 0 (e.Binary op.Add (e.Slot 0 kind.Int) (e.Int (pos 1))) ∷ s.Print 3 (e.Slot 0 kind.Int) ∷ []) [] ≡ (event.Say (answer.Int (pos 8)) ∷ [], ended Done)
unfolding int_wrap
example_store = simp equations

abbrev made : ℕ → Id
made n = record { client = 2; serial = n }

-- the first creation and the second one, which has the first as its key, and a deletion
pub example_create : trace 2 (s.Create 1 0 3 [] ∷ s.Create 2 1 4 (e.Slot 0 (kind.Id 3) ∷ []) ∷ s.Delete 3 0 3 ∷ s.Print 4 (e.Slot 1 (kind.Id 4)) ∷ []) []
    ≡ (event.Do (update.Create (made 0) 3 []) ∷ event.Do (update.Create (made 1) 4 (key.Ref (made 0) ∷ [])) ∷ event.Do (update.Delete (made 0)) ∷ event.Say (answer.Id (made 1)) ∷ [], ended Done)
example_create = simp equations

-- an update evaluates its keys and then its argument
pub example_update : trace 2 (s.Update 1 5 (e.Get 0 [] ∷ []) operation.Add (e.Get 1 []) ∷ []) (answer.Int (pos 7) ∷ answer.Int (pos 1) ∷ [])
    ≡ (event.Ask (query.Get 0 []) (answer.Int (pos 7)) ∷ event.Ask (query.Get 1 []) (answer.Int (pos 1)) ∷ event.Do (update.Cell 5 (key.Int (pos 7) ∷ []) (change.Add (pos 1))) ∷ [], ended Done)
example_update = simp equations

pub example_changes : trace 2 (s.Update 1 0 [] operation.Set (e.Text (97 ∷ [])) ∷ s.Update 2 0 [] operation.SetIfEmpty (e.Text []) ∷ s.Update 3 1 [] operation.Set (e.Int (negsuc 0)) ∷ []) []
    ≡ (event.Do (update.Cell 0 [] (change.SetText (97 ∷ []))) ∷ event.Do (update.Cell 0 [] (change.SetIfEmpty [])) ∷ event.Do (update.Cell 1 [] (change.SetInt (negsuc 0))) ∷ [], ended Done)
example_changes = simp equations

-- both branches, and none
pub example_if : trace 2 (s.If 1 (e.Truth true) (s.Yield 2 ∷ []) (Some (s.Flush 3 ∷ [])) ∷ s.If 4 (e.Truth false) (s.Yield 5 ∷ []) (Some (s.Flush 6 ∷ [])) ∷ s.If 7 (e.Truth false) (s.Yield 8 ∷ []) None ∷ []) []
    ≡ (event.Yield ∷ event.Flush ∷ [], ended Done)
example_if = simp equations

-- the ids of an entity, as they were when the listing was asked for
pub example_for_all : trace 2 (s.ForAll 1 0 3 (s.Delete 2 0 3 ∷ []) ∷ []) (answer.Ids (made 4 ∷ made 7 ∷ []) ∷ [])
    ≡ (event.Ask (query.All 3) (answer.Ids (made 4 ∷ made 7 ∷ [])) ∷ event.Do (update.Delete (made 4)) ∷ event.Do (update.Delete (made 7)) ∷ [], ended Done)
example_for_all = simp equations

-- the key lists of a property, a key in each slot
pub example_for_entries : trace 2 (s.ForEntries 1 0 3 (s.Print 2 (e.Slot 1 kind.Text) ∷ s.Print 3 (e.Slot 0 kind.Int) ∷ []) ∷ []) (answer.Tuples ((key.Int (pos 4) ∷ key.Text (97 ∷ []) ∷ []) ∷ []) ∷ [])
    ≡ (event.Ask (query.Entries 3) (answer.Tuples ((key.Int (pos 4) ∷ key.Text (97 ∷ []) ∷ []) ∷ [])) ∷ event.Say (answer.Text (97 ∷ [])) ∷ event.Say (answer.Int (pos 4)) ∷ [], ended Done)
example_for_entries = simp equations

-- a query for which no answer is left
pub example_asks : trace 2 (s.Yield 1 ∷ s.Print 2 (e.Get 0 (e.Int (pos 7) ∷ [])) ∷ []) [] ≡ (event.Yield ∷ [], asks (query.Get 0 (key.Int (pos 7) ∷ [])))
example_asks = simp equations

-- quotients are cut off toward zero, remainders have the sign of the dividend, and the quotient that is
-- too great wraps
pub example_divide : trace 2 (s.Print 1 (e.Binary op.Divide (e.Int (pos 7)) (e.Int (negsuc 1))) ∷ s.Print 1 (e.Binary op.Remainder (e.Int (pos 7)) (e.Int (negsuc 1))) ∷ s.Print 1 (e.Binary op.Remainder (e.Int (negsuc 6)) (e.Int (pos 2))) ∷ []) []
    ≡ (event.Say (answer.Int (negsuc 2)) ∷ event.Say (answer.Int (pos 1)) ∷ event.Say (answer.Int (negsuc 0)) ∷ [], ended Done)
unfolding int_wrap
example_divide = simp equations

pub example_greatest : (combine 1 op.Divide (answer.Int (negsuc 9223372036854775807)) (answer.Int (negsuc 0)) (start 2 []) ≡ goes (answer.Int (negsuc 9223372036854775807)) (start 2 []))
    × (combine 1 op.Remainder (answer.Int (negsuc 9223372036854775807)) (answer.Int (negsuc 0)) (start 2 []) ≡ goes (answer.Int (pos 0)) (start 2 []))
    × (combine 1 op.Add (answer.Int (pos 9223372036854775807)) (answer.Int (pos 1)) (start 2 []) ≡ goes (answer.Int (negsuc 9223372036854775807)) (start 2 []))
unfolding int_wrap
example_greatest = (refl, refl, refl)

-- a zero divisor ends the run with the line of the statement, after what was asked before
pub example_traps : (trace 2 (s.Yield 8 ∷ s.Print 9 (e.Binary op.Divide (e.Get 0 []) zero_int) ∷ s.Yield 10 ∷ []) (answer.Int (pos 5) ∷ []) ≡ (event.Yield ∷ event.Ask (query.Get 0 []) (answer.Int (pos 5)) ∷ [], ended (Trap 9)))
    × (trace 2 (s.Print 9 (e.Binary op.Remainder zero_int zero_int) ∷ []) [] ≡ ([], ended (Trap 9)))
example_traps = (simp equations, simp equations)

-- `and` and `or` leave out the right operand where the left one decides
pub example_and_or : (trace 2 (s.Print 1 (e.And (e.Truth false) (e.Alive 0 3)) ∷ s.Print 2 (e.Or (e.Truth true) (e.Alive 0 3)) ∷ []) [] ≡ (event.Say (answer.Truth false) ∷ event.Say (answer.Truth true) ∷ [], ended Done))
    × (trace 2 (s.Create 1 0 3 [] ∷ s.Print 2 (e.And (e.Truth true) (e.Alive 0 3)) ∷ []) [] ≡ (event.Do (update.Create (made 0) 3 []) ∷ [], asks (query.Alive (made 0))))
example_and_or = (simp equations, simp equations)

-- texts by the first differing byte, and put together
pub example_texts : trace 2 (s.Print 1 (e.Binary op.Less (e.Text (97 ∷ [])) (e.Text (97 ∷ 98 ∷ []))) ∷ s.Print 2 (e.Binary op.Concat (e.Text (97 ∷ [])) (e.Text (98 ∷ []))) ∷ s.Print 3 (e.Not (e.Binary op.Equal (e.Text []) (e.Text (97 ∷ [])))) ∷ s.Print 4 (e.Minus (e.Int (pos 3))) ∷ []) []
    ≡ (event.Say (answer.Truth true) ∷ event.Say (answer.Text (97 ∷ 98 ∷ [])) ∷ event.Say (answer.Truth true) ∷ event.Say (answer.Int (negsuc 2)) ∷ [], ended Done)
unfolding int_wrap cat_text
example_texts = simp equations

-- a body with so many turns
abbrev with_turns : ℕ → List Statement → List Answer → List Event × Outcome
with_turns turns body answers = come_out (does_body body (record (start 2 answers) { turns = turns }))

-- a loop that counts to two: a turn for each test and each statement of its block
pub example_while : with_turns 9 (s.Store 1 0 zero_int ∷ s.While 2 (e.Binary op.Less (e.Slot 0 kind.Int) (e.Int (pos 2))) (s.Print 3 (e.Slot 0 kind.Int) ∷ s.Store 4 0 (e.Binary op.Add (e.Slot 0 kind.Int) (e.Int (pos 1))) ∷ []) ∷ s.Yield 5 ∷ []) []
    ≡ (event.Say (answer.Int (pos 0)) ∷ event.Say (answer.Int (pos 1)) ∷ event.Yield ∷ [], ended Done)
unfolding int_wrap
example_while = simp equations

-- a loop whose fifth statement finds no turn
pub example_spent : with_turns 4 (s.While 1 (e.Truth true) (s.Yield 2 ∷ []) ∷ []) [] ≡ (event.Yield ∷ event.Yield ∷ [], ended Spent)
example_spent = simp equations

-- a statement that began at the last turn gets its answer, and the next one doesn't begin
pub example_last_turn : with_turns 1 (s.Print 1 (e.Get 0 []) ∷ s.Yield 2 ∷ []) (answer.Int (pos 5) ∷ []) ≡ (event.Ask (query.Get 0 []) (answer.Int (pos 5)) ∷ event.Say (answer.Int (pos 5)) ∷ [], ended Spent)
example_last_turn = simp equations

-- a listing of two takes three turns
pub example_listing : (with_turns 5 (s.ForAll 1 0 3 [] ∷ s.Yield 2 ∷ s.Yield 3 ∷ []) (answer.Ids (made 4 ∷ made 7 ∷ []) ∷ []) ≡ (event.Ask (query.All 3) (answer.Ids (made 4 ∷ made 7 ∷ [])) ∷ event.Yield ∷ [], ended Spent))
    × (with_turns 2 (s.ForAll 1 0 3 [] ∷ []) (answer.Ids (made 4 ∷ made 7 ∷ []) ∷ []) ≡ (event.Ask (query.All 3) (answer.Ids (made 4 ∷ made 7 ∷ [])) ∷ [], ended Done))
example_listing = (simp equations, simp equations)
