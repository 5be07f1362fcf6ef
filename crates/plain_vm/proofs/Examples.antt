-- Worked examples of codes.
use Rattle.std.proofs.Common.{◌≡◌, refl}
use Rattle.std.specs.Prelude.{pos, negsuc, List, [], ◌∷◌, codes}
use Rattle.std.specs.Int.{int_wrap}
use Rattle.std.specs.Fmt.{digits}
use Rattle.cloud_base.specs.Events.{ended, asks}
use Rattle.cloud_base.specs.declared.end.End.TheVariants.{Done, Trap}
use Rattle.cloud_base.specs.declared.key.Key.TheVariants as key
use Rattle.cloud_base.specs.declared.update.Answer.TheVariants as answer
use Rattle.cloud_base.specs.declared.update.CellChange.TheVariants as change
use Rattle.cloud_base.specs.declared.update.Event.{Event}
use Rattle.cloud_base.specs.declared.update.Event.TheVariants as event
use Rattle.cloud_base.specs.declared.update.Query.TheVariants as query
use Rattle.cloud_base.specs.declared.update.Update.TheVariants as update
use Rattle.typed_program.specs.declared.statement.Operation.TheVariants as operation
use Rattle.typed_program.specs.Does.{ends}
use Rattle.plain_vm.specs.declared.instruction.Literal.TheVariants as literal
use Rattle.plain_vm.specs.declared.instruction.Binary.TheVariants as binary
use Rattle.plain_vm.specs.declared.instruction.Instruction.{Instruction}
use Rattle.plain_vm.specs.declared.instruction.Instruction.TheVariants as i
use Rattle.plain_vm.specs.Exec.{run}
use Rattle.plain_vm.specs.Listing.{listing, instruction_text}

-- `g.add(2); print g; yield; print g;`
abbrev adds_and_prints : List Instruction
adds_and_prints = i.Begin ∷ i.Push (literal.Int (pos 2)) ∷ i.Put operation.Add 0 0 ∷ i.Begin ∷ i.Get 0 0 ∷ i.Say ∷ i.Begin ∷ i.Yield ∷ i.Begin ∷ i.Get 0 0 ∷ i.Say ∷ i.End ∷ []

pub example_listing : listing adds_and_prints ≡ codes "0 begin\n1 push 2\n2 put.add 0 0\n3 begin\n4 get 0 0\n5 say\n6 begin\n7 yield\n8 begin\n9 get 0 0\n10 say\n11 end\n"
unfolding digits
example_listing = refl

pub example_texts : (instruction_text (i.Push (literal.Text (97 ∷ 34 ∷ 92 ∷ []))) ≡ codes "push \"a\\\"\\\\\"") × (instruction_text (i.Push (literal.Int (negsuc 2))) ≡ codes "push -3")
    × (instruction_text (i.Binary (binary.Divide 4)) ≡ codes "div 4") × (instruction_text (i.Next 12 1) ≡ codes "next 12 1") × (instruction_text (i.Put operation.SetIfEmpty 3 2) ≡ codes "put.empty 3 2")
unfolding digits
example_texts = (refl, refl, refl, refl, refl)

abbrev added : Event
added = event.Do (update.Cell 0 [] (change.Add (pos 2)))

abbrev asked : Event
asked = event.Ask (query.Get 0 []) (answer.Int (pos 2))

pub example_run : run adds_and_prints 12 0 (answer.Int (pos 2) ∷ answer.Int (pos 2) ∷ [])
    ≡ ends (ended Done) (added ∷ asked ∷ event.Say (answer.Int (pos 2)) ∷ event.Yield ∷ asked ∷ event.Say (answer.Int (pos 2)) ∷ [])
example_run = refl

-- no answer is left
pub example_waits : run adds_and_prints 12 0 [] ≡ ends (asks (query.Get 0 [])) (added ∷ [])
example_waits = refl

-- the second value is the topmost, so this is 7 - 2; and a zero divisor ends the run
pub example_operands : (run (i.Push (literal.Int (pos 7)) ∷ i.Push (literal.Int (pos 2)) ∷ i.Binary binary.Subtract ∷ i.Say ∷ i.End ∷ []) 5 0 [] ≡ ends (ended Done) (event.Say (answer.Int (pos 5)) ∷ []))
    × (run (i.Push (literal.Int (pos 7)) ∷ i.Push (literal.Int (pos 0)) ∷ i.Binary (binary.Divide 4) ∷ i.Say ∷ i.End ∷ []) 5 0 [] ≡ ends (ended (Trap 4)) [])
unfolding int_wrap
example_operands = (refl, refl)

-- an item of two keys is pushed in order, and stored from the last to the first
pub example_listed : run (i.Entries 3 ∷ i.Next 6 2 ∷ i.Store 1 ∷ i.Say ∷ i.Load 1 ∷ i.Jump 1 ∷ i.End ∷ []) 9 0 (answer.Tuples ((key.Int (pos 4) ∷ key.Text (97 ∷ []) ∷ []) ∷ []) ∷ [])
    ≡ ends (ended Done) (event.Ask (query.Entries 3) (answer.Tuples ((key.Int (pos 4) ∷ key.Text (97 ∷ []) ∷ []) ∷ [])) ∷ event.Say (answer.Int (pos 4)) ∷ [])
example_listed = refl
