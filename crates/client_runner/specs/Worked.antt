-- What a code needs, worked.
use Rattle.std.specs.Prelude.{◌≡◌, refl, ℕ, zero, suc, ◌≤◌, pos, List, [], ◌∷◌, Option, length}
use Rattle.std.proofs.Common.{ap, ◌∙◌, subst, lit≤, le→leb}
use Rattle.cloud_base.specs.declared.end.End.TheVariants.{Done}
use Rattle.cloud_base.specs.declared.update.Answer.TheVariants.{Int}
use Rattle.cloud_base.specs.declared.update.Event.{Event}
use Rattle.cloud_base.specs.declared.update.Event.TheVariants as event
use Rattle.cloud_base.specs.declared.update.Query.TheVariants.{Get}
use Rattle.typed_program.specs.Does.{Run, goes, ends}
use Rattle.plain_vm.specs.declared.instruction.Instruction.{Instruction}
use Rattle.plain_vm.specs.declared.instruction.Instruction.TheVariants as i
use Rattle.plain_vm.specs.declared.instruction.Literal.TheVariants as literal
use Rattle.plain_vm.specs.Exec.{Standing, run}
use Rattle.code_machine.specs.declared.need.Need.TheVariants as need
use Rattle.client_runner.specs.Needs.{IsNext, Needed}

-- `get 0 0`, `say`, `end`: asks a global, and prints it
abbrev asks_and_prints : List Instruction
asks_and_prints = i.Get 0 0 ∷ i.Say ∷ i.End ∷ []

abbrev asked : Event
asked = event.Ask (Get 0 []) (Int (pos 7))

abbrev said : Event
said = event.Say (Int (pos 7))

-- behind nothing it needs the answer, behind that the print of just this answer, and then it ends
pub example_needs : IsNext asks_and_prints 3 [] (need.Ask (Get 0 [])) ×
    IsNext asks_and_prints 3 (asked ∷ []) (need.Say (Int (pos 7))) ×
    IsNext asks_and_prints 3 (asked ∷ said ∷ []) (need.Ended Done)
example_needs = (
  record { count = 1; comes_out = refl },
  record { count = 2; standing = _; world = _; goes_on = refl; events_are = refl },
  record { count = 3; comes_out = refl },
)

-- so these are its needs so far
pub example_needed : Needed asks_and_prints 3 (asked ∷ said ∷ [])
example_needed = record { count = 2; standing = _; world = _; goes_on = refl; events_are = refl }

abbrev events_so_far : Run (Option Standing) → ℕ
events_so_far (goes standing w) = length w.events
events_so_far (ends outcome events) = 0

-- and a code that prints once doesn't print twice
pub example_twice : ¬ Needed asks_and_prints 3 (asked ∷ said ∷ said ∷ [])
example_twice h =
    not_three (subst (λ (k : ℕ). k ≤ 2) (ap events_so_far h.goes_on ∙ ap length h.events_are) (few h.count))
  where
    few : (n : ℕ) → events_so_far (run asks_and_prints n 3 (Int (pos 7) ∷ [])) ≤ 2
    few zero = lit≤ tt
    few (suc zero) = lit≤ tt
    few (suc (suc zero)) = lit≤ tt
    few (suc (suc (suc n))) = lit≤ tt

    not_three : ¬ (3 ≤ 2)
    not_three k = le→leb 3 2 k
