-- What an instruction needs to find.
use Rattle.std.specs.Prelude.{◌≡◌, ◌<◌, ◌≤◌, ◌^◌, ⊤, List, length, Some, slice_get}
use Rattle.cloud_base.specs.Values.{most_clients, most_keys}
use Rattle.cloud_base.specs.declared.update.Answer.{Answer}
use Rattle.typed_program.specs.Does.{World}
use Rattle.plain_vm.specs.declared.instruction.Instruction.{Instruction}
use Rattle.plain_vm.specs.Exec.{Standing}

-- its operands are on the stack, its slot and its listing are there, and an id can be created
abbrev pub Finds : Instruction → List Answer → List Answer → World → Type 0
Finds Instruction.Begin stack listings w = ⊤
Finds (Instruction.Push literal) stack listings w = ⊤
Finds (Instruction.Load n) stack listings w = n < length w.slots
Finds (Instruction.Store n) stack listings w = (n < length w.slots) × (0 < length stack)
Finds Instruction.Negate stack listings w = 0 < length stack
Finds Instruction.Not stack listings w = 0 < length stack
Finds (Instruction.Binary binary) stack listings w = 2 ≤ length stack
Finds (Instruction.Jump to) stack listings w = ⊤
Finds (Instruction.JumpIfFalse to) stack listings w = 0 < length stack
Finds (Instruction.Get property n) stack listings w = (n ≤ most_keys) × (n ≤ length stack)
Finds Instruction.Alive stack listings w = 0 < length stack
Finds (Instruction.All entity) stack listings w = ⊤
Finds (Instruction.Entries property) stack listings w = ⊤
Finds (Instruction.Next to n) stack listings w = 0 < length listings
Finds (Instruction.Put operation property n) stack listings w = (n ≤ most_keys) × (n < length stack)
Finds (Instruction.New entity n) stack listings w = (n ≤ most_keys) × (n ≤ length stack) × (w.client < most_clients) × (w.serial < 2 ^ 32)
Finds Instruction.Delete stack listings w = 0 < length stack
Finds Instruction.Say stack listings w = 0 < length stack
Finds Instruction.Yield stack listings w = ⊤
Finds Instruction.Flush stack listings w = ⊤
Finds Instruction.End stack listings w = ⊤

-- there is an instruction at its place, and it finds what it needs
pub record FindsAt (code : List Instruction) (s : Standing) (w : World) : Type 0 where
  pub instruction : Instruction
  pub is : slice_get code s.place ≡ Some instruction
  pub finds : Finds instruction s.stack s.listings w
