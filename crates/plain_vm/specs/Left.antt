-- How much is left to do before a machine asks, tells or ends.
use Rattle.std.specs.Prelude.{◌≡◌, ℕ, suc, ◌+◌, ◌*◌, ◌-◌, ◌<◌, ⊤, List, [], ◌∷◌, length, Option, None, Some, slice_get}
use Rattle.cloud_base.specs.declared.update.Answer.{Answer}
use Rattle.cloud_base.specs.declared.update.Event.{Event}
use Rattle.typed_program.specs.Does.{World, Run, goes, ends, listed}
use Rattle.plain_vm.specs.declared.instruction.Instruction.{Instruction}
use Rattle.plain_vm.specs.Exec.{Standing}

-- how many listings are open, and how many items are left in them
abbrev pub open_items : List Answer → ℕ
open_items [] = 0
open_items (listing ∷ listings) = suc (listed listing + open_items listings)

-- none from the head of a loop
abbrev pub unless_head : Option Instruction → ℕ → ℕ
unless_head (Some Instruction.Begin) n = 0
unless_head (Some (Instruction.Next to parts)) n = 0
unless_head other n = n

-- how far it is from a place to the end
abbrev pub distance : List Instruction → ℕ → ℕ
distance code place = unless_head (slice_get code place) (length code - place)

-- first the turns and the open items, then the distance
abbrev pub left_to_do : List Instruction → Standing → World → ℕ
left_to_do code standing w = (w.turns + open_items standing.listings) * suc (length code) + distance code standing.place

-- where it goes on and nothing was told or asked, less is left
abbrev pub Falls : List Instruction → List Event → ℕ → Run (Option Standing) → Type 0
Falls code events n (goes None w) = ⊤
Falls code events n (goes (Some standing) w) = w.events ≡ events → left_to_do code standing w < n
Falls code events n (ends outcome told) = ⊤
