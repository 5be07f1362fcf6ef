-- Worked records.
use Rattle.std.specs.Prelude.{◌≡◌, refl, pos, true, false, ℕ, List, [], ◌∷◌, Some, None}
use Rattle.cloud_base.specs.declared.batch.Batch.{Batch}
use Rattle.cloud_base.specs.declared.batch.Tail.{Tail}
use Rattle.cloud_base.specs.declared.update.Answer.TheVariants.{Int}
use Rattle.cloud_base.specs.declared.update.CellChange.TheVariants.{Add}
use Rattle.cloud_base.specs.declared.update.Event.{Event}
use Rattle.cloud_base.specs.declared.update.Event.TheVariants as event
use Rattle.cloud_base.specs.declared.update.Query.TheVariants.{Get}
use Rattle.cloud_base.specs.declared.update.Update.{Update}
use Rattle.cloud_base.specs.declared.update.Update.TheVariants.{Cell}
use Rattle.batch_history.specs.Sound.{SoundTail}
use Rattle.record_diagram.specs.Steps.{steps_of}
use Rattle.revision_diagram.specs.declared.step.Step.TheVariants.{Fork, Join, Do, Ask, Mark}

abbrev add : Update
add = Cell 0 [] (Add (pos 1))

abbrev batch : ℕ → ℕ → ℕ → List Event → List Event → Batch
batch client round base before rest = record { client = client; round = round; base = base; before = before; rest = rest }

abbrev at_end : ℕ → List Event → Tail
at_end base rest = record { sent = None; now = record { base = Some base; before = []; rest = rest } }

-- the second client pushes, then the first one, and the second pulls what both pushed: docs/REPORT.md
pub example_two_clients : steps_of
    (batch 1 1 0 [] (event.Yield ∷ []) ∷ batch 0 1 0 [] (event.Do add ∷ event.Flush ∷ []) ∷ batch 1 2 2 (event.Flush ∷ []) [] ∷ [])
    (at_end 2 [] ∷ at_end 3 (event.Ask (Get 0 []) (Int (pos 1)) ∷ []) ∷ [])
    ≡ Fork 0 0 ∷ Fork 0 1 ∷ Mark 2 false ∷ Fork 2 1 ∷ Join 0 2
    ∷ Do 1 add ∷ Mark 1 true ∷ Fork 1 0 ∷ Join 0 1 ∷ Fork 0 0 ∷ Fork 0 1
    ∷ Mark 3 true ∷ Join 6 3 ∷ Fork 6 1 ∷ Join 0 6 ∷ Fork 0 1
    ∷ Join 5 4 ∷ Join 8 7 ∷ Ask 8 (Get 0 []) (Int (pos 1)) ∷ []
example_two_clients = refl

-- a tail that was pulled although its push is outstanding isn't sound
pub example_pulled_too_soon : SoundTail [] 0 (record { sent = Some (batch 0 1 0 [] (event.Yield ∷ [])); now = record { base = Some 0; before = []; rest = [] } }) → ⊥
example_pulled_too_soon h = let waits : Some 0 ≡ None = h.waits.1 (λ e. absurd (cc e)) in absurd (cc waits)
