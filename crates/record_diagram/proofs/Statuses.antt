-- Where each client is, told by the record, when some of its batches are joined.
use Rattle.record_diagram.specs.Steps.{next_base}
use Rattle.batch_history.specs.Batches.{flat, last_seen, of_client}
use Rattle.cloud_base.specs.declared.batch.Batch.{Batch}
use Rattle.cloud_base.specs.declared.batch.Tail.{Tail}
use Rattle.cloud_base.specs.declared.update.Answer.{Answer}
use Rattle.cloud_base.specs.declared.update.Query.{Query}
use Rattle.cloud_base.specs.declared.update.Update.{Update}
use Rattle.record_diagram.proofs.Invariant.{Drawn, Status, idle, stands}
use Rattle.record_diagram.specs.Steps.{Drawing, Draws}
use Rattle.revision_diagram.specs.declared.step.Step.{Step}
use Rattle.std.specs.Prelude.{List, None, Option, Some, [], cond, false, nat_lt, slice_get, true, ℕ, ◌++◌, ◌∷◌}

-- WHAT A DRAW DOES: from where the server logs this and the clients are there, to where they are then
abbrev pub Leads : (List Update → Query → Answer → Type 0) → Draws → List Update → (ℕ → Status) → List Update → (ℕ → Status) → Type 0
Leads is_answer draw joined status joined_then status_then = (front : List Step) (d : Drawing) → Drawn is_answer front d joined status → Drawn is_answer (front ++ (draw d).0) (draw d).1 joined_then status_then

-- what is received for a client of this next base, once the forks of bases below m are made
abbrev pub waiting : List Batch → ℕ → Option ℕ → Option (List Update)
waiting joined m (Some n) = cond (nat_lt n m) (Some (flat joined n)) None
waiting joined m None = None

abbrev pub opening : List Batch → ℕ → Option ℕ → Status
opening joined m (Some n) = cond (nat_lt n m) (stands (flat joined n) [] None false) idle
opening joined m None = idle

-- of a client whose batches so far are these
abbrev pub status_by : List Batch → ℕ → List Batch → Option ℕ → Status
status_by joined m [] base = opening joined m base
status_by joined m (b ∷ own) base = stands (last_seen joined [] (b ∷ own)) [] (waiting joined m base) true

abbrev pub status_of : List Batch → List Batch → ℕ → ℕ → Option Tail → Status
status_of batches joined m c (Some tail) = status_by joined m (of_client c joined) (next_base batches joined tail c)
status_of batches joined m c None = idle

-- with these batches joined, and the forks of bases below m made
abbrev pub status_at : List Batch → List Tail → List Batch → ℕ → ℕ → Status
status_at batches tails joined m c = status_of batches joined m c (slice_get tails c)
