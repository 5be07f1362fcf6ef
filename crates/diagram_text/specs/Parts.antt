-- The parts of the steps of a record, one for each batch and one for each tail.
use Rattle.std.specs.Prelude.{◌≡◌, refl, false, ℕ, ◌+◌, List, [], ◌∷◌, ◌++◌, length, Some, None}
use Rattle.cloud_base.specs.declared.batch.Batch.{Batch}
use Rattle.cloud_base.specs.declared.batch.Tail.{Tail}
use Rattle.cloud_base.specs.declared.update.Event.TheVariants as event
use Rattle.batch_history.specs.Batches.{of_client, stretch_of, unjoined}
use Rattle.record_diagram.specs.Steps.{Drawing, Draws, forks_at, is_zero, push, run_sent, run_stretch, ◌then◌}
use Rattle.revision_diagram.specs.declared.step.Step.TheVariants.{Fork, Join, Mark}

-- a batch behind those that are joined: it runs and is pushed, and then come the forks that have it
abbrev pub batch_draws : List Batch → List Tail → List Batch → Batch → Draws
batch_draws batches tails joined b =
    run_stretch b.client (is_zero (length (of_client b.client joined))) (stretch_of b) then push b.client
    then forks_at batches (joined ++ b ∷ []) (length joined + 1) tails 0

-- what is left of a client with these batches: what was sent and isn't joined, and what ran since
abbrev pub tail_draws : List Batch → Tail → ℕ → Draws
tail_draws own tail c =
    run_sent c (is_zero (length own)) (unjoined own tail.sent)
    then run_stretch c (is_zero (length own + length (unjoined own tail.sent))) tail.now

module _ where
  abbrev first : Batch
  first = record { client = 0; round = 1; base = 0; before = []; rest = event.Yield ∷ [] }

  abbrev second : Batch
  second = record { client = 0; round = 2; base = 1; before = event.Yield ∷ []; rest = [] }

  -- nothing ran since the last push, which is outstanding
  abbrev tail : Tail
  tail = record { sent = Some second; now = record { base = None; before = []; rest = [] } }

  -- revision 1 stands, and then 2, with revision 3 received
  abbrev here : ℕ → ℕ → ℕ → Drawing
  here next standing received = record { next = next; standing = λ c. standing; received = λ c. received }

  -- the fork that has the batch comes behind it
  pub example_batch : ((batch_draws (first ∷ []) (tail ∷ []) [] first) (here 2 1 0)).0 ≡ Mark 1 false ∷ Fork 1 0 ∷ Join 0 1 ∷ Fork 0 0 ∷ []
  example_batch = refl

  -- what was sent is forked, and joined nowhere
  pub example_tail : ((tail_draws (first ∷ []) tail 0) (here 4 2 3)).0 ≡ Mark 2 false ∷ Join 3 2 ∷ Fork 3 0 ∷ []
  example_tail = refl
