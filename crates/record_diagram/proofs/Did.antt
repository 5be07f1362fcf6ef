-- What a client did, told batch by batch.
use Rattle.std.specs.Prelude.{ℕ, ◌+◌, ◌==◌, cond, List, [], ◌∷◌, ◌++◌}
use Rattle.cloud_base.specs.declared.batch.Batch.{Batch}
use Rattle.cloud_base.specs.declared.batch.Stretch.{Stretch}
use Rattle.cloud_base.specs.declared.batch.Tail.{Tail}
use Rattle.cloud_base.specs.declared.update.Event.{Event}
use Rattle.batch_history.specs.Batches.{of_client, unjoined}

-- these events of c, if it is c that is asked for
abbrev pub told_by : ℕ → ℕ → List Event → List Event
told_by c x events = cond (c == x) events []

abbrev pub did_in : ℕ → List Batch → List Event
did_in x [] = []
did_in x (b ∷ batches) = told_by b.client x (b.before ++ b.rest) ++ did_in x batches

abbrev pub tail_events : List Batch → Stretch → List Event
tail_events [] now = now.before ++ now.rest
tail_events (b ∷ bs) now = (b.before ++ b.rest) ++ (now.before ++ now.rest)

abbrev pub did_last : List Batch → ℕ → ℕ → List Tail → List Event
did_last batches x c [] = []
did_last batches x c (tail ∷ tails) = told_by c x (tail_events (unjoined (of_client c batches) tail.sent) tail.now) ++ did_last batches x (c + 1) tails

-- the events of its batches in order, and of its tail
abbrev pub told : List Batch → List Tail → ℕ → List Event
told batches tails x = did_in x batches ++ did_last batches x 0 tails
