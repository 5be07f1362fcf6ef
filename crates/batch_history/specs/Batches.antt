-- The record of a server: its batches, in the order in which they were joined. And what a client did, told by
-- its batches and its tail.
use Rattle.std.specs.Prelude.{◌≡◌, refl, pos, ℕ, zero, suc, ◌+◌, ◌==◌, cond, List, [], ◌∷◌, ◌++◌, length, map, filter, Option, Some, None, slice_get}
use Rattle.cloud_base.specs.Events.{updates_of}
use Rattle.cloud_base.specs.declared.batch.Batch.{Batch}
use Rattle.cloud_base.specs.declared.batch.Stretch.{Stretch}
use Rattle.cloud_base.specs.declared.batch.Tail.{Tail}
use Rattle.cloud_base.specs.declared.update.CellChange.TheVariants.{Add}
use Rattle.cloud_base.specs.declared.update.Event.{Event}
use Rattle.cloud_base.specs.declared.update.Event.TheVariants.{Do, Yield, Flush}
use Rattle.cloud_base.specs.declared.update.Update.{Update}
use Rattle.cloud_base.specs.declared.update.Update.TheVariants.{Cell}

-- the updates of a batch
abbrev pub updates_in : Batch → List Update
updates_in b = updates_of b.before ++ updates_of b.rest

-- the updates of the first n batches
abbrev pub flat : List Batch → ℕ → List Update
flat [] n = []
flat (b ∷ batches) zero = []
flat (b ∷ batches) (suc n) = updates_in b ++ flat batches n

-- the batches of client c
abbrev pub of_client : ℕ → List Batch → List Batch
of_client c batches = filter (λ b. b.client == c) batches

-- what its client has seen at the end of a batch
abbrev pub seen_after : List Batch → Batch → List Update
seen_after batches b = flat batches b.base ++ updates_in b

-- what a client has seen at the end of the last of its own batches; `seen` where there is none
abbrev pub last_seen : List Batch → List Update → List Batch → List Update
last_seen batches seen [] = seen
last_seen batches seen (b ∷ own) = last_seen batches (seen_after batches b) own

-- the push that the record doesn't have, if there is one: its round comes behind those of its client's batches
abbrev pub unjoined : List Batch → Option Batch → List Batch
unjoined own None = []
unjoined own (Some b) = cond (b.round == length own + 1) (b ∷ []) []

-- what was done in a batch
abbrev pub stretch_of : Batch → Stretch
stretch_of b = record { base = Some b.base; before = b.before; rest = b.rest }

abbrev pub events_in : Stretch → List Event
events_in s = s.before ++ s.rest

-- the stretches of client c: its batches, the push that the record doesn't have, and what ran since
abbrev pub stretches : List Batch → Tail → ℕ → List Stretch
stretches batches tail c = map stretch_of (of_client c batches) ++ (map stretch_of (unjoined (of_client c batches) tail.sent) ++ tail.now ∷ [])

-- the events of stretches, in order
abbrev pub all_events : List Stretch → List Event
all_events [] = []
all_events (s ∷ more) = events_in s ++ all_events more

abbrev pub did_by : List Batch → ℕ → Option Tail → List Event
did_by batches c None = []
did_by batches c (Some tail) = all_events (stretches batches tail c)

-- what client c did
abbrev pub did : List Batch → List Tail → ℕ → List Event
did batches tails c = did_by batches c (slice_get tails c)

module _ where
  abbrev adds : ℕ → Update
  adds n = Cell 0 [] (Add (pos n))

  abbrev first : Batch
  first = record { client = 0; round = 1; base = 0; before = []; rest = Do (adds 1) ∷ Yield ∷ [] }

  abbrev other : Batch
  other = record { client = 1; round = 1; base = 0; before = []; rest = Do (adds 2) ∷ Yield ∷ [] }

  abbrev second : Batch
  second = record { client = 0; round = 2; base = 2; before = Do (adds 3) ∷ Yield ∷ []; rest = Do (adds 4) ∷ Flush ∷ [] }

  abbrev batches : List Batch
  batches = first ∷ other ∷ second ∷ []

  -- the updates before the pull come first, and a front has those of the first batches
  pub example_flat : (flat batches 2 ≡ adds 1 ∷ adds 2 ∷ []) × (flat batches 3 ≡ adds 1 ∷ adds 2 ∷ adds 3 ∷ adds 4 ∷ [])
  example_flat = (refl, refl)

  pub example_of_client : (of_client 0 batches ≡ first ∷ second ∷ []) × (of_client 2 batches ≡ [])
  example_of_client = (refl, refl)

  -- what a client has seen is what was joined at its base, and its own
  pub example_seen : (last_seen batches [] (of_client 0 batches) ≡ adds 1 ∷ adds 2 ∷ adds 3 ∷ adds 4 ∷ []) × (last_seen batches [] (of_client 1 batches) ≡ adds 2 ∷ [])
  example_seen = (refl, refl)

  abbrev tail_of : Batch → Tail
  tail_of sent = record { sent = Some sent; now = record { base = None; before = Yield ∷ []; rest = [] } }

  -- a push that was joined already counts once, and one that wasn't comes behind the batches
  pub example_did : (did (first ∷ []) (tail_of first ∷ []) 0 ≡ Do (adds 1) ∷ Yield ∷ Yield ∷ []) × (did (first ∷ []) (tail_of second ∷ []) 0 ≡ Do (adds 1) ∷ Yield ∷ Do (adds 3) ∷ Yield ∷ Do (adds 4) ∷ Flush ∷ Yield ∷ []) × (did (first ∷ []) (tail_of first ∷ []) 1 ≡ [])
  example_did = (refl, refl, refl)
