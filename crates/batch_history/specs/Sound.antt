-- What a record must be: its batches, the tails of its clients and their ends.
use Rattle.std.specs.Prelude.{◌≡◌, ◌≢◌, ◌↔◌, ℕ, ◌+◌, ◌≤◌, ◌<◌, List, [], ◌∷◌, ◌++◌, length, take, Some, None, slice_get, All, ⊤, ◌⊎◌}
use Rattle.std.specs.List.{last_or, AllByRecursion}
use Rattle.cloud_base.specs.Events.{updates_of, EndsAtMark}
use Rattle.cloud_base.specs.Log.{created}
use Rattle.cloud_base.specs.Shaped.{CreatedOnce}
use Rattle.cloud_base.specs.Values.{Id}
use Rattle.cloud_base.specs.declared.batch.Batch.{Batch}
use Rattle.cloud_base.specs.declared.batch.Tail.{Tail}
use Rattle.cloud_base.specs.declared.end.End.{End}
use Rattle.cloud_base.specs.declared.update.Update.{Update}
use Rattle.batch_history.specs.Batches.{updates_in, flat, of_client, unjoined}

-- P at each, told those before it
abbrev pub EachFrom : {A : Type 0} → (List A → A → Type 0) → List A → List A → Type 0
EachFrom P front [] = ⊤
EachFrom P front (x ∷ rest) = P front x × EachFrom P (front ++ x ∷ []) rest

-- the ids that updates create are of client c
abbrev pub CreatedBy : ℕ → List Update → Type 0
CreatedBy c updates = All (λ (id : Id). id.client ≡ c) (created updates)

-- a batch behind those before it
pub record FitsBehind (front : List Batch) (b : Batch) : Type 0 where
  -- a client's rounds are 1, 2 and so on
  pub round : b.round ≡ length (of_client b.client front) + 1
  -- its base is at most its place
  pub base : b.base ≤ length front
  -- all its client's batches so far are below its base
  pub known : of_client b.client (take b.base front) ≡ of_client b.client front
  -- a client's first batch has base 0
  pub opens : b.round ≡ 1 → b.base ≡ 0
  -- and there nothing ran before a pull, and something ran
  pub first : b.round ≡ 1 → (b.before ≡ []) × (b.rest ≢ [])
  -- what ran before the pull is nothing or ends at a mark
  pub before : EndsAtMark b.before
  -- and so is what ran since
  pub rest : EndsAtMark b.rest
  -- the ids that it creates are its client's
  pub own : CreatedBy b.client (updates_in b)

pub record SoundBatches (batches : List Batch) : Type 0 where
  -- each batch fits behind those before it
  pub each : EachFrom FitsBehind [] batches
  -- no id is created twice
  pub once : CreatedOnce (flat batches (length batches))

-- the tail of client c, behind all batches
pub record SoundTail (batches : List Batch) (c : ℕ) (tail : Tail) : Type 0 where
  -- the outstanding push is the client's last batch, or its next one
  pub sent : (b : Batch) → tail.sent ≡ Some b → (last_or None (of_client c batches) ≡ Some b) ⊎ ((b.client ≡ c) × FitsBehind batches b)
  -- nothing is pulled exactly where a push is outstanding
  pub waits : tail.now.base ≡ None ↔ tail.sent ≢ None
  -- and then nothing ran since a pull
  pub unpulled : tail.now.base ≡ None → tail.now.rest ≡ []
  -- what was pulled is at most the whole record
  pub base : (n : ℕ) → tail.now.base ≡ Some n → n ≤ length batches
  -- and has all the client's batches
  pub known : (n : ℕ) → tail.now.base ≡ Some n → of_client c (take n batches) ≡ of_client c batches
  -- a client without a batch has base 0
  pub opens : (n : ℕ) → tail.now.base ≡ Some n → of_client c batches ≡ [] → n ≡ 0
  -- and there nothing ran before a pull
  pub first : (n : ℕ) → tail.now.base ≡ Some n → of_client c batches ≡ [] → tail.now.before ≡ []
  -- what ran before a pull is nothing or ends at a mark
  pub before : (n : ℕ) → tail.now.base ≡ Some n → EndsAtMark tail.now.before
  -- the ids that it creates are its client's
  pub own : CreatedBy c (updates_of tail.now.before ++ updates_of tail.now.rest)

-- the updates of a push that isn't joined
abbrev pub updates_sent : List Batch → List Update
updates_sent [] = []
updates_sent (b ∷ more) = updates_in b ++ updates_sent more

-- the updates of these tails that the record doesn't have, from client c on
abbrev pub updates_left : List Batch → ℕ → List Tail → List Update
updates_left batches c [] = []
updates_left batches c (tail ∷ tails) = updates_sent (unjoined (of_client c batches) tail.sent) ++ (updates_of tail.now.before ++ updates_of tail.now.rest) ++ updates_left batches (c + 1) tails

pub record SoundRecord (batches : List Batch) (tails : List Tail) (ends : List End) : Type 0 where
  -- there is one end for each tail
  pub count : length ends ≡ length tails
  -- each batch is of a client that has a tail
  pub clients : AllByRecursion (λ (b : Batch). b.client < length tails) batches
  -- each batch fits behind those before it
  pub each : EachFrom FitsBehind [] batches
  -- each tail fits behind all batches
  pub tail : (c : ℕ) (t : Tail) → slice_get tails c ≡ Some t → SoundTail batches c t
  -- no id is created twice
  pub once : CreatedOnce (flat batches (length batches) ++ updates_left batches 0 tails)
