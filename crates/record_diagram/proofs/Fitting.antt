-- What the steps need of a sound record: less than it is.
use Rattle.std.specs.Prelude.{◌≡◌, ◌≢◌, ℕ, ◌+◌, ◌≤◌, ◌<◌, List, [], length, take, Some, None, slice_get, ◌⊎◌}
use Rattle.std.specs.List.{AllByRecursion}
use Rattle.cloud_base.specs.Events.{EndsAtMark}
use Rattle.cloud_base.specs.declared.batch.Batch.{Batch}
use Rattle.cloud_base.specs.declared.batch.Tail.{Tail}
use Rattle.batch_history.specs.Batches.{of_client}
use Rattle.batch_history.specs.Sound.{EachFrom, FitsBehind}

-- the tail of client c. What was sent is in the record already, or is the client's next round.
pub record FittingTail (batches : List Batch) (c : ℕ) (tail : Tail) : Type 0 where
  pub sent : (b : Batch) → tail.sent ≡ Some b → ((b.round ≢ length (of_client c batches) + 1) × (of_client c batches ≢ [])) ⊎ ((b.client ≡ c) × FitsBehind batches b)
  pub based : tail.now.base ≡ None → (tail.sent ≢ None) × (tail.now.rest ≡ [])
  pub unsent : (n : ℕ) → tail.now.base ≡ Some n → tail.sent ≡ None
  pub base : (n : ℕ) → tail.now.base ≡ Some n → n ≤ length batches
  pub known : (n : ℕ) → tail.now.base ≡ Some n → of_client c (take n batches) ≡ of_client c batches
  pub before : (n : ℕ) → tail.now.base ≡ Some n → EndsAtMark tail.now.before
  pub first : (n : ℕ) → tail.now.base ≡ Some n → of_client c batches ≡ [] → tail.now.before ≡ []

pub record FittingRecord (batches : List Batch) (tails : List Tail) : Type 0 where
  pub each : EachFrom FitsBehind [] batches
  pub clients : AllByRecursion (λ (b : Batch). b.client < length tails) batches
  pub tail : (c : ℕ) (t : Tail) → slice_get tails c ≡ Some t → FittingTail batches c t
