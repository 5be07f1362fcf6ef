-- A record of few batches of each client has few batches.
use Rattle.std.proofs.Common.{ap, ℕ, zero, suc, ◌+◌, ◌*◌, ◌<◌, ◌≤◌, List, [], ◌∷◌, length, inl, inr, arith}
use Rattle.std.specs.List.{AllByRecursion}
use Rattle.std.proofs.lemmas.Bool.{cases_eq}
use Rattle.cloud_base.specs.declared.batch.Batch.{Batch}
use Rattle.batch_history.specs.Batches.{of_client}
use Rattle.batch_history.proofs.Clients.{of_client-here, of_client-else}

-- how many batches there are of the first n clients
abbrev batches_below : ℕ → List Batch → ℕ
batches_below zero batches = 0
batches_below (suc n) batches = length (of_client n batches) + batches_below n batches

below_most : (n most : ℕ) (batches : List Batch) → ((c : ℕ) → c < n → length (of_client c batches) ≤ most)
    → batches_below n batches ≤ n * most
below_most zero most batches each = omega arith
below_most (suc n) most batches each =
    let here = each n (omega arith) in
    let rest = below_most n most batches (λ c l. each c (omega arith)) in
    omega arith

-- one batch more is of one of them
of_client_more : (c : ℕ) (b : Batch) (batches : List Batch) → length (of_client c batches) ≤ length (of_client c (b ∷ batches))
of_client_more c b batches = elim (cases_eq b.client c) [
  | inl e ↦ omega (arith, ap (λ (bs : List Batch). length bs) (of_client-here c b batches e))
  | inr other ↦ omega (arith, ap (λ (bs : List Batch). length bs) (of_client-else c b batches other))
]

below_more : (n : ℕ) (b : Batch) (batches : List Batch) → batches_below n batches ≤ batches_below n (b ∷ batches)
below_more zero b batches = omega arith
below_more (suc n) b batches = omega (arith, of_client_more n b batches, below_more n b batches)

below_one : (n : ℕ) (b : Batch) (batches : List Batch) → b.client < n
    → batches_below n batches + 1 ≤ batches_below n (b ∷ batches)
below_one zero b batches l = absurd (omega arith)
below_one (suc n) b batches l = elim (cases_eq b.client n) [
  | inl e ↦ omega (arith, ap (λ (bs : List Batch). length bs) (of_client-here n b batches e), below_more n b batches)
  | inr other ↦ omega (arith, of_client_more n b batches, below_one n b batches (omega (arith, other)))
]

all_below : (n : ℕ) (batches : List Batch) → AllByRecursion (λ (b : Batch). b.client < n) batches
    → length batches ≤ batches_below n batches
all_below n [] all = omega arith
all_below n (b ∷ batches) all = omega (arith, below_one n b batches all.0, all_below n batches all.1)

pub record_small : (n most : ℕ) (batches : List Batch) → AllByRecursion (λ (b : Batch). b.client < n) batches
    → ((c : ℕ) → c < n → length (of_client c batches) ≤ most) → length batches ≤ n * most
record_small n most batches all each = omega (arith, all_below n batches all, below_most n most batches each)
