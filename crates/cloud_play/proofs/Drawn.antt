-- The record of a run can be drawn.
use Rattle.std.proofs.Common.{◌≡◌, arith}
use Rattle.std.specs.Prelude.{ℕ, ◌*◌, ◌<◌, ◌≤◌, ◌^◌, List, length}
use Rattle.std.specs.List.{AllByRecursion}
use Rattle.cloud_base.specs.Values.{most_clients}
use Rattle.cloud_base.specs.declared.batch.Batch.{Batch}
use Rattle.cloud_base.specs.declared.batch.Tail.{Tail}
use Rattle.cloud_base.specs.declared.end.End.{End}
use Rattle.batch_history.specs.Batches.{of_client}
use Rattle.typed_program.specs.Trace.{budget}
use Rattle.diagram_text.specs.Drawable.{IsDrawable}

few_clients : (a b : ℕ) → b ≡ a → a ≤ most_clients → b ≤ most_clients
few_clients a b same few = omega arith

few_batches : (n b : ℕ) → n ≤ most_clients → b ≤ n * budget → b < 2 ^ 30
few_batches n b few less = omega arith

pub drawable : (batches : List Batch) (tails : List Tail) (ends : List End) (clients : ℕ) → length tails ≡ clients → clients ≤ most_clients
    → AllByRecursion (λ (b : Batch). b.client < length tails) batches → ((c : ℕ) → c < length tails → length (of_client c batches) ≤ budget)
    → ((n most : ℕ) (b : List Batch) → AllByRecursion (λ (x : Batch). x.client < n) b → ((c : ℕ) → c < n → length (of_client c b) ≤ most) → length b ≤ n * most)
    → IsDrawable (record { batches = batches; tails = tails; ends = ends })
drawable batches tails ends clients same few of each small =
    let few' : length tails ≤ most_clients = few_clients clients (length tails) same few in
    record {
      few_clients = few';
      few_batches = few_batches (length tails) (length batches) few' (small (length tails) budget batches of each);
      clients = of;
    }
