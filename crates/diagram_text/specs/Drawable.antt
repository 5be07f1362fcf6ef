-- What is asked of a record that is drawn.
use Rattle.std.specs.Prelude.{ℕ, ◌≤◌, ◌<◌, ◌^◌, List, [], ◌∷◌, length, replicate, Some, None}
use Rattle.std.proofs.Common.{lit<, lit≤, le→leb, lt→ltb}
use Rattle.std.specs.List.{AllByRecursion}
use Rattle.cloud_base.specs.Values.{most_clients}
use Rattle.cloud_base.specs.declared.batch.Batch.{Batch}
use Rattle.cloud_base.specs.declared.batch.Tail.{Tail}
use Rattle.diagram_text.specs.declared.history.Record.{Record}

-- so few clients and batches that revisions are numbers of 32 bits, and each batch of one of the clients
pub record IsDrawable (history : Record) : Type 0 where
  pub few_clients : length history.tails ≤ most_clients
  pub few_batches : length history.batches < 2 ^ 30
  pub clients : AllByRecursion (λ (b : Batch). b.client < length history.tails) history.batches

module _ where
  abbrev tail : Tail
  tail = record { sent = None; now = record { base = Some 0; before = []; rest = [] } }

  abbrev of : List Batch → ℕ → Record
  of batches clients = record { batches = batches; tails = replicate clients tail; ends = [] }

  abbrev second : Batch
  second = record { client = 1; round = 1; base = 0; before = []; rest = [] }

  -- a batch of the second of two clients
  pub example_drawable : IsDrawable (of (second ∷ []) 2)
  example_drawable = record { few_clients = lit≤ tt; few_batches = lit< tt; clients = (lit< tt, tt) }

  -- nine clients, and a batch of a client that isn't there
  pub example_not_drawable : (¬ IsDrawable (of [] 9)) × ¬ IsDrawable (of (second ∷ []) 1)
  example_not_drawable = (λ h. le→leb 9 8 h.few_clients, λ h. lt→ltb 1 1 h.clients.0)
