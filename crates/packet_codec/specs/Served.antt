-- What the record of a server is, and how much of each client it may hold.
use Rattle.std.specs.Prelude.{◌≡◌, refl, ℕ, ◌==◌, ◌≤◌, ◌<◌, ◌^◌, Bool, true, false, cond}
use Rattle.std.specs.Prelude.{List, [], ◌∷◌, length}
use Rattle.std.specs.List.{AllByRecursion}
use Rattle.std.proofs.Common.{lit<, lit≤, lt→ltb}
use Rattle.std.proofs.lemmas.List.Elements.{All-nil}
use Rattle.cloud_base.specs.Answer.{answer}
use Rattle.cloud_base.specs.Shaped.{Fit, IsShaped}
use Rattle.cloud_base.specs.Values.{Id, most_clients}
use Rattle.cloud_base.specs.declared.batch.Batch.{Batch}
use Rattle.cloud_base.specs.declared.schema.Schema.{Schema}
use Rattle.cloud_base.specs.declared.update.Event.TheVariants.{Yield}
use Rattle.batch_history.specs.Batches.{of_client}
use Rattle.batch_history.specs.Right.{IsThatOf, RightBatches}
use Rattle.batch_history.specs.Sound.{FitsBehind, SoundBatches}
use Rattle.batch_joins.specs.Joins.{all_updates}

-- each batch is of one of the clients that there may be, and each of these has at most 2^32
-- rounds and made fewer than 2^28 updates in them
pub record IsWithin (batches : List Batch) : Type 0 where
  pub clients : AllByRecursion (λ (b : Batch). b.client < most_clients) batches
  pub rounds : (c : ℕ) → length (of_client c batches) ≤ 2 ^ 32
  pub updates : (c : ℕ) → length (all_updates (of_client c batches)) < 2 ^ 28

-- the record of a server of this schema: it is sound and answered right, its updates are of the
-- schema and fit together, and it holds no more than clients may do
pub record IsServed (schema : Schema) (batches : List Batch) : Type 0 where
  pub sound : SoundBatches batches
  pub right : RightBatches (IsThatOf (answer schema)) batches
  pub fits : Fit schema (all_updates batches)
  pub within : IsWithin batches

module _ where
  -- a record of nothing is one of any schema
  pub example_nothing : (schema : Schema) → IsServed schema []
  example_nothing schema = record {
    sound = record { each = tt; once = tt };
    right = tt;
    fits = record { shaped = All-nil (IsShaped schema); once = tt };
    within = record { clients = tt; rounds = λ c. lit≤ tt; updates = λ c. lit< tt };
  }

  -- a client yields, and did nothing before
  abbrev pub opening : Batch
  opening = record { client = 1; round = 1; base = 0; before = []; rest = Yield ∷ [] }

  -- so is a record of that
  pub example_opening : (schema : Schema) → IsServed schema (opening ∷ [])
  example_opening schema = record {
    sound = record {
      each = (behind, tt);
      once = tt;
    };
    right = (record { before = tt; rest = tt }, tt);
    fits = record { shaped = All-nil (IsShaped schema); once = tt };
    within = record {
      clients = (lit< tt, tt);
      rounds = λ c. elim (1 == c) as FewRounds [ true ↦ lit≤ tt | false ↦ lit≤ tt ];
      updates = λ c. elim (1 == c) as FewUpdates [ true ↦ lit< tt | false ↦ lit< tt ];
    };
  }
    where
      behind : FitsBehind [] opening
      behind = record {
        round = refl;
        base = lit≤ tt;
        known = refl;
        opens = λ e. refl;
        first = λ e. (refl, λ k. cc);
        before = tt;
        rest = tt;
        own = All-nil (λ (id : Id). id.client ≡ 1);
      }

      FewRounds : Bool → Type 0
      FewRounds b = length (cond b (opening ∷ []) []) ≤ 2 ^ 32

      FewUpdates : Bool → Type 0
      FewUpdates b = length (all_updates (cond b (opening ∷ []) [])) < 2 ^ 28

  -- and one with a batch of a ninth client is beyond the bounds
  pub example_ninth : ¬ IsWithin (record opening { client = 8 } ∷ [])
  example_ninth = λ h. lt→ltb 8 8 h.clients.0
