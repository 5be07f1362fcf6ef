-- Of which run a client's packet is, and its session.
use Rattle.std.specs.Prelude.{◌≡◌, refl, ℕ, ◌+◌, [], ◌∷◌, Option, Some, None, slice_get}
use Rattle.std.proofs.Common.{ap}
use Rattle.std.proofs.Math.Nat.{suc-ne-zero}
use Rattle.atomic_table.specs.Seated.{TableId}
use Rattle.cloud_base.specs.declared.schema.Schema.{Schema}
use Rattle.slot_hub.specs.Runs.{Named, nowhere}
use Rattle.packet_codec.specs.Pushes.{Pushed, nothing, first_push}
use Rattle.packet_codec.specs.Replies.{Replied}

-- what client c has is of a run: its schema is the run's, its front of the record is one of the
-- server's chronicle, and its own batches are those of its own chronicle
pub record IsOfRun (sent : Schema) (c : ℕ) (past own : TableId) (run : Named) : Type 0 where
  pub schema : sent ≡ run.schema
  pub server : slice_get run.tables 0 ≡ Some past
  pub client : slice_get run.tables (c + 1) ≡ Some own

abbrev pub push_of_run : Pushed → Named → Type 0
push_of_run push run =
    IsOfRun push.schema push.batch.client push.past.chronicle push.own.chronicle run

abbrev pub reply_of_run : Replied → Named → Type 0
reply_of_run reply run =
    IsOfRun reply.schema reply.client reply.past.chronicle reply.own.chronicle run

module _ where
  abbrev table_of : ℕ → TableId
  table_of words = record nowhere { words = words }

  -- a run of two clients
  abbrev pair : Named
  pair = record { schema = nothing; tables = table_of 0 ∷ table_of 1 ∷ table_of 2 ∷ [] }

  -- a push of the second client has its own batches in the last of the chronicles
  pub example_run : push_of_run (first_push (table_of 0) (table_of 2)) pair
  example_run = record { schema = refl; server = refl; client = refl }

  -- and not in the server's
  pub example_other_run : ¬ push_of_run (first_push (table_of 0) (table_of 0)) pair
  example_other_run = λ h. suc-ne-zero 1 (ap words_in h.client)
    where
      words_in : Option TableId → ℕ
      words_in None = 0
      words_in (Some table) = table.words
