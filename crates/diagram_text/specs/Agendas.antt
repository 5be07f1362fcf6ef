-- What comes next of each client, where some batches are joined.
use Rattle.std.specs.Prelude.{◌≡◌, refl, ℕ, ◌<◌, List, [], ◌∷◌, length, Option, Some, None, slice_get, slice_index_or}
use Rattle.cloud_base.specs.declared.batch.Batch.{Batch}
use Rattle.cloud_base.specs.declared.batch.Tail.{Tail}
use Rattle.batch_history.specs.Batches.{of_client}
use Rattle.record_diagram.specs.Steps.{next_base}
use Rattle.diagram_text.specs.declared.agenda.Agenda.{Agenda}

abbrev pub count_at : Agenda → ℕ → ℕ
count_at agenda c = slice_index_or agenda.joined c 0

abbrev pub base_at : Agenda → ℕ → Option ℕ
base_at agenda c = slice_index_or agenda.bases c None

-- of each client it has the number of its batches that are joined, and the base of its next stretch
pub record IsAgenda (batches : List Batch) (tails : List Tail) (joined : List Batch) (agenda : Agenda) : Type 0 where
  pub counts : (c : ℕ) → c < length tails → count_at agenda c ≡ length (of_client c joined)
  pub bases : (c : ℕ) (tail : Tail) → slice_get tails c ≡ Some tail → base_at agenda c ≡ next_base batches joined tail c

module _ where
  abbrev agenda : Agenda
  agenda = record { joined = 1 ∷ 0 ∷ []; bases = Some 1 ∷ Some 0 ∷ [] }

  -- one batch of client 0 is joined, and its next stretch has base 1; client 1's first stretch has base 0
  pub example_agenda : (count_at agenda 0 ≡ 1) × (base_at agenda 0 ≡ Some 1) × (count_at agenda 1 ≡ 0) × (base_at agenda 1 ≡ Some 0) × (base_at agenda 2 ≡ None)
  example_agenda = (refl, refl, refl, refl, refl)
