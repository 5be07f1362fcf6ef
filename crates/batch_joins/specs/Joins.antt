-- What a push tells of its batch, by what its client had seen of the record.
use Rattle.std.specs.Prelude.{◌≡◌, ◌≢◌, refl, ◌+◌, ◌≤◌, List, [], ◌∷◌, ◌++◌, length, take}
use Rattle.std.proofs.Common.{arith, lit≤}
use Rattle.std.proofs.lemmas.List.Elements.{All-nil}
use Rattle.std.specs.List.{AllByRecursion}
use Rattle.cloud_base.specs.Events.{EndsAtMark}
use Rattle.cloud_base.specs.Shaped.{CreatedOnce}
use Rattle.cloud_base.specs.Values.{Id}
use Rattle.cloud_base.specs.declared.batch.Batch.{Batch}
use Rattle.cloud_base.specs.declared.update.Answer.{Answer}
use Rattle.cloud_base.specs.declared.update.Event.TheVariants.{Yield}
use Rattle.cloud_base.specs.declared.update.Query.{Query}
use Rattle.cloud_base.specs.declared.update.Update.{Update}
use Rattle.batch_history.specs.Batches.{updates_in, flat, of_client}
use Rattle.batch_history.specs.Sound.{EachFrom, CreatedBy}
use Rattle.batch_history.specs.Right.{RightBehind}

-- the updates of all batches
abbrev pub all_updates : List Batch → List Update
all_updates batches = flat batches (length batches)

-- a batch behind those of its client before it, whatever other clients did
pub record FitsAlone (own : List Batch) (b : Batch) : Type 0 where
  -- a client's rounds are 1, 2 and so on
  pub round : b.round ≡ length own + 1
  -- its first batch has base 0
  pub opens : b.round ≡ 1 → b.base ≡ 0
  -- and there nothing ran before a pull, and something ran
  pub first : b.round ≡ 1 → (b.before ≡ []) × (b.rest ≢ [])
  -- what ran before the pull is nothing or ends at a mark
  pub before : EndsAtMark b.before
  -- and so is what ran since
  pub rest : EndsAtMark b.rest
  -- the ids that it creates are its client's
  pub mine : CreatedBy b.client (updates_in b)

-- a push's batch, by a front `past` of the record and by its client's batches up to it, `own`
pub record Follows (past own : List Batch) (b : Batch) : Type 0 where
  -- its base is a place of the front
  pub base : b.base ≤ length past
  -- its client's batches below the base are all of its own but this one, which is the last
  pub last : own ≡ of_client b.client (take b.base past) ++ b ∷ []
  -- each of its own fits behind those before
  pub each : EachFrom FitsAlone [] own
  -- and they create no id twice
  pub once : CreatedOnce (all_updates own)

-- each of a client's own batches is answered right behind the front that it had seen
abbrev pub RightOwn : (List Update → Query → Answer → Type 0) → List Batch → List Batch → Type 0
RightOwn is_answer past own = AllByRecursion (λ (b : Batch). RightBehind is_answer (take b.base past) b) own

module _ where
  abbrev opening : Batch
  opening = record { client = 1; round = 1; base = 0; before = []; rest = Yield ∷ [] }

  abbrev later : Batch
  later = record { client = 1; round = 2; base = 1; before = []; rest = [] }

  -- a second round follows the first, of which its client knows
  pub example_follows : Follows (opening ∷ []) (opening ∷ later ∷ []) later
  example_follows = record {
    base = lit≤ tt;
    last = refl;
    each = (
      record { round = refl; opens = λ e. refl; first = λ e. (refl, λ k. cc); before = tt; rest = tt; mine = none },
      (record { round = refl; opens = λ e. absurd (omega arith); first = λ e. absurd (omega arith); before = tt; rest = tt; mine = none }, tt),
    );
    once = tt;
  }
    where
      none : CreatedBy 1 []
      none = All-nil (λ (id : Id). id.client ≡ 1)

  -- and doesn't where its base is below that
  pub example_forgotten : ¬ Follows (opening ∷ []) (opening ∷ later ∷ []) (record { client = 1; round = 2; base = 0; before = []; rest = [] })
  example_forgotten = λ h. cc (h.last)

  -- one whose client's first batch isn't its first round follows nothing
  pub example_no_first : (past own : List Batch) → ¬ Follows (later ∷ past) (later ∷ own) (record { client = 1; round = 2; base = 1; before = []; rest = [] })
  example_no_first past own h = let round : 2 ≡ 1 = h.each.0.round in absurd (omega arith)
