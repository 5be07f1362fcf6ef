-- Which answers of a record are right, by what their client had seen.
use Rattle.std.specs.Prelude.{◌≡◌, ℕ, List, [], ◌∷◌, ◌++◌, Some, slice_get, ⊤}
use Rattle.cloud_base.specs.Events.{updates_of}
use Rattle.cloud_base.specs.declared.batch.Batch.{Batch}
use Rattle.cloud_base.specs.declared.batch.Tail.{Tail}
use Rattle.cloud_base.specs.declared.update.Answer.{Answer}
use Rattle.cloud_base.specs.declared.update.Event.{Event}
use Rattle.cloud_base.specs.declared.update.Event.TheVariants.{Do, Ask, Say, Yield, Flush}
use Rattle.cloud_base.specs.declared.update.Query.{Query}
use Rattle.cloud_base.specs.declared.update.Update.{Update}
use Rattle.batch_history.specs.Batches.{flat, of_client, last_seen, unjoined}
use Rattle.batch_history.specs.Sound.{EachFrom}

-- each query's answer is one of the updates seen so far
abbrev pub RightEvents : (List Update → Query → Answer → Type 0) → List Update → List Event → Type 0
RightEvents is_answer seen [] = ⊤
RightEvents is_answer seen (Do u ∷ events) = RightEvents is_answer (seen ++ u ∷ []) events
RightEvents is_answer seen (Ask q a ∷ events) = is_answer seen q a × RightEvents is_answer seen events
RightEvents is_answer seen (Say v ∷ events) = RightEvents is_answer seen events
RightEvents is_answer seen (Yield ∷ events) = RightEvents is_answer seen events
RightEvents is_answer seen (Flush ∷ events) = RightEvents is_answer seen events

-- Before the pull a client sees what it had seen at the end of its last batch; since the pull, what was joined
-- at the base, and what it did before.
pub record RightBehind (is_answer : List Update → Query → Answer → Type 0) (front : List Batch) (b : Batch) : Type 0 where
  pub before : RightEvents is_answer (last_seen front [] (of_client b.client front)) b.before
  pub rest : RightEvents is_answer (flat front b.base ++ updates_of b.before) b.rest

-- A batch's base is at most its place, so what it has seen stands in the batches before it.
abbrev pub RightBatches : (List Update → Query → Answer → Type 0) → List Batch → Type 0
RightBatches is_answer batches = EachFrom (RightBehind is_answer) [] batches

-- the tail of client c
pub record RightTail (is_answer : List Update → Query → Answer → Type 0) (batches : List Batch) (c : ℕ) (tail : Tail) : Type 0 where
  -- the outstanding push, where the record doesn't have it
  pub sent : (b : Batch) → unjoined (of_client c batches) tail.sent ≡ b ∷ [] → RightBehind is_answer batches b
  -- what ran since that push, until the next pull
  pub before : RightEvents is_answer (last_seen batches [] (of_client c batches ++ unjoined (of_client c batches) tail.sent)) tail.now.before
  -- what ran since that pull
  pub rest : (n : ℕ) → tail.now.base ≡ Some n → RightEvents is_answer (flat batches n ++ updates_of tail.now.before) tail.now.rest

pub record RightRecord (is_answer : List Update → Query → Answer → Type 0) (batches : List Batch) (tails : List Tail) : Type 0 where
  pub each : RightBatches is_answer batches
  pub tail : (c : ℕ) (t : Tail) → slice_get tails c ≡ Some t → RightTail is_answer batches c t

-- each answer is that of a function of the log and the query, as the schema's
abbrev pub IsThatOf : (List Update → Query → Answer) → List Update → Query → Answer → Type 0
IsThatOf answers log q a = a ≡ answers log q

abbrev pub AnsweredRight : (List Update → Query → Answer) → List Batch → List Tail → Type 0
AnsweredRight answers batches tails = RightRecord (IsThatOf answers) batches tails
