-- What each call of a session does.
use Rattle.std.specs.Prelude.{◌≡◌, ◌≢◌, ℕ, ◌+◌, ◌<◌, ◌^◌, List, [], ◌∷◌, ◌++◌, length, Option, Some, None, is_some, Bool, true, false}
use mathlib.Core.List.{IsPrefix}
use Rattle.cloud_base.specs.Answer.{answer}
use Rattle.cloud_base.specs.Events.{updates_of, EndsAtMark}
use Rattle.cloud_base.specs.Shaped.{CreatedOnce}
use Rattle.cloud_base.specs.declared.batch.Batch.{Batch}
use Rattle.cloud_base.specs.declared.schema.Schema.{Schema}
use Rattle.cloud_base.specs.declared.update.Event.{Event}
use Rattle.cloud_base.specs.declared.update.Event.TheVariants.{Flush}
use Rattle.cloud_base.specs.declared.update.Update.{Update}
use Rattle.cloud_base.specs.declared.update.Query.{Query}
use Rattle.cloud_base.specs.declared.update.Query.TheVariants.{Get, All as AllOf, Entries, Alive}
use Rattle.batch_history.specs.Right.{IsThatOf, RightEvents}
use Rattle.batch_history.specs.Sound.{CreatedBy}
use Rattle.front_table.specs.TokenView.{TokenView}
use Rattle.session_core.specs.declared.flushing.Flushing.{Flushing}
use Rattle.session_core.specs.declared.flushing.Flushing.TheVariants.{Closed, Marked, Sent}
use Rattle.session_core.specs.Standings.{Standing, updates_done, seen}

-- ---- events

-- an event comes last of what ran since a pull, or of what runs before the next one
abbrev pub noted_before : Bool → List Event → Event → List Event
noted_before true before event = before ++ event ∷ []
noted_before false before event = before

abbrev pub noted_rest : Bool → List Event → Event → List Event
noted_rest true rest event = rest
noted_rest false rest event = rest ++ event ∷ []

abbrev pub noted_at : Flushing → Event → Standing → Standing
noted_at flush event s = record s {
  before = noted_before (is_some s.sent) s.before event;
  rest = noted_rest (is_some s.sent) s.rest event;
  flush = flush;
}

-- a session with one event more
abbrev pub noted : Event → Standing → Standing
noted event s = noted_at s.flush event s

-- an update that its client may do: its ids are the client's and new, and there is room for it
pub record MayDo (s : Standing) (update : Update) : Type 0 where
  pub mine : CreatedBy s.client (update ∷ [])
  pub once : CreatedOnce (updates_done s ++ update ∷ [])
  pub few : length (updates_done s) + 1 < 2 ^ 28

-- an event that is no update and no flush, whose answer is right if it is a query
pub record IsQuiet (s : Standing) (event : Event) : Type 0 where
  pub right : RightEvents (IsThatOf (answer s.schema)) (seen s) (event ∷ [])
  pub updates : updates_of (event ∷ []) ≡ []
  pub unmarked : event ≢ Flush

-- a query that is answered without memory
abbrev pub IsOne : Query → Type 0
IsOne (Get property keys) = Unit {0}
IsOne (AllOf entity) = ⊥
IsOne (Entries property) = ⊥
IsOne (Alive id) = Unit {0}

-- a session that was just opened
pub record IsOpened (of : Schema) (c : ℕ) (front : TokenView Batch) (s : Standing) : Type 0 where
  pub schema : s.schema ≡ of
  pub client : s.client ≡ c
  pub past : s.past ≡ front
  pub own : s.own.list ≡ []
  pub sent : s.sent ≡ None
  pub before : s.before ≡ []
  pub rest : s.rest ≡ []
  pub reply : s.reply ≡ None
  pub flush : s.flush ≡ Closed

-- ---- meetings

-- a flush is over when its round's reply is taken, and its round is the first that becomes
-- outstanding behind its mark
abbrev pub flush_after_pull : Flushing → Flushing
flush_after_pull Closed = Closed
flush_after_pull Marked = Marked
flush_after_pull Sent = Closed

abbrev pub flush_after_push : Flushing → Flushing
flush_after_push Closed = Closed
flush_after_push Marked = Sent
flush_after_push Sent = Sent

-- a session that took a reply: it has seen the reply's past, and goes on from there
abbrev pub took : TokenView Batch → Standing → Standing
took past s = record s { past = past; sent = None; reply = None; flush = flush_after_pull s.flush }

-- a session that may push: fewer than 2^32 rounds were pushed, what ran since a pull is nothing or
-- ends at a mark, and something ran before the first round
pub record MayBegin (s : Standing) : Type 0 where
  pub rounds : length s.own.list < 2 ^ 32
  pub marks : EndsAtMark s.rest
  pub opens : s.own.list ≡ [] → s.rest ≢ []

-- the batch of what ran since the last push
abbrev pub next_batch : Standing → Batch
next_batch s = record {
  client = s.client;
  round = length s.own.list + 1;
  base = length s.past.list;
  before = s.before;
  rest = s.rest;
}

-- a session whose next round is outstanding
abbrev pub begun : Standing → Standing
begun s = record s {
  own = record { chronicle = s.own.chronicle; list = s.own.list ++ next_batch s ∷ [] };
  sent = Some (next_batch s);
  before = [];
  rest = [];
  flush = flush_after_push s.flush;
}

-- a session whose last or next round is outstanding
abbrev pub sends_at : Option Batch → Standing → Standing
sends_at None s = begun s
sends_at (Some b) s = s

abbrev pub sends : Standing → Standing
sends s = sends_at s.sent s

-- a session later on: of the same client and schema, with all that its client did, behind what it
-- had seen of the record and the batches that it had
pub record IsLater (old new : Standing) : Type 0 where
  pub schema : new.schema ≡ old.schema
  pub client : new.client ≡ old.client
  pub done : updates_done new ≡ updates_done old
  pub past : IsPrefix old.past.list new.past.list
  pub own : IsPrefix old.own.list new.own.list
