-- Where a client's session stands.
use Rattle.std.specs.Prelude.{◌≡◌, ℕ, ◌≤◌, ◌<◌, ◌^◌, List, [], ◌∷◌, ◌++◌, length, map, All, ⊤, Option, Some, None, is_some, true}
use Rattle.std.specs.List.{last_or}
use Rattle.std.specs.Option.{ForSome, option_to_list}
use Rattle.cloud_base.specs.Answer.{answer}
use Rattle.cloud_base.specs.Events.{updates_of, EndsAtMark}
use Rattle.cloud_base.specs.Shaped.{CreatedOnce, IsShaped}
use Rattle.cloud_base.specs.Values.{most_clients}
use Rattle.cloud_base.specs.declared.batch.Batch.{Batch}
use Rattle.cloud_base.specs.declared.batch.Stretch.{Stretch}
use Rattle.cloud_base.specs.declared.batch.Tail.{Tail}
use Rattle.cloud_base.specs.declared.schema.Schema.{Schema}
use Rattle.cloud_base.specs.declared.update.Event.{Event}
use Rattle.cloud_base.specs.declared.update.Event.TheVariants.{Flush}
use Rattle.cloud_base.specs.declared.update.Update.{Update}
use Rattle.batch_history.specs.Batches.{updates_in, of_client, last_seen, stretch_of}
use Rattle.batch_history.specs.Flushed.{FlushedStretches}
use Rattle.batch_history.specs.Right.{IsThatOf, RightEvents}
use Rattle.batch_history.specs.Sound.{CreatedBy}
use Rattle.batch_joins.specs.Joins.{all_updates}
use Rattle.front_table.specs.TokenView.{TokenView}
use Rattle.slot_hub.specs.Runs.{Named}
use Rattle.packet_codec.specs.Pushes.{MayPush}
use Rattle.packet_codec.specs.Replies.{Replied, IsReply}
use Rattle.packet_codec.specs.Runs.{IsOfRun}
use Rattle.packet_codec.specs.Served.{IsServed}
use Rattle.session_core.specs.declared.flushing.Flushing.{Flushing}
use Rattle.session_core.specs.declared.flushing.Flushing.TheVariants.{Closed, Marked, Sent}

-- A session: its schema and its client, what it has seen of the server's record, its client's
-- batches, the outstanding one, what ran since the last push, before and after the pull of its
-- reply, a reply that was taken and isn't joined yet, and how far a flush is.
pub record Standing : Type 0 where
  pub schema : Schema
  pub client : ℕ
  pub past : TokenView Batch
  pub own : TokenView Batch
  pub sent : Option Batch
  pub before : List Event
  pub rest : List Event
  pub reply : Option Replied
  pub flush : Flushing

-- a session, and for how many more events it has room
pub record Sessioned : Type 0 where
  pub stands : Standing
  pub spare : ℕ

-- ---- what it stands for

-- the updates since the last push
abbrev pub updates_now : Standing → List Update
updates_now s = updates_of s.before ++ updates_of s.rest

-- all that its client did, in its batches and since
abbrev pub updates_done : Standing → List Update
updates_done s = all_updates s.own.list ++ updates_now s

abbrev pub updates_sent : Option Batch → List Update
updates_sent None = []
updates_sent (Some b) = updates_in b

-- what was there before the updates since the last push: what it has seen of the record, and the
-- outstanding batch
abbrev pub seen_first : Standing → List Update
seen_first s = all_updates s.past.list ++ updates_sent s.sent

-- the log that its client sees
abbrev pub seen : Standing → List Update
seen s = seen_first s ++ updates_now s

-- nothing is pulled exactly where a push is outstanding
abbrev pub base_now : Option Batch → List Batch → Option ℕ
base_now None past = Some (length past)
base_now (Some b) past = None

abbrev pub now_of : Standing → Stretch
now_of s = record { base = base_now s.sent s.past.list; before = s.before; rest = s.rest }

-- what the server's record need not have of its client
abbrev pub tail_of : Standing → Tail
tail_of s = record { sent = s.sent; now = now_of s }

-- a session is of a run where its schema and its chronicles are the run's
abbrev pub is_of_run : Standing → Named → Type 0
is_of_run s run = IsOfRun s.schema s.client s.past.chronicle s.own.chronicle run

-- ---- what each session keeps

-- of the outstanding batch
pub record IsOutstanding (schema : Schema) (c : ℕ) (past own : List Batch) (rest : List Event)
    (b : Batch) : Type 0 where
  pub client : b.client ≡ c
  -- its base is all that is seen of the record
  pub base : b.base ≡ length past
  -- it is the last of its client's
  pub round : b.round ≡ length own
  pub may : MayPush schema past own b
  -- nothing ran since a pull
  pub unpulled : rest ≡ []

-- of a reply that is kept: it answers the outstanding round, from the session's own run
pub record IsKeptReply (schema : Schema) (c : ℕ) (past own : TokenView Batch)
    (sent : Option Batch) (reply : Replied) : Type 0 where
  pub waits : is_some sent ≡ true
  pub round : reply.round ≡ length own.list
  pub client : reply.client ≡ c
  pub of_schema : reply.schema ≡ schema
  pub of_past : reply.past.chronicle ≡ past.chronicle
  pub of_own : reply.own.chronicle ≡ own.chronicle
  pub is : IsReply reply

pub record IsRunning (s : Standing) : Type 0 where
  pub client : s.client < most_clients
  -- what it has seen is a record of a server
  pub served : IsServed s.schema s.past.list
  -- its client's batches there are all of its own but the outstanding one
  pub own : s.own.list ≡ of_client s.client s.past.list ++ option_to_list s.sent
  pub sent : ForSome s.sent (IsOutstanding s.schema s.client s.past.list s.own.list s.rest)
  -- before its first push it has seen nothing, and nothing ran before a pull
  pub opens : s.own.list ≡ [] → (s.past.list ≡ []) × (s.before ≡ [])
  -- what ran before a pull is nothing or ends at a mark
  pub before : s.sent ≡ None → EndsAtMark s.before
  -- each query is answered right by the log that its client saw then
  pub right_before : RightEvents (IsThatOf (answer s.schema))
      (last_seen s.past.list [] s.own.list) s.before
  pub right_rest : RightEvents (IsThatOf (answer s.schema))
      (all_updates s.past.list ++ updates_of s.before) s.rest
  -- the updates are of the schema, the ids are its client's, and no id is created twice
  pub shaped : All (IsShaped s.schema) (updates_now s)
  pub mine : CreatedBy s.client (updates_now s)
  pub once : CreatedOnce (updates_done s)
  -- and it hasn't done more than a client may
  pub few : length (updates_done s) < 2 ^ 28
  pub rounds : length s.own.list ≤ 2 ^ 32
  pub reply : ForSome s.reply (IsKeptReply s.schema s.client s.past s.own s.sent)

-- an open flush's mark is the last event of what ran, or of the outstanding batch
abbrev pub IsMarked : List Event → Type 0
IsMarked events = last_or None events ≡ Some Flush

pub record IsSent (s : Standing) : Type 0 where
  pub batch : Batch
  pub sent : s.sent ≡ Some batch
  pub marked : IsMarked (batch.before ++ batch.rest)
  pub before : s.before ≡ []
  pub rest : s.rest ≡ []

abbrev pub IsFlushing : Standing → Flushing → Type 0
IsFlushing s Closed = ⊤
IsFlushing s Marked = IsMarked (s.before ++ s.rest)
IsFlushing s Sent = IsSent s

-- a stretch that began with a pull
abbrev pub received : Stretch
received = record { base = Some 0; before = []; rest = [] }

-- what comes behind the batches, once an open flush is met
abbrev pub met : Standing → Flushing → List Stretch
met s Closed = now_of s ∷ []
met s Marked = now_of s ∷ received ∷ []
met s Sent = received ∷ []

pub record IsStanding (s : Standing) : Type 0 where
  pub running : IsRunning s
  pub flush : IsFlushing s s.flush
  -- each flush but an open one was met before its client went on
  pub flushed : FlushedStretches (map stretch_of s.own.list ++ met s s.flush)
