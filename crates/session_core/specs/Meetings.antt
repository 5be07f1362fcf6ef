-- What a session does where it meets the server.
use Rattle.std.specs.Prelude.{◌≡◌, ◌≢◌, ℕ, ◌⊎◌, List, ◌++◌, Option, Some, None, is_some, Bool, true, false, Result, Ok, Err, Contains}
use Rattle.std.specs.Option.{ForSome, option_map}
use mathlib.Core.List.{IsPrefix}
use Rattle.cloud_base.specs.declared.batch.Batch.{Batch}
use Rattle.cloud_base.specs.declared.update.Event.TheVariants.{Yield}
use Rattle.batch_history.specs.Batches.{of_client}
use Rattle.batch_joins.specs.Joins.{all_updates}
use Rattle.schema_fj.specs.Held.{Held}
use Rattle.schema_fj.specs.States.{StateStands}
use Rattle.slot_hub.specs.Boxes.{Seen}
use Rattle.slot_hub.specs.Trades.{Keeps, TradesOut, TradesIn}
use Rattle.slot_hub.specs.declared.traits.Busy.{Busy}
use Rattle.packet_codec.specs.Pushes.{Pushed, IsPush}
use Rattle.packet_codec.specs.Replies.{Replied, IsReply}
use Rattle.packet_codec.specs.Runs.{push_of_run, reply_of_run}
use Rattle.session_core.specs.declared.flushing.Flushing.TheVariants.{Closed}
use Rattle.session_core.specs.declared.inbox.Ready.{Ready}
use Rattle.session_core.specs.declared.turns.Half.{Half}
use Rattle.session_core.specs.declared.turns.Half.TheVariants as half
use Rattle.session_core.specs.declared.turns.Pull.{Pull}
use Rattle.session_core.specs.declared.turns.Pull.TheVariants as pull
use Rattle.session_core.specs.declared.turns.PushOut.{PushOut}
use Rattle.session_core.specs.declared.turns.PushOut.TheVariants as out
use Rattle.session_core.specs.declared.turns.Turn.{Turn}
use Rattle.session_core.specs.declared.turns.Turn.TheVariants as turn
use Rattle.session_core.specs.declared.turns.Yielded.{Yielded}
use Rattle.session_core.specs.Standings.{Standing, IsKeptReply, IsMarked, updates_now}
use Rattle.session_core.specs.Sessions.{noted, took, sends}

-- the outstanding round
abbrev pub round_sent : Option Batch → Option ℕ
round_sent sent = option_map (λ b. b.round) sent

-- the push of the outstanding round, by all that the session has seen and all its client's batches
pub record IsPushOf (s : Standing) (push : Pushed) : Type 0 where
  pub batch : s.sent ≡ Some push.batch
  pub client : push.batch.client ≡ s.client
  pub of_schema : push.schema ≡ s.schema
  pub past : push.past ≡ s.past
  pub own : push.own ≡ s.own
  pub is : IsPush push

-- a session without the reply that was taken from it
abbrev pub without_reply : Option Replied → Standing → Standing
without_reply None s = s
without_reply (Some reply) s = record s { reply = None }

-- a session that goes on from a reply: that tells of all that it had seen and of all its batches
pub record JoinsReply (reply : Replied) (old new : Standing) : Type 0 where
  pub goes_on : new ≡ took reply.past old
  pub longer : IsPrefix old.past.list reply.past.list
  pub holds : of_client old.client reply.past.list ≡ old.own.list
  pub own : reply.own.list ≡ old.own.list

-- or stays as it is, where there is none
abbrev pub Joins : Option Replied → Standing → Standing → Type 0
Joins None old new = new ≡ old
Joins (Some reply) old new = JoinsReply reply old new

-- the state that goes on from a reply's record, with what ran since the last push
pub record IsRejoined (s : Standing) (reply : Replied) (state : Held) : Type 0 where
  pub state_is : StateStands s.schema state (all_updates reply.past.list) (updates_now s)
  pub longer : IsPrefix s.past.list reply.past.list
  pub holds : of_client s.client reply.past.list ≡ s.own.list
  pub own : reply.own.list ≡ s.own.list

-- two fronts of one list
pub record OfOneList (xs ys : List Batch) : Type 0 where
  pub whole : List Batch
  pub first : IsPrefix xs whole
  pub second : IsPrefix ys whole

-- a reply that is ready to be joined
pub record IsReady (s : Standing) (ready : Ready) : Type 0 where
  pub kept : IsKeptReply s.schema s.client s.past s.own s.sent ready.reply
  pub rejoined : IsRejoined s ready.reply ready.state

abbrev pub reply_of : Option Ready → Option Replied
reply_of ready = option_map (λ r. r.reply) ready

module _ {S : Type 0} where
  -- the client takes out what lies in its inbox
  abbrev pub LooksIn : ℕ → Result (Option Replied) (Busy (Option Replied))
      → Seen S Pushed Replied → Seen S Pushed Replied → Type 0
  LooksIn c result hub hub' = TradesIn (λ (r : Replied). r.client)
      (λ (r : Replied). r.round) reply_of_run c None result hub hub'

  -- the client puts a push into its outbox
  abbrev pub PutsOut : ℕ → Pushed → Result (Option Pushed) (Busy (Option Pushed))
      → Seen S Pushed Replied → Seen S Pushed Replied → Type 0
  PutsOut c push result hub hub' = TradesOut (λ (p : Pushed). p.batch.client) push_of_run c
      (Some push) result hub hub'

  -- no call of a session changes a hub's run, moves the server, or takes from another's inbox
  pub record Leaves (c : ℕ) (old new : Seen S Pushed Replied) : Type 0 where
    pub keeps : Keeps old new
    pub took : new.took ≡ old.took
    pub others : (k : ℕ) → k ≢ c → new.taken k ≡ old.taken k

  -- ---- the pull

  -- the reply to a round came out of the inbox
  pub record Finds (c round : ℕ) (got : Option Replied)
      (hub hub' : Seen S Pushed Replied) : Type 0 where
    pub reply : Replied
    pub got_is : got ≡ Some reply
    pub answers : reply.round ≡ round
    pub is : IsReply reply
    pub looks : LooksIn c (Ok (Some reply)) hub hub'

  -- nothing came out of it, or the reply to another round, which is dropped
  pub record FindsNothing (c round taken : ℕ) (got : Option Replied)
      (hub hub' : Seen S Pushed Replied) : Type 0 where
    pub got_is : got ≡ None
    pub found : Option Replied
    pub other : ForSome found (λ (r : Replied). r.round ≢ round)
    pub looks : LooksIn c (Ok found) hub hub'
    pub taken_is : taken ≡ hub'.taken c

  -- another port held it
  pub record FindsBusy (c holder : ℕ) (got : Option Replied)
      (hub hub' : Seen S Pushed Replied) : Type 0 where
    pub got_is : got ≡ None
    pub busy : Busy (Option Replied)
    pub holder_is : holder ≡ busy.holder
    pub looks : LooksIn c (Err busy) hub hub'

  abbrev pub FindsFor : ℕ → ℕ → Pull → Option Replied → Seen S Pushed Replied
      → Seen S Pushed Replied → Type 0
  FindsFor c round pull.Idle got hub hub' = ⊥
  FindsFor c round (pull.Took number) got hub hub' = (number ≡ round) × Finds c round got hub hub'
  FindsFor c round (pull.Nothing taken) got hub hub' = FindsNothing c round taken got hub hub'
  FindsFor c round (pull.Busy holder) got hub hub' = FindsBusy c holder got hub hub'

  -- Where no push is outstanding a session looks for no reply. A reply that it keeps is taken
  -- without a look into the inbox.
  abbrev pub Fetches : ℕ → Option Batch → Option Replied → Pull → Option Replied
      → Seen S Pushed Replied → Seen S Pushed Replied → Type 0
  Fetches c None kept result got hub hub' = (result ≡ pull.Idle) × (got ≡ None) × (hub' ≡ hub)
  Fetches c (Some b) (Some kept) result got hub hub' = (result ≡ pull.Took b.round) ×
      (got ≡ Some kept) × (hub' ≡ hub)
  Fetches c (Some b) None result got hub hub' = FindsFor c b.round result got hub hub'

  -- what was fetched is ready to be joined
  pub record Readies (old new : Standing) (result : Pull) (ready : Option Ready)
      (hub hub' : Seen S Pushed Replied) : Type 0 where
    pub fetches : Fetches old.client old.sent old.reply result (reply_of ready) hub hub'
    pub left : new ≡ without_reply (reply_of ready) old
    pub each : ForSome ready (IsReady new)

  -- a pull: what was fetched is joined
  pub record Pulls (old new : Standing) (result : Pull)
      (hub hub' : Seen S Pushed Replied) : Type 0 where
    pub got : Option Replied
    pub fetches : Fetches old.client old.sent old.reply result got hub hub'
    pub joins : Joins got old new

  -- ---- the push

  -- it lies in the outbox
  pub record IsPut (push : Pushed) (round : ℕ) (hub hub' : Seen S Pushed Replied) : Type 0 where
    pub number : round ≡ push.batch.round
    pub found : Option Pushed
    pub puts : PutsOut push.batch.client push (Ok found) hub hub'

  -- another port held the outbox
  pub record IsKeptOut (push : Pushed) (holder : ℕ)
      (hub hub' : Seen S Pushed Replied) : Type 0 where
    pub busy : Busy (Option Pushed)
    pub holder_is : holder ≡ busy.holder
    pub puts : PutsOut push.batch.client push (Err busy) hub hub'

  abbrev pub HandsOut : Pushed → Bool → PushOut → Seen S Pushed Replied → Seen S Pushed Replied
      → Type 0
  HandsOut push again (out.New round) hub hub' = (again ≡ false) × IsPut push round hub hub'
  HandsOut push again (out.Again round) hub hub' = (again ≡ true) × IsPut push round hub hub'
  HandsOut push again (out.Busy holder) hub hub' = IsKeptOut push holder hub hub'

  -- A push: the next round is outstanding now, if none was, and its push was put out. It is put out
  -- again where it was outstanding.
  pub record Pushes (old new : Standing) (result : PushOut)
      (hub hub' : Seen S Pushed Replied) : Type 0 where
    pub goes_on : new ≡ sends old
    pub push : Pushed
    pub push_is : IsPushOf new push
    pub hands : HandsOut push (is_some old.sent) result hub hub'

  -- ---- both

  -- a yield: its mark, a pull and a push
  pub record Yields (old new : Standing) (yielded : Yielded)
      (hub hub' : Seen S Pushed Replied) : Type 0 where
    pub pulled : Standing
    pub between : Seen S Pushed Replied
    pub pull : Pulls (noted Yield old) pulled yielded.pull hub between
    pub push : Pushes pulled new yielded.push between hub'

  -- a flush is met: its round's reply was taken, which has the batch with its mark
  pub record IsMet (old new : Standing) (hub hub' : Seen S Pushed Replied) : Type 0 where
    pub round : ℕ
    pub pull : Pulls old new (pull.Took round) hub hub'
    pub closed : new.flush ≡ Closed
    pub batch : Batch
    pub was : old.sent ≡ Some batch
    pub marked : IsMarked (batch.before ++ batch.rest)
    pub holds : Contains new.past.list batch

  -- a flush isn't met yet: a pull that leaves it open, and a push
  pub record IsUnmet (old new : Standing) (outstanding taken : ℕ)
      (hub hub' : Seen S Pushed Replied) : Type 0 where
    pub pulled : Standing
    pub between : Seen S Pushed Replied
    pub pull_is : Pull
    pub pull : Pulls old pulled pull_is hub between
    pub still : pulled.flush ≢ Closed
    pub push_is : PushOut
    pub push : Pushes pulled new push_is between hub'
    pub outstanding_is : round_sent new.sent ≡ Some outstanding
    pub taken_is : taken ≡ hub'.taken new.client

  abbrev pub Turns : Standing → Standing → Turn → Seen S Pushed Replied → Seen S Pushed Replied
      → Type 0
  Turns old new turn.Done hub hub' = IsMet old new hub hub'
  Turns old new (turn.NotYet outstanding taken) hub hub' =
      IsUnmet old new outstanding taken hub hub'

  -- a turn that leaves a flush open, by the outstanding round and the last reply that was taken
  abbrev pub IsNotYet : Standing → Turn → Seen S Pushed Replied → Type 0
  IsNotYet s turn.Done hub = ⊥
  IsNotYet s (turn.NotYet outstanding taken) hub = (round_sent s.sent ≡ Some outstanding) ×
      (taken ≡ hub.taken s.client)

  -- ---- want of memory

  -- in the pull: all is as it was, but that a reply may have come out of the inbox, which is kept
  pub record StarvesPull (old new : Standing) (hub hub' : Seen S Pushed Replied) : Type 0 where
    pub same : new ≡ record old { reply = new.reply }
    pub kept : ((new.reply ≡ old.reply) × (hub' ≡ hub)) ⊎
        ((reply : Replied) × (new.reply ≡ Some reply) × (old.reply ≡ None)
        × LooksIn old.client (Ok (Some reply)) hub hub')

  -- in the push: the mark and the pull stand, nothing was put out, and the next round is
  -- outstanding now or isn't
  pub record StarvesPush (marked new : Standing) (hub hub' : Seen S Pushed Replied) : Type 0 where
    pub pulled : Standing
    pub pull_is : Pull
    pub pull : Pulls marked pulled pull_is hub hub'
    pub goes_on : (new ≡ pulled) ⊎ (new ≡ sends pulled)

  abbrev pub Starves : Standing → Standing → Standing → Half → Seen S Pushed Replied
      → Seen S Pushed Replied → Type 0
  Starves old marked new half.Pull hub hub' = StarvesPull old new hub hub'
  Starves old marked new half.Push hub hub' = StarvesPush marked new hub hub'
