-- A moment of a played run, where its clients are sessions that meet a server through boxes.
use Rattle.std.specs.Prelude.{◌≡◌, ◌≢◌, ℕ, ◌+◌, List, length, Option, Some, None, slice_get}
use Rattle.std.specs.Option.{ForSome, option_map, option_map_or}
use mathlib.Core.List.{IsPrefix}
use Rattle.cloud_base.specs.Events.{Outcome, answers_in}
use Rattle.cloud_base.specs.declared.batch.Batch.{Batch}
use Rattle.cloud_base.specs.declared.update.Answer.{Answer}
use Rattle.cloud_base.specs.declared.update.Event.{Event}
use Rattle.slot_hub.specs.Boxes.{Boxes, Seen}
use Rattle.packet_codec.specs.Pushes.{Pushed}
use Rattle.packet_codec.specs.Replies.{Replied}
use Rattle.session_core.specs.declared.flushing.Flushing.{Flushing as Flush}
use Rattle.session_core.specs.declared.flushing.Flushing.TheVariants.{Closed, Marked, Sent}
use Rattle.session_core.specs.Standings.{tail_of}
use Rattle.server_core.specs.Stations.{Holding, held_of}
use Rattle.code_machine.specs.declared.need.Need.{Need}
use Rattle.client_runner.specs.Needs.{IsNext, IsNextOf}
use Rattle.client_runner.specs.Steps.{Ran, did}
use Rattle.played_record.specs.Clients.{Client, Flushing, Reply, closed, marked, awaits, own_batches}
use Rattle.played_record.specs.Worlds.{World}

-- what is on its way from and to a client: what its boxes hold, the push of which a copy is held, and the round of the reply that it took last
pub record Mail : Type 0 where
  pub out : Option Pushed
  pub inbox : Option Replied
  pub held : Option Pushed
  pub taken : ℕ

abbrev pub mail_of : {S : Type 0} → ℕ → Boxes S Pushed Replied → Holding → (ℕ → ℕ) → Mail
mail_of c boxes holding taken = record {
  out = boxes.outbox c;
  inbox = boxes.inbox c;
  held = held_of c holding;
  taken = taken c;
}

-- ---- what a played run tells of a client

abbrev pub flushing_of : Flush → Option Batch → Flushing
flushing_of Closed sent = closed
flushing_of Marked sent = marked
flushing_of Sent sent = awaits (option_map_or (λ (b : Batch). b.round) sent 0)

abbrev pub round_of : Pushed → ℕ
round_of push = push.batch.round

abbrev pub reply_of : Replied → Reply
reply_of reply = record { round = reply.round; base = length reply.past.list }

-- its part, by its code, its session, and what is on its way
abbrev pub part_of : Ran → Mail → Client
part_of run mail = record {
  answers = answers_in (did run.stands);
  tail = tail_of run.stands;
  taken = mail.taken;
  out = option_map round_of mail.out;
  inbox = option_map reply_of mail.inbox;
  held = option_map round_of mail.held;
  flush = flushing_of run.stands.flush run.stands.sent;
  end = run.ended;
}

-- ---- what it doesn't tell

-- a push is of one of its client's batches: of the one of its round
pub record IsAmong (own : List Batch) (push : Pushed) : Type 0 where
  pub before : ℕ
  pub round : push.batch.round ≡ before + 1
  pub is : slice_get own before ≡ Some push.batch

-- client c behind a record
pub record IsClientAt (c : ℕ) (batches : List Batch) (run : Ran) (mail : Mail) : Type 0 where
  pub client : run.stands.client ≡ c
  -- it has seen a front of the record
  pub past : IsPrefix run.stands.past.list batches
  -- its batches are those of the record and the push that the record doesn't have
  pub own : own_batches c batches (tail_of run.stands) ≡ run.stands.own.list
  -- it keeps no reply
  pub reply : run.stands.reply ≡ None
  -- its pushes are of its batches, and the reply on its way tells a front of the record
  pub out : ForSome mail.out (IsAmong run.stands.own.list)
  pub held : ForSome mail.held (IsAmong run.stands.own.list)
  pub inbox : ForSome mail.inbox (λ (reply : Replied). IsPrefix reply.past.list batches)

-- ---- moments

-- client c of a run is where a played run says
pub record IsAt (c : ℕ) (run : Ran) (mail : Mail) (w : World) : Type 0 where
  pub part : w.client c ≡ part_of run mail
  pub behind : IsClientAt c w.batches run mail

-- the clients, the server and the hub of a run are where a played run says
pub record IsMomentOf {S : Type 0} (runs : List Ran) (holding : Holding) (hub : Seen S Pushed Replied) (w : World) : Type 0 where
  pub boxes : Boxes S Pushed Replied
  pub told : hub.boxes ≡ Some boxes
  pub batches : w.batches ≡ holding.server.joined.list
  pub clients : (c : ℕ) (run : Ran) → slice_get runs c ≡ Some run → IsAt c run (mail_of c boxes holding hub.taken) w

-- what a code needs next behind what its client did is the next event of the client's trace, or how the trace comes out
abbrev pub RunsBy : (List Answer → List Event × Outcome) → Ran → Type 0
RunsBy trace run = (need : Need) → IsNext run.code.instructions run.stands.client (did run.stands) need
    → IsNextOf need (trace (answers_in (did run.stands))).1 (trace (answers_in (did run.stands))).0 (did run.stands)

-- ---- one client goes on

-- client c goes on with the boxes, and what is on its way for others stays
pub record GoesOnAt {S : Type 0} (c : ℕ) (run : Ran) (boxes : Boxes S Pushed Replied) (old new : Holding) (hub hub' : Seen S Pushed Replied) (w : World) : Type 0 where
  pub boxes' : Boxes S Pushed Replied
  pub told : hub'.boxes ≡ Some boxes'
  pub at : IsAt c run (mail_of c boxes' new hub'.taken) w
  pub others : (k : ℕ) → k ≢ c → mail_of k boxes' new hub'.taken ≡ mail_of k boxes old hub.taken
