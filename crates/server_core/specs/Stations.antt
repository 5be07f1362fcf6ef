-- What a station does with the pushes that it takes from a hub.
use Rattle.std.specs.Prelude.{◌≡◌, ◌≢◌, refl, ℕ, zero, suc, ◌≤◌, ◌<◌, List, [], ◌∷◌, ◌++◌, length, Option, Some, None, slice_index_or, Result, Ok, Err, Bool, true, false, ◌⊎◌}
use Rattle.cloud_base.specs.declared.schedule.Fate.{Fate}
use Rattle.cloud_base.specs.declared.schedule.Fate.TheVariants.{Pass, LosePush, LoseReply, Twice, Hold}
use Rattle.cloud_base.specs.declared.update.Event.TheVariants.{Yield}
use Rattle.slot_hub.specs.Runs.{Named, nowhere, two_clients}
use Rattle.slot_hub.specs.Boxes.{Boxes, Seen, outbox}
use Rattle.slot_hub.specs.Trades.{Keeps, Told, TradesOut, TradesIn}
use Rattle.slot_hub.specs.declared.traits.Busy.{Busy}
use Rattle.packet_codec.specs.Pushes.{Pushed}
use Rattle.packet_codec.specs.Replies.{Replied}
use Rattle.packet_codec.specs.Runs.{push_of_run, reply_of_run}
use Rattle.server_core.specs.declared.station.Served.{Served}
use Rattle.server_core.specs.declared.station.Served.TheVariants as served
use Rattle.server_core.specs.Weathers.{Draws, DrawsAll}
use Rattle.server_core.specs.Servers.{Serving, Answers, IsServerOf, after_push, last_of}

-- a server, and of each client the push of which a copy is held, if there is one
pub record Holding : Type 0 where
  pub server : Serving
  pub held : List (Option Pushed)

-- a station: that, and its weather
pub record Stationed (W : Type 0) : Type 0 where
  pub holding : Holding
  pub weather : W

abbrev pub held_of : ℕ → Holding → Option Pushed
held_of c holding = slice_index_or holding.held c None

-- a station is of a run where its server and the pushes that it holds are
pub record IsHoldingOf (holding : Holding) (run : Named) : Type 0 where
  pub server : IsServerOf holding.server run
  pub held : (c : ℕ) (push : Pushed) → held_of c holding ≡ Some push → push_of_run push run

-- it holds a place for each client, and there no push but the client's
pub record IsHolding (holding : Holding) : Type 0 where
  pub places : length holding.held ≡ length holding.server.owns
  pub client : (c : ℕ) (push : Pushed) → held_of c holding ≡ Some push → push.batch.client ≡ c

abbrev pub push_client : Pushed → ℕ
push_client push = push.batch.client

abbrev pub reply_client : Replied → ℕ
reply_client reply = reply.client

abbrev pub reply_round : Replied → ℕ
reply_round reply = reply.round

-- of the pushes of a fate a copy is held
abbrev pub copy_of : Fate → Pushed → Option Pushed
copy_of Hold push = Some push
copy_of Pass push = None
copy_of LosePush push = None
copy_of LoseReply push = None
copy_of Twice push = None

-- a server, and what a hub tells, at one moment
pub record Moment (S : Type 0) : Type 0 where
  pub server : Serving
  pub seen : Seen S Pushed Replied

module _ {S : Type 0} where
  -- a trade with an outbox into which nothing is put
  abbrev pub TakesOut : ℕ → Result (Option Pushed) (Busy (Option Pushed)) → Seen S Pushed Replied → Seen S Pushed Replied → Type 0
  TakesOut c result old new = TradesOut push_client push_of_run c None result old new

  -- a trade with an inbox into which a reply is put
  abbrev pub PutsIn : ℕ → Replied → Result (Option Replied) (Busy (Option Replied)) → Seen S Pushed Replied → Seen S Pushed Replied → Type 0
  PutsIn c reply result old new = TradesIn reply_client reply_round reply_of_run c (Some reply) result old new

  -- a push is answered: a reply with the record as it is now is put into its client's inbox
  pub record IsAnswered (c : ℕ) (push : Pushed) (old new : Moment S) : Type 0 where
    pub reply : Replied
    pub answers : Answers push.batch.client push.batch.round new.server reply
    pub result : Result (Option Replied) (Busy (Option Replied))
    pub put : PutsIn c reply result old.seen new.seen

  -- a push passes: the server takes it, and it is answered, unless it is of an earlier round than its client's last
  pub record Passes (c : ℕ) (push : Pushed) (old new : Moment S) : Type 0 where
    pub taken : new.server ≡ after_push push old.server
    pub late : push.batch.round < last_of push old.server → new.seen ≡ old.seen
    pub answered : last_of push old.server ≤ push.batch.round → IsAnswered c push old new

  -- what happens to a push by its fate
  abbrev pub Fares : Fate → ℕ → Pushed → Moment S → Moment S → Type 0
  Fares Pass c push old new = Passes c push old new
  Fares LosePush c push old new = new ≡ old
  Fares LoseReply c push old new = new ≡ record { server = after_push push old.server; seen = old.seen }
  Fares Twice c push old new = (between : Moment S) × Passes c push old between × Passes c push between new
  Fares Hold c push old new = Passes c push old new

  -- a copy that was held passes
  abbrev pub Releases : ℕ → Option Pushed → Moment S → Moment S → Type 0
  Releases c None old new = new ≡ old
  Releases c (Some push) old new = Passes c push old new

  abbrev pub moment : Holding → Seen S Pushed Replied → Moment S
  moment holding seen = record { server = holding.server; seen = seen }

  -- A push of client c is handled: it fares by its fate, then the copy that was held passes, and then a copy of this push is held, if its fate says
  -- so. What is held of others stays.
  pub record Handles (c : ℕ) (fate : Fate) (push : Pushed) (old new : Holding) (before after : Seen S Pushed Replied) : Type 0 where
    pub between : Moment S
    pub fares : Fares fate c push (moment old before) between
    pub releases : Releases c (held_of c old) between (moment new after)
    pub held : held_of c new ≡ copy_of fate push
    pub others : (k : ℕ) → k ≢ c → held_of k new ≡ held_of k old

  -- the push that lay in the outbox is handled
  pub record Takes (c : ℕ) (fate : Fate) (round : ℕ) (old new : Holding) (before after : Seen S Pushed Replied) : Type 0 where
    pub push : Pushed
    pub round_is : push.batch.round ≡ round
    pub taken : Seen S Pushed Replied
    pub takes : TakesOut c (Ok (Some push)) before taken
    pub handles : Handles c fate push old new taken after

  -- the outbox was busy
  pub record FindsBusy (c holder : ℕ) (before after : Seen S Pushed Replied) : Type 0 where
    pub busy : Busy (Option Pushed)
    pub holder_is : busy.holder ≡ holder
    pub takes : TakesOut c (Err busy) before after

  -- a serve of client c, by what it answers
  abbrev pub Serves : ℕ → Fate → Served → Holding → Holding → Seen S Pushed Replied → Seen S Pushed Replied → Type 0
  Serves c fate served.Empty old new before after = (new ≡ old) × TakesOut c (Ok None) before after
  Serves c fate (served.Busy holder) old new before after = (new ≡ old) × FindsBusy c holder before after
  Serves c fate (served.Took round) old new before after = Takes c fate round old new before after

  -- a client is served of whom no push is taken, as its outbox is empty or busy
  abbrev pub ServesNone : ℕ → Holding → Holding → Seen S Pushed Replied → Seen S Pushed Replied → Type 0
  ServesNone c old new before after = (new ≡ old) × (TakesOut c (Ok None) before after ⊎ ((holder : ℕ) × FindsBusy c holder before after))

  -- one client more is served: if a push is taken, it fares by the last fate of those drawn so far, and else no fate is drawn
  abbrev pub ServesNext : Bool → ℕ → List Fate → List Fate → Holding → Holding → Seen S Pushed Replied → Seen S Pushed Replied → Type 0
  ServesNext true c drawn fates old new before after = (fate : Fate) × (round : ℕ) × (fates ≡ drawn ++ fate ∷ []) × Takes c fate round old new before after
  ServesNext false c drawn fates old new before after = (fates ≡ drawn) × ServesNone c old new before after

  -- the first n clients are served in order, by these fates
  abbrev pub ServesFirst : ℕ → List Fate → Holding → Holding → Seen S Pushed Replied → Seen S Pushed Replied → Type 0
  ServesFirst zero fates old new before after = (fates ≡ []) × (new ≡ old) × (after ≡ before)
  ServesFirst (suc n) fates old new before after = (took : Bool) × (drawn : List Fate) × (mid : Holding) × (between : Seen S Pushed Replied) × ServesFirst n drawn old mid before between × ServesNext took n drawn fates mid new between after

  -- one client is served, and the fate of a push that is taken is drawn then
  abbrev pub ServesOne : {W : Type 0} → (W → Option (ℕ → Fate)) → Bool → ℕ → Stationed W → Stationed W → Seen S Pushed Replied → Seen S Pushed Replied → Type 0
  ServesOne fates_of true c old new before after = (fate : Fate) × (round : ℕ) × Takes c fate round old.holding new.holding before after × Draws fate (fates_of old.weather) (fates_of new.weather)
  ServesOne fates_of false c old new before after = ServesNone c old.holding new.holding before after × (new.weather ≡ old.weather)

  -- The first n clients are served in order, and so many pushes are taken of them. Each fares by the fate that the weather draws when it is taken.
  pub record ServesWith {W : Type 0} (fates_of : W → Option (ℕ → Fate)) (n count : ℕ) (old new : Stationed W) (before after : Seen S Pushed Replied) : Type 0 where
    pub fates : List Fate
    pub serves : ServesFirst n fates old.holding new.holding before after
    pub count_is : count ≡ length fates
    pub drawn : DrawsAll fates (fates_of old.weather) (fates_of new.weather)

  -- no call of a station takes from an inbox or moves the server
  pub record Leaves (old new : Seen S Pushed Replied) : Type 0 where
    pub keeps : Keeps old new
    pub took : new.took ≡ old.took
    pub taken : (k : ℕ) → new.taken k ≡ old.taken k

  -- where the boxes aren't told, one trade more with the outbox of client c found it free or busy
  abbrev pub LooksAt : ℕ → Seen S Pushed Replied → Seen S Pushed Replied → Type 0
  LooksAt c old new = old.boxes ≡ None → (old.looks (outbox c) < new.looks (outbox c)) ⊎ (old.busies (outbox c) < new.busies (outbox c))

  -- no box but those of client c changes
  pub record OthersStay (c : ℕ) (old new : Boxes S Pushed Replied) : Type 0 where
    pub outboxes : (k : ℕ) → k ≢ c → new.outbox k ≡ old.outbox k
    pub inboxes : (k : ℕ) → k ≢ c → new.inbox k ≡ old.inbox k
    pub home : new.home ≡ old.home

  -- and a serve touches a hub at the boxes of its client alone
  pub record Touches (c : ℕ) (old new : Seen S Pushed Replied) : Type 0 where
    pub leaves : Leaves old new
    pub told : Told (OthersStay c) old.boxes new.boxes

module _ where
  abbrev opened : Serving
  opened = record { schema = two_clients.schema; joined = record { chronicle = nowhere; list = [] }; owns = None ∷ None ∷ [] }

  abbrev push : Pushed
  push = record {
    schema = two_clients.schema;
    wire = [];
    batch = record { client = 1; round = 1; base = 0; before = []; rest = Yield ∷ [] };
    past = record { chronicle = nowhere; list = [] };
    own = record { chronicle = nowhere; list = record { client = 1; round = 1; base = 0; before = []; rest = Yield ∷ [] } ∷ [] };
  }

  -- a lost push changes nothing, of a lost reply the push is joined, and held is a copy of this fate alone
  pub example_lost : {S : Type 0} (seen : Seen S Pushed Replied) → Fares LosePush 1 push (record { server = opened; seen = seen }) (record { server = opened; seen = seen })
      × Fares LoseReply 1 push (record { server = opened; seen = seen }) (record { server = after_push push opened; seen = seen })
  example_lost seen = (refl, refl)

  pub example_copies : (copy_of Hold push ≡ Some push) × (copy_of Twice push ≡ None)
  example_copies = (refl, refl)
