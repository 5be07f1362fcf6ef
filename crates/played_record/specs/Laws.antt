-- What holds at each moment of a played run.
use Rattle.std.specs.Prelude.{◌≡◌, ◌≢◌, ℕ, ◌≤◌, ◌⊎◌, List, [], ◌++◌, length, Option, Some, None}
use Rattle.std.specs.Option.{ForSome}
use mathlib.Core.List.{IsPrefix}
use Rattle.cloud_base.specs.Events.{Outcome, ended, answers_in}
use Rattle.cloud_base.specs.declared.batch.Batch.{Batch}
use Rattle.cloud_base.specs.declared.batch.Tail.{Tail}
use Rattle.cloud_base.specs.declared.end.End.{End}
use Rattle.cloud_base.specs.declared.schedule.ScheduleItem.{ScheduleItem}
use Rattle.cloud_base.specs.declared.update.Answer.{Answer}
use Rattle.cloud_base.specs.declared.update.Event.{Event}
use Rattle.cloud_base.specs.declared.update.Query.{Query}
use Rattle.cloud_base.specs.declared.update.Update.{Update}
use Rattle.batch_history.specs.Batches.{of_client, unjoined}
use Rattle.typed_program.specs.Laws.{Extends, InOrder}
use Rattle.played_record.specs.Clients.{Client, Reply, awaits, own_batches, round_sent}
use Rattle.played_record.specs.Worlds.{World, did}
use Rattle.played_record.specs.Plays.{IsPlayed}

-- nothing of a client but its boxes and its held copy changes
abbrev pub BoxesAlone : Client → Client → Type 0
BoxesAlone old new = new ≡ record old { out = new.out; inbox = new.inbox; held = new.held }

-- a serve of client c: other clients stay as they are
pub record OnlyServes (c : ℕ) (old new : World) : Type 0 where
  pub boxes : BoxesAlone (old.client c) (new.client c)
  pub others : (k : ℕ) → k ≢ c → new.client k ≡ old.client k

-- and a step of client c, which moreover joins no batch
pub record OnlySteps (c : ℕ) (old new : World) : Type 0 where
  pub batches : new.batches ≡ old.batches
  pub others : (k : ℕ) → k ≢ c → new.client k ≡ old.client k

-- a record gets the outstanding batch of client c, if it doesn't have it, or stays as it is
abbrev pub Joins : ℕ → Option Batch → List Batch → List Batch → Type 0
Joins c sent old new = (new ≡ old) ⊎ (new ≡ old ++ unjoined (of_client c old) sent)

-- client c's part behind a record
pub record IsClientOf (c : ℕ) (batches : List Batch) (x : Client) : Type 0 where
  -- the outstanding push is the last of the client's batches
  pub own : ForSome x.tail.sent (λ (b : Batch). b.client ≡ c)
  pub round : ForSome x.tail.sent (λ (b : Batch). b.round ≡ length (own_batches c batches x.tail))
  -- nothing is pulled then, and what isn't pulled has nothing that ran since
  pub waits : ForSome x.tail.sent (λ (b : Batch). x.tail.now.base ≡ None)
  pub unpulled : x.tail.now.base ≡ None → x.tail.now.rest ≡ []
  -- packets are of rounds that were pushed, and replies of rounds that were joined
  pub out : ForSome x.out (λ (round : ℕ). round ≤ length (own_batches c batches x.tail))
  pub held : ForSome x.held (λ (round : ℕ). round ≤ length (own_batches c batches x.tail))
  pub inbox : ForSome x.inbox (λ (reply : Reply). reply.round ≤ length (of_client c batches))
  -- a push and a reply aren't both on their way, and where nothing is outstanding neither is
  pub apart : (x.out ≡ None) ⊎ (x.inbox ≡ None)
  pub quiet : x.tail.sent ≡ None → (x.out ≡ None) × (x.inbox ≡ None)
  -- a flush's round is the outstanding one
  pub flush : (round : ℕ) → x.flush ≡ awaits round → round_sent x.tail.sent ≡ Some round

-- more answers only extend what a client does, and each query takes the next one
pub record GoesOn (trace : ℕ → List Answer → List Event × Outcome) : Type 0 where
  pub extends : (c : ℕ) (given more : List Answer) → Extends (trace c given) (trace c (given ++ more)) more
  pub in_order : (c : ℕ) (given : List Answer) → InOrder (trace c given) given

-- what client c did is a front of its trace for the answers that its queries got, and all of it once it ended
pub record Follows (trace : List Answer → List Event × Outcome) (events : List Event) (x : Client) : Type 0 where
  pub answers : answers_in events ≡ x.answers
  pub front : IsPrefix events (trace x.answers).0
  pub all : ForSome x.end (λ (end : End). trace x.answers ≡ (events, ended end))

-- a moment of a played run
pub record IsMoment (trace : ℕ → List Answer → List Event × Outcome) (w : World) : Type 0 where
  pub client : (c : ℕ) → IsClientOf c w.batches (w.client c)
  pub follows : (c : ℕ) → Follows (trace c) (did c w) (w.client c)

-- a run has a record, after so many sweeps at most
pub record HasRecord (answers : List Update → Query → Answer) (trace : ℕ → List Answer → List Event × Outcome) (schedule : List ScheduleItem) (n most : ℕ) : Type 0 where
  pub batches : List Batch
  pub tails : List Tail
  pub ends : List End
  pub played : IsPlayed answers trace schedule n batches tails ends
  pub within : played.count ≤ most
