-- The record of a played run: clients take steps and are served, first by a schedule and then in sweeps.
use Rattle.std.specs.Prelude.{◌≡◌, ℕ, zero, suc, ◌<◌, Bool, false, is_some, List, [], ◌∷◌, length, map, Option, Some, None, slice_get}
use Rattle.std.specs.List.{list_all, range_with_len}
use Rattle.cloud_base.specs.Events.{Outcome, ended, asks}
use Rattle.cloud_base.specs.declared.batch.Batch.{Batch}
use Rattle.cloud_base.specs.declared.batch.Tail.{Tail}
use Rattle.cloud_base.specs.declared.end.End.{End}
use Rattle.cloud_base.specs.declared.schedule.Fate.TheVariants.{Pass}
use Rattle.cloud_base.specs.declared.schedule.ScheduleItem.{ScheduleItem}
use Rattle.cloud_base.specs.declared.schedule.ScheduleItem.TheVariants.{Steps, Serve}
use Rattle.cloud_base.specs.declared.update.Answer.{Answer}
use Rattle.cloud_base.specs.declared.update.Event.{Event}
use Rattle.cloud_base.specs.declared.update.Query.{Query}
use Rattle.cloud_base.specs.declared.update.Update.{Update}
use Rattle.played_record.specs.Clients.{Client, Flushing, closed, marked, awaits, seen, answered, turned, done}
use Rattle.played_record.specs.Worlds.{World, opening, with_client, did, served}

-- of each of the first n clients, its tail and how it ended
abbrev pub tails_of : ℕ → World → List Tail
tails_of n w = map (λ c. (w.client c).tail) (range_with_len 0 n)

abbrev pub ends_of : ℕ → World → List (Option End)
ends_of n w = map (λ c. (w.client c).end) (range_with_len 0 n)

-- all of them have ended
abbrev pub all_ended : ℕ → World → Bool
all_ended n w = list_all is_some (ends_of n w)

-- what a log answers to a query, and what each client does for the answers that it gets
module _ (answers : List Update → Query → Answer) (trace : ℕ → List Answer → List Event × Outcome) where
  -- the next event of client c, behind those that it did
  abbrev pub next_event : ℕ → World → Option Event
  next_event c w = slice_get (trace c (w.client c).answers).0 (length (did c w))

  -- where no event is left, a query is answered by the log that its client sees, or the client ends
  abbrev pub comes_out : Outcome → ℕ → World → Client
  comes_out (asks query) c w = answered query (answers (seen c w.batches (w.client c).tail) query) (w.client c)
  comes_out (ended end) c w = record (w.client c) { end = Some end }

  abbrev pub goes_on : Option Event → ℕ → World → Client
  goes_on (Some event) c w = done event c w.batches (w.client c)
  goes_on None c w = comes_out (trace c (w.client c).answers).1 c w

  -- a client that ended does nothing, and one that waits in a flush takes one turn of it
  abbrev pub stepped : Option End → Flushing → ℕ → World → Client
  stepped (Some end) flush c w = w.client c
  stepped None closed c w = goes_on (next_event c w) c w
  stepped None marked c w = turned c w.batches (w.client c)
  stepped None (awaits round) c w = turned c w.batches (w.client c)

  -- client c takes one step
  abbrev pub step : ℕ → World → World
  step c w = with_client c (stepped (w.client c).end (w.client c).flush c w) w

  abbrev pub steps : ℕ → ℕ → World → World
  steps c zero w = w
  steps c (suc n) w = step c (steps c n w)

  -- ---- the schedule

  abbrev pub item_done : ScheduleItem → World → World
  item_done (Steps c n) w = steps c n w
  item_done (Serve c fate) w = served c fate w

  abbrev pub scheduled : List ScheduleItem → World → World
  scheduled [] w = w
  scheduled (item ∷ items) w = scheduled items (item_done item w)

  -- ---- the sweeps

  -- a client that hasn't ended takes one step, and then it is served
  abbrev pub swept_at : Option End → ℕ → World → World
  swept_at (Some end) c w = w
  swept_at None c w = served c Pass (step c w)

  -- so does each of the first n clients, in order
  abbrev pub sweep : ℕ → World → World
  sweep zero w = w
  sweep (suc c) w = let before = sweep c w in swept_at (before.client c).end c before

  -- the moment after the schedule and so many sweeps of n clients
  abbrev pub after_sweeps : List ScheduleItem → ℕ → ℕ → World
  after_sweeps schedule n zero = scheduled schedule opening
  after_sweeps schedule n (suc count) = sweep n (after_sweeps schedule n count)

  -- The record of a played run of n clients: that of the moment after the least number of sweeps after which all have ended.
  pub record IsPlayed (schedule : List ScheduleItem) (n : ℕ) (batches : List Batch) (tails : List Tail) (ends : List End) : Type 0 where
    pub count : ℕ
    pub least : (fewer : ℕ) → fewer < count → all_ended n (after_sweeps schedule n fewer) ≡ false
    pub batches_are : batches ≡ (after_sweeps schedule n count).batches
    pub tails_are : tails ≡ tails_of n (after_sweeps schedule n count)
    pub ends_are : map Some ends ≡ ends_of n (after_sweeps schedule n count)
