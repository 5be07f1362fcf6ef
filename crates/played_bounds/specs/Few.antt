-- How much the clients of a played run have done at most.
use Rattle.std.specs.Prelude.{ℕ, ◌+◌, ◌≤◌, List, [], ◌∷◌, length}
use Rattle.cloud_base.specs.declared.update.Event.{Event}
use Rattle.cloud_base.specs.declared.update.Event.TheVariants.{Do, Ask, Say, Yield, Flush}
use Rattle.played_record.specs.Clients.{Flushing, closed, marked, awaits, own_batches}
use Rattle.played_record.specs.Worlds.{World, did}

-- how many updates, yields and flushes there are among events
abbrev pub acts_in : List Event → ℕ
acts_in [] = 0
acts_in (Do update ∷ events) = 1 + acts_in events
acts_in (Ask query answer ∷ events) = acts_in events
acts_in (Say value ∷ events) = acts_in events
acts_in (Yield ∷ events) = 1 + acts_in events
acts_in (Flush ∷ events) = 1 + acts_in events

-- a flush whose round isn't outstanding yet will take one
abbrev pub rounds_owed : Flushing → ℕ
rounds_owed closed = 0
rounds_owed marked = 1
rounds_owed (awaits round) = 0

-- each round of a client, and that which a flush will take, has a yield or a flush of its own
pub record HasFewRounds (w : World) : Type 0 where
  pub rounds : (c : ℕ) → length (own_batches c w.batches (w.client c).tail) + rounds_owed (w.client c).flush ≤ acts_in (did c w)
