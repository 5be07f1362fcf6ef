-- How much clients did, worked.
use Rattle.std.specs.Prelude.{◌≡◌, refl, pos, ℕ, List, [], ◌∷◌, length, Some}
use Rattle.cloud_base.specs.declared.batch.Batch.{Batch}
use Rattle.cloud_base.specs.declared.update.Answer.TheVariants.{Int}
use Rattle.cloud_base.specs.declared.update.CellChange.TheVariants.{Add}
use Rattle.cloud_base.specs.declared.update.Event.{Event}
use Rattle.cloud_base.specs.declared.update.Event.TheVariants.{Do, Ask, Say, Yield, Flush}
use Rattle.cloud_base.specs.declared.update.Query.TheVariants.{Get}
use Rattle.cloud_base.specs.declared.update.Update.TheVariants.{Cell}
use Rattle.played_record.specs.Clients.{Client, fresh, own_batches, flushed, turned, yielded}
use Rattle.played_record.specs.Worlds.{World, opening, with_client, did}
use Rattle.played_bounds.specs.Few.{acts_in, rounds_owed}

module _ where
  abbrev adds : Event
  adds = Do (Cell 0 [] (Add (pos 1)))

  -- an update, a yield and a flush count, and a query and a print don't
  pub example_acts : acts_in (adds ∷ Ask (Get 0 []) (Int (pos 1)) ∷ Yield ∷ Say (Int (pos 1)) ∷ Flush ∷ []) ≡ 3
  example_acts = refl

module _ where
  -- the moment at which client 2 is such a one, behind such a record
  abbrev stands : List Batch → Client → World
  stands batches x = with_client 2 x (record opening { batches = batches })

  -- its rounds, that which its flush will take, and its acts
  abbrev rounds : World → ℕ
  rounds w = length (own_batches 2 w.batches (w.client 2).tail)

  abbrev owed : World → ℕ
  owed w = rounds_owed (w.client 2).flush

  abbrev acts : World → ℕ
  acts w = acts_in (did 2 w)

  abbrev first : Batch
  first = record { client = 2; round = 1; base = 0; before = []; rest = Yield ∷ [] }

  -- it yielded, and flushes behind it; and then the reply to the first round comes
  abbrev flushing : Client
  flushing = flushed 2 [] (yielded 2 [] fresh)

  abbrev later : Client
  later = turned 2 (first ∷ []) (record flushing { inbox = Some (record { round = 1; base = 1 }) })

  -- while the reply doesn't come there is one round, and the flush owes one
  pub example_owed : (rounds (stands [] flushing) ≡ 1) × (owed (stands [] flushing) ≡ 1) × (acts (stands [] flushing) ≡ 2)
  example_owed = (refl, refl, refl)

  -- a further turn takes none, and once the reply came there are two
  pub example_taken : (turned 2 [] flushing ≡ flushing)
      × (rounds (stands (first ∷ []) later) ≡ 2) × (owed (stands (first ∷ []) later) ≡ 0) × (acts (stands (first ∷ []) later) ≡ 2)
  example_taken = (refl, refl, refl, refl)
