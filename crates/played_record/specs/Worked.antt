-- Played runs, worked.
use Rattle.std.specs.Prelude.{◌≡◌, refl, ℕ, zero, suc, ◌<◌, List, [], ◌∷◌, ◌++◌, Some, None, ℤ, pos, ◌+ℤ◌, true, false}
use Rattle.std.proofs.Common.{arith}
use Rattle.cloud_base.specs.Events.{Outcome, ended, asks}
use Rattle.cloud_base.specs.declared.batch.Batch.{Batch}
use Rattle.cloud_base.specs.declared.batch.Tail.{Tail}
use Rattle.cloud_base.specs.declared.end.End.TheVariants.{Done}
use Rattle.cloud_base.specs.declared.schedule.Fate.TheVariants.{Pass, LosePush, LoseReply, Twice, Hold}
use Rattle.cloud_base.specs.declared.schedule.ScheduleItem.{ScheduleItem}
use Rattle.cloud_base.specs.declared.schedule.ScheduleItem.TheVariants.{Steps, Serve}
use Rattle.cloud_base.specs.declared.update.Answer.{Answer}
use Rattle.cloud_base.specs.declared.update.Answer.TheVariants.{Int}
use Rattle.cloud_base.specs.declared.update.CellChange.TheVariants.{Add}
use Rattle.cloud_base.specs.declared.update.Event.{Event}
use Rattle.cloud_base.specs.declared.update.Event.TheVariants.{Do, Ask, Say, Yield, Flush}
use Rattle.cloud_base.specs.declared.update.Query.{Query}
use Rattle.cloud_base.specs.declared.update.Query.TheVariants.{Get}
use Rattle.cloud_base.specs.declared.update.Update.{Update}
use Rattle.cloud_base.specs.declared.update.Update.TheVariants.{Cell}
use Rattle.played_record.specs.Plays.{IsPlayed, after_sweeps, all_ended, tails_of, ends_of}
use Rattle.played_record.specs.Worlds.{World}

module _ where
  -- a statement of a small client: an event, or a print of what the one cell has
  pub data Line : Type 0 where
    does : Event → Line
    print : Line

  abbrev pub get : Query
  get = Get 0 []

  abbrev pub adds : ℕ → Event
  adds n = Do (Cell 0 [] (Add (pos n)))

  -- what the lines do for these answers
  abbrev pub runs : List Line → List Answer → List Event × Outcome
  runs [] given = ([], ended Done)
  runs (does event ∷ lines) given = let more = runs lines given in (event ∷ more.0, more.1)
  runs (print ∷ lines) [] = ([], asks get)
  runs (print ∷ lines) (answer ∷ given) = let more = runs lines given in (Ask get answer ∷ Say answer ∷ more.0, more.1)

  abbrev pub add : Update → ℤ → ℤ
  add (Cell p ks (Add n)) so_far = n +ℤ so_far
  add other so_far = so_far

  abbrev pub total : List Update → ℤ
  total [] = pos 0
  total (update ∷ log) = add update (total log)

  -- the one cell adds up
  abbrev pub sums : List Update → Query → Answer
  sums log query = Int (total log)

  abbrev pub batch : ℕ → ℕ → ℕ → List Event → List Event → Batch
  batch c round base before rest = record { client = c; round = round; base = base; before = before; rest = rest }

  -- nothing is outstanding, and so ran since a pull
  abbrev pub at_end : ℕ → List Event → List Event → Tail
  at_end base before rest = record { sent = None; now = record { base = Some base; before = before; rest = rest } }

  abbrev pub prints : ℕ → List Event
  prints n = Ask get (Int (pos n)) ∷ Say (Int (pos n)) ∷ []

module _ where
  -- it adds and yields twice, flushes, and prints
  abbrev doing : ℕ → List Answer → List Event × Outcome
  doing c = runs (does (adds 1) ∷ does Yield ∷ does (adds 2) ∷ does Yield ∷ does Flush ∷ print ∷ [])

  abbrev schedule : List ScheduleItem
  schedule = Steps 0 2 ∷ Serve 0 LoseReply ∷ Steps 0 2 ∷ []

  abbrev after : ℕ → World
  after count = after_sweeps sums doing schedule 1 count

  -- A reply is lost: the second yield finds the first round outstanding, and so does the flush, which waits over two rounds.
  pub example_lost_reply : (after 6).batches ≡ batch 0 1 0 [] (adds 1 ∷ Yield ∷ []) ∷ batch 0 2 1 (adds 2 ∷ Yield ∷ Flush ∷ []) [] ∷ []
  example_lost_reply = refl

  pub example_tail : tails_of 1 (after 6) ≡ at_end 2 [] (prints 3) ∷ []
  example_tail = refl

  pub example_least : (all_ended 1 (after 5) ≡ false) × (ends_of 1 (after 6) ≡ Some Done ∷ [])
  example_least = (refl, refl)

  -- so it is the record of the run
  pub example_played : IsPlayed sums doing schedule 1 (batch 0 1 0 [] (adds 1 ∷ Yield ∷ []) ∷ batch 0 2 1 (adds 2 ∷ Yield ∷ Flush ∷ []) [] ∷ [])
      (at_end 2 [] (prints 3) ∷ []) (Done ∷ [])
  example_played = record { count = 6; least = not_before; batches_are = refl; tails_are = refl; ends_are = refl }
    where
      not_before : (fewer : ℕ) → fewer < 6 → all_ended 1 (after fewer) ≡ false
      not_before zero l = refl
      not_before (suc zero) l = refl
      not_before (suc (suc zero)) l = refl
      not_before (suc (suc (suc zero))) l = refl
      not_before (suc (suc (suc (suc zero)))) l = refl
      not_before (suc (suc (suc (suc (suc zero))))) l = refl
      not_before (suc (suc (suc (suc (suc (suc k)))))) l = absurd (omega arith)

module _ where
  -- it adds and yields
  abbrev short : ℕ → List Answer → List Event × Outcome
  short c = runs (does (adds 1) ∷ does Yield ∷ [])

  abbrev after_steps : ℕ → World
  after_steps count = after_sweeps sums short (Steps 0 count ∷ []) 1 1

  -- A client that ends in a sweep is served there, and one that ended before no more.
  pub example_ended : ((after_steps 2).batches ≡ batch 0 1 0 [] (adds 1 ∷ Yield ∷ []) ∷ []) × ((after_steps 3).batches ≡ [])
      × (tails_of 1 (after_steps 2) ≡ tails_of 1 (after_steps 3)) × (all_ended 1 (after_sweeps sums short (Steps 0 3 ∷ []) 1 0) ≡ true)
  example_ended = (refl, refl, refl, refl)

module _ where
  -- every fate, on the pushes of the first client
  abbrev lines : ℕ → List Line
  lines zero = does (adds 1) ∷ does Yield ∷ does (adds 10) ∷ does Yield ∷ does (adds 100) ∷ does Yield ∷ does (adds 1000) ∷ does Yield
      ∷ does (adds 10000) ∷ does Yield ∷ does (adds 100000) ∷ does Flush ∷ print ∷ []
  lines (suc c) = does Yield ∷ does Yield ∷ does Yield ∷ does Yield ∷ print ∷ does Flush ∷ print ∷ []

  abbrev doing_all : ℕ → List Answer → List Event × Outcome
  doing_all c = runs (lines c)

  abbrev all_fates : List ScheduleItem
  all_fates = Steps 0 2 ∷ Serve 0 Hold ∷ Steps 0 2 ∷ Serve 0 Twice ∷ Steps 0 2 ∷ Serve 0 LosePush ∷ Steps 0 2 ∷ Serve 0 LoseReply
      ∷ Steps 0 2 ∷ Serve 0 Pass ∷ Steps 0 1 ∷ Steps 1 1 ∷ Serve 1 Pass ∷ Steps 1 1 ∷ Serve 1 Hold ∷ Steps 1 1 ∷ Serve 1 LoseReply ∷ Steps 1 2 ∷ []

  abbrev after_fates : ℕ → World
  after_fates count = after_sweeps sums doing_all all_fates 2 count

  -- The third push is lost and put out again at the next yield, and the reply to it is lost then; the flush carries what ran since.
  pub example_fates : (after_fates 6).batches ≡
      batch 0 1 0 [] (adds 1 ∷ Yield ∷ []) ∷ batch 0 2 1 (adds 10 ∷ Yield ∷ []) [] ∷ batch 0 3 2 (adds 100 ∷ Yield ∷ []) []
      ∷ batch 1 1 0 [] (Yield ∷ []) ∷ batch 1 2 4 (Yield ∷ []) [] ∷ batch 1 3 5 (Yield ∷ []) []
      ∷ batch 0 4 3 (adds 1000 ∷ Yield ∷ adds 10000 ∷ Yield ∷ adds 100000 ∷ Flush ∷ []) [] ∷ batch 1 4 7 (Yield ∷ prints 111 ++ Flush ∷ []) [] ∷ []
  example_fates = refl

  pub example_fates_end : (tails_of 2 (after_fates 6) ≡ at_end 7 [] (prints 111111) ∷ at_end 8 [] (prints 111111) ∷ [])
      × (ends_of 2 (after_fates 6) ≡ Some Done ∷ Some Done ∷ []) × (all_ended 2 (after_fates 5) ≡ false)
  example_fates_end = (refl, refl, refl)

module _ where
  abbrev both : ℕ → List Line
  both zero = does (adds 1) ∷ does Flush ∷ does (adds 2) ∷ does Flush ∷ print ∷ []
  both (suc c) = does (adds 4) ∷ does Yield ∷ does Yield ∷ print ∷ does Flush ∷ print ∷ []

  abbrev late : ℕ → World
  late count = after_sweeps sums (λ c. runs (both c)) (Steps 1 2 ∷ Steps 0 2 ∷ Serve 0 LosePush ∷ Steps 0 1 ∷ Serve 0 LoseReply ∷ Steps 0 1 ∷ Serve 1 Hold
      ∷ Steps 1 1 ∷ Serve 1 Pass ∷ Serve 0 Twice ∷ []) 2 count

  -- A flush whose push is lost, and then its reply, is met by a later one, which has what the other client did meanwhile.
  pub example_late_flush : (late 7).batches ≡ batch 0 1 0 [] (adds 1 ∷ Flush ∷ []) ∷ batch 1 1 0 [] (adds 4 ∷ Yield ∷ []) ∷ batch 1 2 2 (Yield ∷ []) []
      ∷ batch 0 2 3 [] (adds 2 ∷ Flush ∷ []) ∷ batch 1 3 3 (prints 5 ++ Flush ∷ []) [] ∷ []
  example_late_flush = refl

  pub example_late_end : (tails_of 2 (late 7) ≡ at_end 4 [] (prints 7) ∷ at_end 5 [] (prints 7) ∷ []) × (all_ended 2 (late 6) ≡ false) × (all_ended 2 (late 7) ≡ true)
  example_late_end = (refl, refl, refl)

module _ where
  -- one yields and prints, and the other one adds and yields
  abbrev apart : ℕ → List Answer → List Event × Outcome
  apart zero = runs (does Yield ∷ print ∷ [])
  apart (suc c) = runs (does (adds 1) ∷ does Yield ∷ [])

  abbrev others_first : List ScheduleItem
  others_first = Steps 0 1 ∷ Steps 1 2 ∷ Serve 1 Pass ∷ Serve 0 LoseReply ∷ Steps 0 2 ∷ []

  -- A client whose push was joined, and whose reply was lost, doesn't see what others joined before.
  pub example_apart : ((after_sweeps sums apart others_first 2 0).batches ≡ batch 1 1 0 [] (adds 1 ∷ Yield ∷ []) ∷ batch 0 1 0 [] (Yield ∷ []) ∷ [])
      × (((after_sweeps sums apart others_first 2 0).client 0).tail ≡ record { sent = Some (batch 0 1 0 [] (Yield ∷ [])); now = record { base = None; before = prints 0; rest = [] } })
  example_apart = (refl, refl)
