-- Records whose flushes were met, and whose clients ran their programs.
use Rattle.std.specs.Prelude.{◌≡◌, ℕ, List, [], ◌∷◌, Some, None, slice_get, is_some, IsTrue, ⊤}
use Rattle.std.specs.List.{last_or}
use Rattle.cloud_base.specs.Events.{Outcome, ended, answers_in}
use Rattle.cloud_base.specs.declared.batch.Batch.{Batch}
use Rattle.cloud_base.specs.declared.batch.Stretch.{Stretch}
use Rattle.cloud_base.specs.declared.batch.Tail.{Tail}
use Rattle.cloud_base.specs.declared.end.End.{End}
use Rattle.cloud_base.specs.declared.update.Answer.{Answer}
use Rattle.cloud_base.specs.declared.update.Event.{Event}
use Rattle.cloud_base.specs.declared.update.Event.TheVariants.{Do, Ask, Say, Yield, Flush}
use Rattle.batch_history.specs.Batches.{events_in, stretches, did}

-- no flush but at the end
abbrev pub FlushesEnd : List Event → Type 0
FlushesEnd [] = ⊤
FlushesEnd (Flush ∷ events) = events ≡ []
FlushesEnd (Do u ∷ events) = FlushesEnd events
FlushesEnd (Ask q a ∷ events) = FlushesEnd events
FlushesEnd (Say v ∷ events) = FlushesEnd events
FlushesEnd (Yield ∷ events) = FlushesEnd events

-- what follows begins with what was received
abbrev pub BeginsReceived : List Stretch → Type 0
BeginsReceived [] = ⊥
BeginsReceived (s ∷ more) = (s.before ≡ []) × IsTrue (is_some s.base)

-- a flush is the last event of its stretch, and the client's next stretch begins with the pull that meets it
abbrev pub FlushedStretches : List Stretch → Type 0
FlushedStretches [] = ⊤
FlushedStretches (s ∷ more) = FlushesEnd (events_in s) × (last_or None (events_in s) ≡ Some Flush → BeginsReceived more) × FlushedStretches more

-- each client's flushes were met before it went on, or ended
abbrev pub Flushed : List Batch → List Tail → Type 0
Flushed batches tails = (c : ℕ) (tail : Tail) → slice_get tails c ≡ Some tail → FlushedStretches (stretches batches tail c)

-- each client did what its trace says for the answers that it got, up to its end
abbrev pub Traced : (ℕ → List Answer → List Event × Outcome) → List Batch → List Tail → List End → Type 0
Traced trace batches tails ends = (c : ℕ) (end : End) → slice_get ends c ≡ Some end → trace c (answers_in (did batches tails c)) ≡ (did batches tails c, ended end)
