-- Flushes of a session, as it goes on.
use Rattle.std.proofs.Common.{◌≡◌, refl, sym, ◌∙◌, ap, subst, List, [], ◌∷◌, ◌++◌, Some, None}
use Rattle.std.specs.Prelude.{◌≢◌}
use Rattle.std.specs.List.{last_or}
use Rattle.cloud_base.specs.declared.batch.Stretch.{Stretch}
use Rattle.cloud_base.specs.declared.update.Event.{Event}
use Rattle.cloud_base.specs.declared.update.Event.TheVariants.{Do, Ask, Say, Yield, Flush}
use Rattle.batch_history.specs.Batches.{events_in}
use Rattle.batch_history.specs.Flushed.{FlushesEnd, BeginsReceived, FlushedStretches}
use Rattle.session_core.specs.Standings.{received, IsMarked}
use Rattle.session_core.proofs.EventLemmas.{last_or-last, last_or-some}

-- ---- stretches of which only the last change

begins_with : (xs l m : List Stretch) → (BeginsReceived l → BeginsReceived m) → BeginsReceived (xs ++ l) → BeginsReceived (xs ++ m)
begins_with [] l m begin h = begin h
begins_with (x ∷ xs) l m begin h = h

pub flushed_with : (xs l m : List Stretch) → (BeginsReceived l → BeginsReceived m) → (FlushedStretches l → FlushedStretches m) → FlushedStretches (xs ++ l) → FlushedStretches (xs ++ m)
flushed_with [] l m begin rest h = rest h
flushed_with (x ∷ xs) l m begin rest h = (h.0, λ e. begins_with xs l m begin (h.1 e), flushed_with xs l m begin rest h.2)

-- ---- an event more

flushes_end_one : (e : Event) → FlushesEnd (e ∷ [])
flushes_end_one (Do u) = tt
flushes_end_one (Ask q a) = tt
flushes_end_one (Say v) = tt
flushes_end_one Yield = tt
flushes_end_one Flush = refl

flushes_end_more : (l : List Event) (e : Event) → FlushesEnd l → ¬ IsMarked l → FlushesEnd (l ++ e ∷ [])
flushes_end_more [] e h unmarked = flushes_end_one e
flushes_end_more (Do u ∷ l) e h unmarked = flushes_end_more l e h (λ k. unmarked (last_or-some (Some (Do u)) l Flush k))
flushes_end_more (Ask q a ∷ l) e h unmarked = flushes_end_more l e h (λ k. unmarked (last_or-some (Some (Ask q a)) l Flush k))
flushes_end_more (Say v ∷ l) e h unmarked = flushes_end_more l e h (λ k. unmarked (last_or-some (Some (Say v)) l Flush k))
flushes_end_more (Yield ∷ l) e h unmarked = flushes_end_more l e h (λ k. unmarked (last_or-some (Some Yield) l Flush k))
flushes_end_more (Flush ∷ l) e h unmarked = absurd (unmarked (ap (last_or (Some Flush)) h))

-- one stretch is another with an event more
pub record GoesOn (old new : Stretch) (e : Event) : Type 0 where
  pub events : events_in new ≡ events_in old ++ e ∷ []
  pub begins : BeginsReceived (old ∷ []) → BeginsReceived (new ∷ [])

pub flushed_noted : (xs : List Stretch) (old new : Stretch) (e : Event) → GoesOn old new e → e ≢ Flush → FlushedStretches (xs ++ old ∷ []) → FlushedStretches (xs ++ new ∷ [])
flushed_noted xs old new e on quiet h =
    flushed_with xs (old ∷ []) (new ∷ []) on.begins (λ k. (
      subst FlushesEnd (sym on.events) (flushes_end_more (events_in old) e k.0 k.1),
      λ marked.
          let ends : last_or None (events_in new) ≡ Some e = ap (last_or None) on.events ∙ last_or-last None (events_in old) e in
          absurd (quiet (cc (ends, marked))),
      tt,
    )) h

pub flushed_marked : (xs : List Stretch) (old new : Stretch) → GoesOn old new Flush → FlushedStretches (xs ++ old ∷ []) → FlushedStretches (xs ++ new ∷ received ∷ [])
flushed_marked xs old new on h =
    flushed_with xs (old ∷ []) (new ∷ received ∷ []) on.begins (λ k. (
      subst FlushesEnd (sym on.events) (flushes_end_more (events_in old) Flush k.0 k.1),
      λ marked. (refl, refl),
      (tt, λ marked. cc, tt),
    )) h
