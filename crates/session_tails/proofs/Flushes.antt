-- The flushes of a client whose session is over were met.
use Rattle.std.specs.Prelude.{◌≡◌, ℕ, List, [], ◌∷◌, ◌++◌, map}
use Rattle.std.proofs.Common.{sym, ap, subst, ◌∙◌}
use Rattle.std.proofs.lemmas.List.{map-append, append_assoc}
use Rattle.cloud_base.specs.declared.batch.Batch.{Batch}
use Rattle.cloud_base.specs.declared.batch.Stretch.{Stretch}
use Rattle.cloud_base.specs.declared.batch.Tail.{Tail}
use Rattle.cloud_base.specs.declared.schema.Schema.{Schema}
use Rattle.batch_history.specs.Batches.{of_client, unjoined, stretch_of, stretches}
use Rattle.batch_history.specs.Flushed.{FlushedStretches}
use Rattle.played_record.specs.Clients.{own_batches}
use Rattle.session_core.specs.declared.flushing.Flushing.{Flushing}
use Rattle.session_core.specs.Standings.{met, now_of}
use Rattle.session_tails.specs.Left.{IsLeftBy}

-- the stretches of a client are those of its own batches, and what ran since
own_stretches : (c : ℕ) (batches : List Batch) (tail : Tail) →
    stretches batches tail c ≡ map stretch_of (own_batches c batches tail) ++ tail.now ∷ []
own_stretches c batches tail =
    sym (append_assoc (map stretch_of (of_client c batches)) (map stretch_of (unjoined (of_client c batches) tail.sent)) (tail.now ∷ []))
    ∙ ap (λ (k : List Stretch). k ++ tail.now ∷ [])
    (sym (map-append stretch_of (of_client c batches) (unjoined (of_client c batches) tail.sent)))

pub flushed_left : (schema : Schema) (c : ℕ) (batches : List Batch) (tail : Tail) →
    IsLeftBy schema c batches tail → FlushedStretches (stretches batches tail c)
flushed_left schema c batches tail l = subst (λ (k : List Stretch). FlushedStretches k) (sym are) met_closed
  where
    met_closed : FlushedStretches (map stretch_of l.stands.own.list ++ now_of l.stands ∷ [])
    met_closed =
        subst (λ (f : Flushing). FlushedStretches (map stretch_of l.stands.own.list ++ met l.stands f)) l.closed l.standing.flushed

    are : stretches batches tail c ≡ map stretch_of l.stands.own.list ++ now_of l.stands ∷ []
    are =
        own_stretches c batches tail
        ∙ ap (λ (k : List Batch). map stretch_of k ++ tail.now ∷ []) l.own
        ∙ ap (λ (t : Tail). map stretch_of l.stands.own.list ++ t.now ∷ []) l.tail_is
