-- What a client of a run has done is little.
use Rattle.std.proofs.Common.{◌≡◌, refl, sym, ap, ◌∙◌, arith, append_assoc}
use Rattle.std.specs.Prelude.{ℕ, ◌+◌, ◌≤◌, ◌<◌, ◌^◌, List, [], ◌∷◌, ◌++◌, length, map}
use Rattle.cloud_base.specs.Events.{updates_of}
use Rattle.cloud_base.specs.declared.batch.Batch.{Batch}
use Rattle.cloud_base.specs.declared.batch.Stretch.{Stretch}
use Rattle.cloud_base.specs.declared.update.Event.{Event}
use Rattle.batch_history.specs.Batches.{all_events, of_client, stretch_of, stretches, unjoined}
use Rattle.typed_program.specs.Trace.{budget}
use Rattle.session_core.specs.Standings.{Standing, now_of, tail_of, updates_done}
use Rattle.client_runner.specs.Steps.{Ran, did}
use Rattle.client_runner.proofs.Doing.{updates_did}
use Rattle.played_record.specs.Clients.{Client, own_batches}
use Rattle.played_record.specs.Worlds.{World, did as did_in}
use Rattle.played_bounds.specs.Few.{HasFewRounds, acts_in}
use Rattle.played_moments.specs.Moments.{IsAt, Mail}

map_both : (xs ys : List Batch) → map stretch_of (xs ++ ys) ≡ map stretch_of xs ++ map stretch_of ys
map_both [] ys = refl
map_both (x ∷ xs) ys = ap (λ (l : List Stretch). stretch_of x ∷ l) (map_both xs ys)

its_stretches : (c : ℕ) (batches : List Batch) (s : Standing) → own_batches c batches (tail_of s) ≡ s.own.list → stretches batches (tail_of s) c ≡ map stretch_of s.own.list ++ now_of s ∷ []
its_stretches c batches s own =
    let joined : List Batch = of_client c batches in
    let left : List Batch = unjoined joined s.sent in
    sym (append_assoc (map stretch_of joined) (map stretch_of left) (now_of s ∷ []))
    ∙ ap (λ (l : List Stretch). l ++ now_of s ∷ []) (sym (map_both joined left) ∙ ap (map stretch_of) own)

-- a client's session has the events that the played run has
pub did_at : (c : ℕ) (run : Ran) (mail : Mail) (w : World) → IsAt c run mail w → did_in c w ≡ did run.stands
did_at c run mail w h =
    ap (λ (x : Client). all_events (stretches w.batches x.tail c)) h.part ∙ ap all_events (its_stretches c w.batches run.stands h.behind.own)

pub few_updates : (c : ℕ) (run : Ran) (mail : Mail) (w : World) → IsAt c run mail w → acts_in (did_in c w) ≤ budget
    → ((events : List Event) → length (updates_of events) ≤ acts_in events) → length (updates_done run.stands) + 1 < 2 ^ 28
few_updates c run mail w h acts updates =
    let same : length (updates_of (did_in c w)) ≡ length (updates_done run.stands) = ap (λ (l : List Event). length (updates_of l)) (did_at c run mail w h) ∙ ap length (updates_did run.stands) in
    let less = updates (did_in c w) in
    omega (arith, same, less, acts)

pub few_rounds : (c : ℕ) (run : Ran) (mail : Mail) (w : World) → IsAt c run mail w → HasFewRounds w → acts_in (did_in c w) ≤ budget → length run.stands.own.list < 2 ^ 32
few_rounds c run mail w h few acts =
    let same : length (own_batches c w.batches (w.client c).tail) ≡ length run.stands.own.list = ap (λ (x : Client). length (own_batches c w.batches x.tail)) h.part ∙ ap length h.behind.own in
    let rounds = few.rounds c in
    omega (arith, same, rounds, acts)
