-- What a client did, as its pushes are joined and it goes on.
use Rattle.std.proofs.Common.{◌≡◌, refl, ap, sym, ◌∙◌, ℕ, ◌+◌, ◌≤◌, Bool, cond, List, [], ◌∷◌, ◌++◌, length, Option, Some, None, arith, append-nil}
use Rattle.std.specs.Prelude.{map}
use Rattle.std.proofs.lemmas.Bool.{eq-eqb, ne_eqb}
use Rattle.std.proofs.lemmas.List.{append_assoc}
use Rattle.cloud_base.specs.declared.batch.Batch.{Batch}
use Rattle.cloud_base.specs.declared.batch.Stretch.{Stretch}
use Rattle.cloud_base.specs.declared.batch.Tail.{Tail}
use Rattle.cloud_base.specs.declared.update.Event.{Event}
use Rattle.batch_history.specs.Batches.{of_client, unjoined, stretch_of, all_events, did_by}
use Rattle.played_record.specs.Clients.{own_batches, noted_at, sends, next_batch}

-- the events of batches, in order
abbrev pub run_in : List Batch → List Event
run_in batches = all_events (map stretch_of batches)

abbrev pub events_of : ℕ → List Batch → Tail → List Event
events_of c batches tail = run_in (own_batches c batches tail) ++ (tail.now.before ++ tail.now.rest)

run_in-append : (own : List Batch) (stretches : List Stretch) → all_events (map stretch_of own ++ stretches) ≡ run_in own ++ all_events stretches
run_in-append [] stretches = refl
run_in-append (b ∷ own) stretches =
    ap (λ (l : List Event). (b.before ++ b.rest) ++ l) (run_in-append own stretches) ∙ sym (append_assoc (b.before ++ b.rest) (run_in own) (all_events stretches))

pub run_in-parts : (own more : List Batch) → run_in (own ++ more) ≡ run_in own ++ run_in more
run_in-parts [] more = refl
run_in-parts (b ∷ own) more = ap (λ (l : List Event). (b.before ++ b.rest) ++ l) (run_in-parts own more) ∙ sym (append_assoc (b.before ++ b.rest) (run_in own) (run_in more))

-- it is what its batches did, and what ran since
pub did_parts : (c : ℕ) (batches : List Batch) (tail : Tail) → did_by batches c (Some tail) ≡ events_of c batches tail
did_parts c batches tail =
    let own = of_client c batches in
    let sent = unjoined own tail.sent in
    let now = tail.now.before ++ tail.now.rest in
    run_in-append own (map stretch_of sent ++ tail.now ∷ [])
    ∙ ap (λ (l : List Event). run_in own ++ l) (run_in-append sent (tail.now ∷ []))
    ∙ ap (λ (l : List Event). run_in own ++ (run_in sent ++ l)) (append-nil now)
    ∙ sym (append_assoc (run_in own) (run_in sent) now)
    ∙ ap (λ (l : List Event). l ++ now) (sym (run_in-parts own sent))

-- ---- an event more

noted_events : (base : Option ℕ) (event : Event) (now : Stretch) → (base ≡ None → now.rest ≡ [])
    → (noted_at base event now).before ++ (noted_at base event now).rest ≡ (now.before ++ now.rest) ++ event ∷ []
noted_events (Some base) event now empty = sym (append_assoc now.before now.rest (event ∷ []))
noted_events None event now empty =
    ap (λ (l : List Event). (now.before ++ event ∷ []) ++ l) (empty refl) ∙ append-nil (now.before ++ event ∷ [])
    ∙ sym (ap (λ (l : List Event). (now.before ++ l) ++ event ∷ []) (empty refl) ∙ ap (λ (l : List Event). l ++ event ∷ []) (append-nil now.before))

pub noted_more : (c : ℕ) (batches : List Batch) (tail : Tail) (event : Event) → (tail.now.base ≡ None → tail.now.rest ≡ [])
    → events_of c batches (record tail { now = noted_at tail.now.base event tail.now }) ≡ events_of c batches tail ++ event ∷ []
noted_more c batches tail event empty =
    ap (λ (l : List Event). run_in (own_batches c batches tail) ++ l) (noted_events tail.now.base event tail.now empty)
    ∙ sym (append_assoc (run_in (own_batches c batches tail)) (tail.now.before ++ tail.now.rest) (event ∷ []))

-- ---- a push

unjoined_next : (own : List Batch) (b : Batch) → b.round ≡ length own + 1 → unjoined own (Some b) ≡ b ∷ []
unjoined_next own b e = ap (λ (t : Bool). cond t (b ∷ []) []) (eq-eqb b.round (length own + 1) e)

pub unjoined_there : (own : List Batch) (b : Batch) → b.round ≤ length own → unjoined own (Some b) ≡ []
unjoined_there own b l = ap (λ (t : Bool). cond t (b ∷ []) []) (ne_eqb b.round (length own + 1) (λ e. omega arith))

pub sends_own : (c : ℕ) (batches : List Batch) (tail : Tail) → tail.sent ≡ None
    → own_batches c batches (sends c batches None tail) ≡ of_client c batches ++ next_batch c batches tail.now ∷ []
sends_own c batches tail e = ap (λ (l : List Batch). of_client c batches ++ l) (unjoined_next (of_client c batches) (next_batch c batches tail.now) refl)

pub own_none : (c : ℕ) (batches : List Batch) (tail : Tail) → tail.sent ≡ None → own_batches c batches tail ≡ of_client c batches
own_none c batches tail e = ap (λ (sent : Option Batch). of_client c batches ++ unjoined (of_client c batches) sent) e ∙ append-nil (of_client c batches)

sends_none : (c : ℕ) (batches : List Batch) (tail : Tail) → tail.sent ≡ None → events_of c batches (sends c batches None tail) ≡ events_of c batches tail
sends_none c batches tail e =
    let own = of_client c batches in
    let now = tail.now.before ++ tail.now.rest in
    append-nil (run_in (own_batches c batches (sends c batches None tail)))
    ∙ ap run_in (sends_own c batches tail e)
    ∙ run_in-parts own (next_batch c batches tail.now ∷ [])
    ∙ ap (λ (l : List Event). run_in own ++ l) (append-nil now)
    ∙ ap (λ (l : List Batch). run_in l ++ now) (sym (own_none c batches tail e))

pub sends_same : (c : ℕ) (batches : List Batch) (sent : Option Batch) (tail : Tail) → tail.sent ≡ sent
    → events_of c batches (sends c batches sent tail) ≡ events_of c batches tail
sends_same c batches None tail e = sends_none c batches tail e
sends_same c batches (Some b) tail e = refl

-- ---- a pull

-- the reply to a round that was joined
pub took_same : (c : ℕ) (batches : List Batch) (b : Batch) (base : ℕ) (tail : Tail) → tail.sent ≡ Some b → b.round ≤ length (of_client c batches)
    → tail.now.rest ≡ []
    → events_of c batches (record { sent = None; now = record { base = Some base; before = tail.now.before; rest = [] } }) ≡ events_of c batches tail
took_same c batches b base tail e l none =
    let own = of_client c batches in
    let gone : unjoined own None ≡ unjoined own tail.sent = sym (ap (λ (s : Option Batch). unjoined own s) e ∙ unjoined_there own b l) in
    ap (λ (more : List Batch). run_in (own ++ more) ++ (tail.now.before ++ [])) gone
    ∙ ap (λ (rest : List Event). run_in (own_batches c batches tail) ++ (tail.now.before ++ rest)) (sym none)

pub took_own : (c : ℕ) (batches : List Batch) (b : Batch) (base : ℕ) (tail : Tail) → tail.sent ≡ Some b → b.round ≤ length (of_client c batches)
    → own_batches c batches (record { sent = None; now = record { base = Some base; before = tail.now.before; rest = [] } }) ≡ own_batches c batches tail
took_own c batches b base tail e l =
    let own = of_client c batches in
    ap (λ (more : List Batch). own ++ more) (sym (ap (λ (s : Option Batch). unjoined own s) e ∙ unjoined_there own b l))
