-- How many rounds a client has, as it pulls, pushes and flushes.
use Rattle.std.proofs.Common.{◌≡◌, refl, ap, sym, ◌∙◌, subst, ℕ, ◌+◌, ◌≤◌, Bool, true, false, List, [], ◌∷◌, length, Option, Some, None, arith}
use Rattle.std.specs.Prelude.{if◌then◌else◌}
use Rattle.std.specs.Option.{ForSome}
use Rattle.std.proofs.lemmas.Bool.{eq-eqb, true≢false}
use Rattle.std.proofs.lemmas.List.{length-append}
use Rattle.cloud_base.specs.declared.batch.Batch.{Batch}
use Rattle.cloud_base.specs.declared.batch.Tail.{Tail}
use Rattle.batch_history.specs.Batches.{of_client}
use Rattle.played_record.specs.Clients.{Client, Reply, Flushing, closed, marked, awaits, own_batches, fetched, took, pulled, next_batch, sends, round_sent, is_met, flush_after_push, flush_pushed, turned}
use Rattle.played_record.specs.Laws.{IsClientOf}
use Rattle.played_record.proofs.Told.{sends_own, own_none, took_own}
use Rattle.played_record.proofs.Going.{IsTaken, fetched_is}
use Rattle.played_bounds.specs.Few.{rounds_owed}

-- the rounds of a client with this tail
abbrev pub rounds_in : ℕ → List Batch → Tail → ℕ
rounds_in c batches tail = length (own_batches c batches tail)

-- and that which its flush will take
abbrev pub rounds_of : ℕ → List Batch → Client → ℕ
rounds_of c batches x = rounds_in c batches x.tail + rounds_owed x.flush

-- ---- a pull and a push

-- a pull leaves a client its own batches
took_rounds : (c : ℕ) (batches : List Batch) (x : Client) (got : Option Reply) → IsClientOf c batches x
    → ForSome got (IsTaken x.tail.sent x.inbox)
    → rounds_in c batches (took got x.tail) ≡ rounds_in c batches x.tail
took_rounds c batches x None h is = refl
took_rounds c batches x (Some reply) h is =
    let it = is reply refl in
    let joined : it.b.round ≤ length (of_client c batches) =
    subst (λ (n : ℕ). n ≤ length (of_client c batches)) it.same (h.inbox reply it.found_is) in
    ap (λ (bs : List Batch). length bs) (took_own c batches it.b reply.base x.tail it.sent_is joined)

pub pulled_rounds : (c : ℕ) (batches : List Batch) (x : Client) → IsClientOf c batches x
    → rounds_in c batches (pulled x).tail ≡ rounds_in c batches x.tail
pulled_rounds c batches x h = took_rounds c batches x (fetched x.tail.sent x.inbox) h (fetched_is x.tail.sent x.inbox)

-- a push where nothing is outstanding has one more
sends_one : (c : ℕ) (batches : List Batch) (tail : Tail) → tail.sent ≡ None
    → rounds_in c batches (sends c batches None tail) ≡ rounds_in c batches tail + 1
sends_one c batches tail is =
    let own = of_client c batches in
    let next = next_batch c batches tail.now in
    let longer : rounds_in c batches (sends c batches None tail) ≡ length own + 1 =
    ap (λ (bs : List Batch). length bs) (sends_own c batches tail is) ∙ length-append own (next ∷ []) in
    let before : rounds_in c batches tail ≡ length own = ap (λ (bs : List Batch). length bs) (own_none c batches tail is) in
    omega arith

-- so a push has at most one more
pub sends_rounds : (c : ℕ) (batches : List Batch) (tail : Tail) (sent : Option Batch) → tail.sent ≡ sent
    → rounds_in c batches (sends c batches sent tail) ≤ rounds_in c batches tail + 1
sends_rounds c batches tail None is = omega (arith, sends_one c batches tail is)
sends_rounds c batches tail (Some b) is = omega arith

-- ---- a turn of a flush

-- a flush that awaits a round finds it outstanding
abbrev Awaits : Flushing → Option Batch → Type 0
Awaits flush sent = (round : ℕ) → flush ≡ awaits round → round_sent sent ≡ Some round

-- its push takes the round that it owes, or none
push_rounds : (c : ℕ) (batches : List Batch) (tail : Tail) (sent : Option Batch) (flush : Flushing) → tail.sent ≡ sent
    → (flush ≡ closed → ⊥) → Awaits flush sent
    → rounds_in c batches (sends c batches sent tail)
    + rounds_owed (flush_after_push flush sent (round_sent (sends c batches sent tail).sent))
    ≤ rounds_in c batches tail + rounds_owed flush
push_rounds c batches tail None closed is flushes h = absurd (flushes refl)
push_rounds c batches tail (Some b) closed is flushes h = absurd (flushes refl)
push_rounds c batches tail None marked is flushes h = omega (arith, sends_one c batches tail is)
push_rounds c batches tail (Some b) marked is flushes h = omega arith
push_rounds c batches tail None (awaits n) is flushes h = absurd (cc (h n refl))
push_rounds c batches tail (Some b) (awaits n) is flushes h = omega arith

-- a flush that isn't met still awaits the outstanding round behind a pull
still : (flush : Flushing) (tail : Tail) (found got : Option Reply) → ForSome got (IsTaken tail.sent found)
    → is_met flush got ≡ false
    → Awaits flush tail.sent → Awaits flush (took got tail).sent
still flush tail found None is unmet h round e = h round e
still flush tail found (Some reply) is unmet h round e =
    let it = is reply refl in
    let sent : Some it.b.round ≡ Some round = sym (ap round_sent it.sent_is) ∙ h round e in
    let number : it.b.round ≡ round = cc (sent) in
    let met : is_met flush (Some reply) ≡ true =
    ap (λ (f : Flushing). is_met f (Some reply)) e ∙ eq-eqb reply.round round (it.same ∙ number) in
    absurd (true≢false (sym met ∙ unmet))

turn_by : (c : ℕ) (batches : List Batch) (x : Client) (met : Bool) → is_met x.flush (fetched x.tail.sent x.inbox) ≡ met
    → IsClientOf c batches x → (x.flush ≡ closed → ⊥)
    → rounds_of c batches (if met then record (pulled x) { flush = closed } else flush_pushed c batches (pulled x))
    ≤ rounds_of c batches x
turn_by c batches x true is h flushes = omega (arith, pulled_rounds c batches x h)
turn_by c batches x false is h flushes =
    let got = fetched x.tail.sent x.inbox in
    let z = pulled x in
    let pull = pulled_rounds c batches x h in
    let push = push_rounds c batches z.tail z.tail.sent x.flush refl flushes
    (still x.flush x.tail x.inbox got (fetched_is x.tail.sent x.inbox) is h.flush) in
    omega arith

pub turned_rounds : (c : ℕ) (batches : List Batch) (x : Client) → IsClientOf c batches x → (x.flush ≡ closed → ⊥)
    → rounds_of c batches (turned c batches x) ≤ rounds_of c batches x
turned_rounds c batches x h flushes = turn_by c batches x (is_met x.flush (fetched x.tail.sent x.inbox)) refl h flushes
