-- A client keeps few rounds, as it takes steps and is served.
use Rattle.std.proofs.Common.{◌≡◌, refl, ap, sym, ◌∙◌, subst, ℕ, ◌+◌, ◌≤◌, List, [], ◌∷◌, length, Option, Some, None, inl, inr, arith}
use Rattle.std.proofs.lemmas.Bool.{cases_eq}
use Rattle.cloud_base.specs.Events.{Outcome, ended, asks}
use Rattle.cloud_base.specs.declared.batch.Batch.{Batch}
use Rattle.cloud_base.specs.declared.batch.Tail.{Tail}
use Rattle.cloud_base.specs.declared.end.End.{End}
use Rattle.cloud_base.specs.declared.schedule.Fate.{Fate}
use Rattle.cloud_base.specs.declared.update.Answer.{Answer}
use Rattle.cloud_base.specs.declared.update.Event.{Event}
use Rattle.cloud_base.specs.declared.update.Event.TheVariants.{Do, Ask, Say, Yield, Flush}
use Rattle.cloud_base.specs.declared.update.Query.{Query}
use Rattle.cloud_base.specs.declared.update.Update.{Update}
use Rattle.batch_history.specs.Batches.{did_by}
use Rattle.played_record.specs.Clients.{Client, Flushing, closed, marked, awaits, seen, noted, pulled, yielded, turned, flushed, done}
use Rattle.played_record.specs.Laws.{IsClientOf, GoesOn, IsMoment}
use Rattle.played_record.specs.Plays.{next_event, comes_out, goes_on, stepped, step}
use Rattle.played_record.specs.Worlds.{World, opening, did, served}
use Rattle.played_record.proofs.Going.{GoesTo, noted_goes, yielded_goes, turned_goes, flushed_goes}
use Rattle.played_record.proofs.Moments.{did_more}
use Rattle.played_record.proofs.Only.{served_only}
use Rattle.played_record.proofs.Serving.{at_client, own_served, served_keeps}
use Rattle.played_bounds.specs.Few.{acts_in, rounds_owed, HasFewRounds}
use Rattle.played_bounds.proofs.Acts.{acts_in-append}
use Rattle.played_bounds.proofs.Rounds.{rounds_in, rounds_of, pulled_rounds, sends_rounds, turned_rounds}

abbrev acts_of : ℕ → List Batch → Client → ℕ
acts_of c batches x = acts_in (did_by batches c (Some x.tail))

-- client c's part has few rounds
abbrev IsFew : ℕ → List Batch → Client → Type 0
IsFew c batches x = rounds_of c batches x ≤ acts_of c batches x

-- it has the acts of these events more
acts_more : (c : ℕ) (batches : List Batch) (x y : Client) (more : List Event) → GoesTo c batches x y more
    → acts_of c batches y ≡ acts_of c batches x + acts_in more
acts_more c batches x y more goes =
    ap acts_in (did_more c batches x y more goes) ∙ acts_in-append (did_by batches c (Some x.tail)) more

-- an event alone takes no round
noted_few : (c : ℕ) (batches : List Batch) (event : Event) (x : Client) → IsClientOf c batches x → IsFew c batches x
    → IsFew c batches (noted event x)
noted_few c batches event x h few =
    omega (arith, acts_more c batches x (noted event x) (event ∷ []) (noted_goes c batches x event h))

-- a yield takes one at most
yielded_few : (c : ℕ) (batches : List Batch) (x : Client) → IsClientOf c batches x → x.flush ≡ closed → IsFew c batches x
    → IsFew c batches (yielded c batches x)
yielded_few c batches x h shut few =
    let y = noted Yield x in
    let z = pulled y in
    let acts = acts_more c batches x (yielded c batches x) (Yield ∷ []) (yielded_goes c batches x h shut) in
    let pull : rounds_in c batches z.tail ≡ rounds_in c batches x.tail =
    pulled_rounds c batches y (noted_goes c batches x Yield h).stands in
    let push = sends_rounds c batches z.tail z.tail.sent refl in
    omega arith

-- a turn of a flush takes the one that it owes
turned_few : (c : ℕ) (batches : List Batch) (x : Client) → IsClientOf c batches x → (x.flush ≡ closed → ⊥) → IsFew c batches x
    → IsFew c batches (turned c batches x)
turned_few c batches x h flushes few =
    let acts = acts_more c batches x (turned c batches x) [] (turned_goes c batches x h) in
    let turn = turned_rounds c batches x h flushes in
    omega arith

abbrev marking : Client → Client
marking x = record x { flush = marked }

marking_stands : (c : ℕ) (batches : List Batch) (x : Client) → IsClientOf c batches x → IsClientOf c batches (marking x)
marking_stands c batches x h = record {
  own = h.own;
  round = h.round;
  waits = h.waits;
  unpulled = h.unpulled;
  out = h.out;
  held = h.held;
  inbox = h.inbox;
  apart = h.apart;
  quiet = h.quiet;
  flush = λ round e. absurd (cc (e));
}

-- and a flush owes one from its mark on
flushed_few : (c : ℕ) (batches : List Batch) (x : Client) → IsClientOf c batches x → x.flush ≡ closed → IsFew c batches x
    → IsFew c batches (flushed c batches x)
flushed_few c batches x h shut few =
    let y = noted Flush x in
    let acts = acts_more c batches x (flushed c batches x) (Flush ∷ []) (flushed_goes c batches x h) in
    let stands = marking_stands c batches y (noted_goes c batches x Flush h).stands in
    let turn = turned_rounds c batches (marking y) stands (λ e. absurd (cc (e))) in
    omega (arith, ap rounds_owed shut)

done_few : (event : Event) (c : ℕ) (batches : List Batch) (x : Client) → IsClientOf c batches x → x.flush ≡ closed
    → IsFew c batches x → IsFew c batches (done event c batches x)
done_few Yield c batches x h shut few = yielded_few c batches x h shut few
done_few Flush c batches x h shut few = flushed_few c batches x h shut few
done_few (Do u) c batches x h shut few = noted_few c batches (Do u) x h few
done_few (Ask q a) c batches x h shut few = noted_few c batches (Ask q a) x h few
done_few (Say v) c batches x h shut few = noted_few c batches (Say v) x h few

-- ---- steps

pub opening_few : HasFewRounds opening
opening_few = record { rounds = λ c. omega arith }

module _ (answers : List Update → Query → Answer) (trace : ℕ → List Answer → List Event × Outcome) where
  comes_out_few : (outcome : Outcome) (c : ℕ) (w : World) → IsClientOf c w.batches (w.client c) → IsFew c w.batches (w.client c)
      → IsFew c w.batches (comes_out answers trace outcome c w)
  comes_out_few (asks q) c w h few =
      noted_few c w.batches (Ask q (answers (seen c w.batches (w.client c).tail) q)) (w.client c) h few
  comes_out_few (ended end) c w h few = few

  goes_on_few : (next : Option Event) (c : ℕ) (w : World) → IsClientOf c w.batches (w.client c) → (w.client c).flush ≡ closed
      → IsFew c w.batches (w.client c)
      → IsFew c w.batches (goes_on answers trace next c w)
  goes_on_few (Some event) c w h shut few = done_few event c w.batches (w.client c) h shut few
  goes_on_few None c w h shut few = comes_out_few (trace c (w.client c).answers).1 c w h few

  stepped_few : (end : Option End) (flush : Flushing) (c : ℕ) (w : World) → IsClientOf c w.batches (w.client c)
      → (w.client c).flush ≡ flush
      → IsFew c w.batches (w.client c) → IsFew c w.batches (stepped answers trace end flush c w)
  stepped_few (Some end) flush c w h is few = few
  stepped_few None closed c w h is few = goes_on_few (next_event answers trace c w) c w h is few
  stepped_few None marked c w h is few = turned_few c w.batches (w.client c) h (λ e. absurd (cc (is, e))) few
  stepped_few None (awaits round) c w h is few = turned_few c w.batches (w.client c) h (λ e. absurd (cc (is, e))) few

  pub step_few : (c : ℕ) (w : World) → GoesOn trace → IsMoment trace w → HasFewRounds w → HasFewRounds (step answers trace c w)
  step_few c w g h few =
      let y = stepped answers trace (w.client c).end (w.client c).flush c w in
      let here : IsFew c w.batches y = stepped_few (w.client c).end (w.client c).flush c w (h.client c) refl (few.rounds c) in
      record { rounds = at_client (λ (k : ℕ) (z : Client). IsFew k w.batches z) c y w here few.rounds }

-- ---- serves

-- a serve changes no tail and no flush
abbrev IsSame : Client → Client → Type 0
IsSame x y = (y.tail ≡ x.tail) × (y.flush ≡ x.flush)

served_same : (c k : ℕ) (fate : Fate) (w : World) → IsSame (w.client k) ((served c fate w).client k)
served_same c k fate w =
    let only = served_only c fate w in
    elim (cases_eq k c) [
      | inl e ↦ subst (λ (j : ℕ). IsSame (w.client j) ((served c fate w).client j)) (sym e)
          (ap (λ (x : Client). x.tail) only.boxes, ap (λ (x : Client). x.flush) only.boxes)
      | inr other ↦
          let same = only.others k other in
          (ap (λ (x : Client). x.tail) same, ap (λ (x : Client). x.flush) same)
    ]

pub served_few : (trace : ℕ → List Answer → List Event × Outcome) (c : ℕ) (fate : Fate) (w : World) → IsMoment trace w
    → HasFewRounds w → HasFewRounds (served c fate w)
served_few trace c fate w h few = record { rounds = at }
  where
    at : (k : ℕ) → rounds_of k (served c fate w).batches ((served c fate w).client k) ≤ acts_in (did k (served c fate w))
    at k =
        let v = served c fate w in
        let same = served_same c k fate w in
        let own : rounds_in k v.batches (v.client k).tail ≡ rounds_in k w.batches (w.client k).tail =
        ap (λ (t : Tail). rounds_in k v.batches t) same.0
        ∙ ap (λ (bs : List Batch). length bs) (own_served c fate w h.client k) in
        let owed : rounds_owed (v.client k).flush ≡ rounds_owed (w.client k).flush = ap rounds_owed same.1 in
        let acts : acts_in (did k v) ≡ acts_in (did k w) = ap acts_in ((served_keeps c fate w h.client).did k) in
        let before = few.rounds k in
        omega arith
