-- What a client's calls keep, and which events they add.
use Rattle.std.proofs.Common.{◌≡◌, refl, ap, sym, subst, ◌∙◌, ℕ, ◌+◌, ◌≤◌, Bool, true, false, List, [], ◌∷◌, ◌++◌, length, Option, Some, None, inl, inr, arith, append-nil}
use Rattle.std.specs.Prelude.{if◌then◌else◌}
use Rattle.std.specs.Option.{ForSome}
use Rattle.std.proofs.lemmas.Bool.{cases_eq, eq-eqb, ne_eqb, true≢false}
use Rattle.std.proofs.lemmas.List.{append_assoc, length-append}
use Rattle.cloud_base.specs.declared.batch.Batch.{Batch}
use Rattle.cloud_base.specs.declared.batch.Stretch.{Stretch}
use Rattle.cloud_base.specs.declared.batch.Tail.{Tail}
use Rattle.cloud_base.specs.declared.update.Event.{Event}
use Rattle.cloud_base.specs.declared.update.Event.TheVariants.{Do, Ask, Say, Yield, Flush}
use Rattle.batch_history.specs.Batches.{of_client}
use Rattle.played_record.specs.Clients.{Client, Reply, Flushing, closed, marked, awaits, own_batches, noted_at, noted, fetched, took, pulled, next_batch, sends, round_sent, pushed, yielded, is_met, flush_after_push, flush_pushed, turned, flushed, done}
use Rattle.played_record.specs.Laws.{IsClientOf}
use Rattle.played_record.proofs.Told.{events_of, noted_more, sends_own, own_none, sends_same, took_same, took_own}

-- a client goes on, with these events more
pub record GoesTo (c : ℕ) (batches : List Batch) (x y : Client) (more : List Event) : Type 0 where
  pub stands : IsClientOf c batches y
  pub answers : y.answers ≡ x.answers
  pub end : y.end ≡ x.end
  pub events : events_of c batches y.tail ≡ events_of c batches x.tail ++ more

pub goes_then : (c : ℕ) (batches : List Batch) (x y z : Client) (more last : List Event) → GoesTo c batches x y more → GoesTo c batches y z last → GoesTo c batches x z (more ++ last)
goes_then c batches x y z more last first second = record {
  stands = second.stands;
  answers = second.answers ∙ first.answers;
  end = second.end ∙ first.end;
  events = second.events ∙ ap (λ (l : List Event). l ++ last) first.events ∙ append_assoc (events_of c batches x.tail) more last;
}

-- ---- an event

noted_base : (base : Option ℕ) (event : Event) (now : Stretch) → (noted_at base event now).base ≡ now.base
noted_base (Some n) event now = refl
noted_base None event now = refl

noted_rest : (base : Option ℕ) (event : Event) (now : Stretch) → base ≡ now.base → (base ≡ None → now.rest ≡ []) → (noted_at base event now).base ≡ None → (noted_at base event now).rest ≡ []
noted_rest (Some n) event now same empty e = absurd (cc (same, e))
noted_rest None event now same empty e = empty refl

pub noted_goes : (c : ℕ) (batches : List Batch) (x : Client) (event : Event) → IsClientOf c batches x → GoesTo c batches x (noted event x) (event ∷ [])
noted_goes c batches x event h = record {
  stands = record {
    own = h.own;
    round = h.round;
    waits = λ b e. noted_base x.tail.now.base event x.tail.now ∙ h.waits b e;
    unpulled = noted_rest x.tail.now.base event x.tail.now refl h.unpulled;
    out = h.out;
    held = h.held;
    inbox = h.inbox;
    apart = h.apart;
    quiet = h.quiet;
    flush = h.flush;
  };
  answers = refl;
  end = refl;
  events = noted_more c batches x.tail event h.unpulled;
}

-- ---- a pull

-- a reply that is taken is the one in the inbox, of the outstanding round
pub record IsTaken (sent : Option Batch) (found : Option Reply) (reply : Reply) : Type 0 where
  pub b : Batch
  pub sent_is : sent ≡ Some b
  pub found_is : found ≡ Some reply
  pub same : reply.round ≡ b.round

pub fetched_is : (sent : Option Batch) (found : Option Reply) → ForSome (fetched sent found) (IsTaken sent found)
fetched_is None found reply e = absurd (cc (e))
fetched_is (Some b) None reply e = absurd (cc (e))
fetched_is (Some b) (Some other) reply e = elim (cases_eq other.round b.round) [
  | inl same ↦
      let is : Some other ≡ Some reply = sym (ap (λ (t : Bool). if t then Some other else None) (eq-eqb other.round b.round same)) ∙ e in
      let it : other ≡ reply = cc (is) in
      record { b = b; sent_is = refl; found_is = is; same = ap (λ (r : Reply). r.round) (sym it) ∙ same }
  | inr apart ↦
      let is : None ≡ Some reply = sym (ap (λ (t : Bool). if t then Some other else None) (ne_eqb other.round b.round apart)) ∙ e in absurd (cc (is))
]

-- a client that pulled, and of which a flush stands so
abbrev taking : Option Reply → ℕ → Flushing → Client → Client
taking got taken flush x = record x { tail = took got x.tail; taken = taken; inbox = None; flush = flush }

pulls_by : (c : ℕ) (batches : List Batch) (x : Client) (got : Option Reply) (taken : ℕ) (flush : Flushing) → IsClientOf c batches x
    → ForSome got (IsTaken x.tail.sent x.inbox) → ((round : ℕ) → flush ≡ awaits round → round_sent (took got x.tail).sent ≡ Some round)
    → GoesTo c batches x (taking got taken flush x) []
pulls_by c batches x None taken flush h is awaited = record {
  stands = record {
    own = h.own;
    round = h.round;
    waits = h.waits;
    unpulled = h.unpulled;
    out = h.out;
    held = h.held;
    inbox = λ reply e. absurd (cc (e));
    apart = inr refl;
    quiet = λ e. ((h.quiet e).0, refl);
    flush = awaited;
  };
  answers = refl;
  end = refl;
  events = sym (append-nil (events_of c batches x.tail));
}
pulls_by c batches x (Some reply) taken flush h is awaited =
    let it = is reply refl in
    let joined : it.b.round ≤ length (of_client c batches) = subst (λ (n : ℕ). n ≤ length (of_client c batches)) it.same (h.inbox reply it.found_is) in
    let own = took_own c batches it.b reply.base x.tail it.sent_is joined in
    let below : (n : ℕ) → n ≤ length (own_batches c batches x.tail) → n ≤ length (own_batches c batches (took (Some reply) x.tail)) = λ n l. subst (λ (bs : List Batch). n ≤ length bs) (sym own) l in
    let empty : x.out ≡ None = elim h.apart [ inl e ↦ e | inr e ↦ absurd (cc (e, it.found_is)) ] in
    record {
      stands = record {
        own = λ b e. absurd (cc (e));
        round = λ b e. absurd (cc (e));
        waits = λ b e. absurd (cc (e));
        unpulled = λ e. refl;
        out = λ n e. below n (h.out n e);
        held = λ n e. below n (h.held n e);
        inbox = λ reply e. absurd (cc (e));
        apart = inr refl;
        quiet = λ e. (empty, refl);
        flush = awaited;
      };
      answers = refl;
      end = refl;
      events = took_same c batches it.b reply.base x.tail it.sent_is joined (h.unpulled (h.waits it.b it.sent_is)) ∙ sym (append-nil (events_of c batches x.tail));
    }

-- ---- a push

not_some : {A B : Type 0} (x : A) (o : Option A) → o ≡ Some x → o ≡ None → B
not_some x o is none = absurd (cc (is, none))

abbrev sending : Tail → Flushing → Client → Client
sending tail flush x = record x { tail = tail; out = round_sent tail.sent; flush = flush }

pushes_by : (c : ℕ) (batches : List Batch) (x : Client) (sent : Option Batch) (flush : Flushing) → x.tail.sent ≡ sent → IsClientOf c batches x → x.inbox ≡ None
    → ((round : ℕ) → flush ≡ awaits round → round_sent (sends c batches sent x.tail).sent ≡ Some round)
    → GoesTo c batches x (sending (sends c batches sent x.tail) flush x) []
pushes_by c batches x None flush is h empty awaited =
    let next = next_batch c batches x.tail.now in
    let own = sends_own c batches x.tail is in
    let more : length (own_batches c batches (sends c batches None x.tail)) ≡ length (of_client c batches) + 1 =
    ap (λ (bs : List Batch). length bs) own ∙ length-append (of_client c batches) (next ∷ []) in
    let before : length (own_batches c batches x.tail) ≡ length (of_client c batches) = ap (λ (bs : List Batch). length bs) (own_none c batches x.tail is) in
    record {
      stands = record {
        own = λ b e. let same : next ≡ b = cc (e) in ap (λ (b : Batch). b.client) (sym same);
        round = λ b e. let same : next ≡ b = cc (e) in ap (λ (b : Batch). b.round) (sym same) ∙ sym more;
        waits = λ b e. refl;
        unpulled = λ e. refl;
        out = λ n e. let same : next.round ≡ n = cc (e) in omega (arith, more);
        held = λ n e. let l = h.held n e in omega (arith, more, before);
        inbox = λ reply e. not_some reply x.inbox e empty;
        apart = inr empty;
        quiet = λ e. absurd (cc (e));
        flush = awaited;
      };
      answers = refl;
      end = refl;
      events = sends_same c batches None x.tail is ∙ sym (append-nil (events_of c batches x.tail));
    }
pushes_by c batches x (Some b) flush is h empty awaited = record {
  stands = record {
    own = h.own;
    round = h.round;
    waits = h.waits;
    unpulled = h.unpulled;
    out = λ n e.
        let same : b.round ≡ n = cc (ap round_sent is, e) in
        let l = h.round b is in omega arith;
    held = h.held;
    inbox = h.inbox;
    apart = inr empty;
    quiet = λ e. not_some b x.tail.sent is e;
    flush = awaited;
  };
  answers = refl;
  end = refl;
  events = sym (append-nil (events_of c batches x.tail));
}

-- ---- turns

abbrev taken_of : Client → ℕ
taken_of x = (pulled x).taken

-- a client that waits in no flush pulls and pushes
pub yielded_goes : (c : ℕ) (batches : List Batch) (x : Client) → IsClientOf c batches x → x.flush ≡ closed → GoesTo c batches x (yielded c batches x) (Yield ∷ [])
yielded_goes c batches x h shut =
    let first = noted_goes c batches x Yield h in
    let y = noted Yield x in
    let never : (sent : Option Batch) (round : ℕ) → x.flush ≡ awaits round → round_sent sent ≡ Some round = λ sent round e. absurd (cc (shut, e)) in
    let second = pulls_by c batches y (fetched y.tail.sent y.inbox) (taken_of y) x.flush first.stands (fetched_is y.tail.sent y.inbox)
    (never (took (fetched y.tail.sent y.inbox) y.tail).sent) in
    let z = pulled y in
    let third = pushes_by c batches z z.tail.sent x.flush refl second.stands refl (never (sends c batches z.tail.sent z.tail).sent) in
    goes_then c batches x z (yielded c batches x) (Yield ∷ []) [] (goes_then c batches x y z (Yield ∷ []) [] first second) third

-- the round that a flush awaits is outstanding behind a push
awaited_by : (c : ℕ) (batches : List Batch) (tail : Tail) (sent : Option Batch) (flush : Flushing) → tail.sent ≡ sent
    → ((round : ℕ) → flush ≡ awaits round → round_sent tail.sent ≡ Some round)
    → (round : ℕ) → flush_after_push flush sent (round_sent (sends c batches sent tail).sent) ≡ awaits round → round_sent (sends c batches sent tail).sent ≡ Some round
awaited_by c batches tail None closed is h round e = absurd (cc (e))
awaited_by c batches tail (Some b) closed is h round e = absurd (cc (e))
awaited_by c batches tail None (awaits n) is h round e = absurd (cc (h n refl))
awaited_by c batches tail (Some b) (awaits n) is h round e = h round e
awaited_by c batches tail None marked is h round e = cc (e)
awaited_by c batches tail (Some b) marked is h round e = absurd (cc (e))

flush_pushed_goes : (c : ℕ) (batches : List Batch) (x : Client) → IsClientOf c batches x → x.inbox ≡ None → GoesTo c batches x (flush_pushed c batches x) []
flush_pushed_goes c batches x h empty =
    pushes_by c batches x x.tail.sent (flush_after_push x.flush x.tail.sent (pushed c batches x).out) refl h empty
    (awaited_by c batches x.tail x.tail.sent x.flush refl h.flush)

-- a flush that isn't met still awaits the outstanding round behind a pull
still : (flush : Flushing) (tail : Tail) (found got : Option Reply) → ForSome got (IsTaken tail.sent found) → is_met flush got ≡ false
    → ((round : ℕ) → flush ≡ awaits round → round_sent tail.sent ≡ Some round)
    → (round : ℕ) → flush ≡ awaits round → round_sent (took got tail).sent ≡ Some round
still flush tail found None is unmet h round e = h round e
still flush tail found (Some reply) is unmet h round e =
    let it = is reply refl in
    let sent : Some it.b.round ≡ Some round = sym (ap round_sent it.sent_is) ∙ h round e in
    let number : it.b.round ≡ round = cc (sent) in
    let met : is_met flush (Some reply) ≡ true = ap (λ (f : Flushing). is_met f (Some reply)) e ∙ eq-eqb reply.round round (it.same ∙ number) in
    absurd (true≢false (sym met ∙ unmet))

turn_by : (c : ℕ) (batches : List Batch) (x : Client) (met : Bool) → is_met x.flush (fetched x.tail.sent x.inbox) ≡ met → IsClientOf c batches x
    → GoesTo c batches x (if met then record (pulled x) { flush = closed } else flush_pushed c batches (pulled x)) []
turn_by c batches x true is h = pulls_by c batches x (fetched x.tail.sent x.inbox) (taken_of x) closed h (fetched_is x.tail.sent x.inbox) (λ round e. absurd (cc (e)))
turn_by c batches x false is h =
    let got = fetched x.tail.sent x.inbox in
    let first = pulls_by c batches x got (taken_of x) x.flush h (fetched_is x.tail.sent x.inbox)
    (still x.flush x.tail x.inbox got (fetched_is x.tail.sent x.inbox) is h.flush) in
    goes_then c batches x (pulled x) (flush_pushed c batches (pulled x)) [] [] first (flush_pushed_goes c batches (pulled x) first.stands refl)

pub turned_goes : (c : ℕ) (batches : List Batch) (x : Client) → IsClientOf c batches x → GoesTo c batches x (turned c batches x) []
turned_goes c batches x h = turn_by c batches x (is_met x.flush (fetched x.tail.sent x.inbox)) refl h

abbrev marking : Client → Client
marking x = record x { flush = marked }

marked_goes : (c : ℕ) (batches : List Batch) (x : Client) → IsClientOf c batches x → GoesTo c batches x (marking x) []
marked_goes c batches x h = record {
  stands = record {
    own = h.own;
    round = h.round;
    waits = h.waits;
    unpulled = h.unpulled;
    out = h.out;
    held = h.held;
    inbox = h.inbox;
    apart = h.apart;
    quiet = h.quiet;
    flush = λ round e. absurd (cc (e));
  };
  answers = refl;
  end = refl;
  events = sym (append-nil (events_of c batches x.tail));
}

pub flushed_goes : (c : ℕ) (batches : List Batch) (x : Client) → IsClientOf c batches x → GoesTo c batches x (flushed c batches x) (Flush ∷ [])
flushed_goes c batches x h =
    let first = noted_goes c batches x Flush h in
    let y = noted Flush x in
    let second = marked_goes c batches y first.stands in
    let third = turned_goes c batches (marking y) second.stands in
    goes_then c batches x (marking y) (flushed c batches x) (Flush ∷ []) [] (goes_then c batches x y (marking y) (Flush ∷ []) [] first second) third

-- the next event of a trace is done
pub done_goes : (event : Event) (c : ℕ) (batches : List Batch) (x : Client) → IsClientOf c batches x → x.flush ≡ closed → GoesTo c batches x (done event c batches x) (event ∷ [])
done_goes Yield c batches x h shut = yielded_goes c batches x h shut
done_goes Flush c batches x h shut = flushed_goes c batches x h
done_goes (Do u) c batches x h shut = noted_goes c batches x (Do u) h
done_goes (Ask q a) c batches x h shut = noted_goes c batches x (Ask q a) h
done_goes (Say v) c batches x h shut = noted_goes c batches x (Say v) h
