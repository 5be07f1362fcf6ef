-- Sweeps end: each makes what is left of each client less.
use Rattle.std.proofs.Common.{◌≡◌, refl, ap, sym, subst, ◌∙◌, ℕ, zero, suc, ◌+◌, ◌-◌, ◌*◌, ◌<◌, ◌≤◌, Bool, true, false, List, [], ◌∷◌, ◌++◌, length, Option, Some, None, inl, inr, arith}
use Rattle.std.specs.Prelude.{map, is_some, ◌&&◌, ◌≢◌, if◌then◌else◌}
use Rattle.std.specs.List.{list_all, range_with_len}
use Rattle.std.proofs.lemmas.Bool.{eq-eqb, cases_eq, true≢false}
use Rattle.std.proofs.lemmas.List.{length-append}
use mathlib.Core.List.{IsPrefix}
use Rattle.cloud_base.specs.Events.{Outcome, ended, asks}
use Rattle.cloud_base.specs.declared.batch.Batch.{Batch}
use Rattle.cloud_base.specs.declared.batch.Tail.{Tail}
use Rattle.cloud_base.specs.declared.end.End.{End}
use Rattle.cloud_base.specs.declared.schedule.Fate.TheVariants.{Pass}
use Rattle.cloud_base.specs.declared.schedule.ScheduleItem.{ScheduleItem}
use Rattle.cloud_base.specs.declared.update.Answer.{Answer}
use Rattle.cloud_base.specs.declared.update.Event.{Event}
use Rattle.cloud_base.specs.declared.update.Event.TheVariants.{Ask}
use Rattle.cloud_base.specs.declared.update.Query.{Query}
use Rattle.cloud_base.specs.declared.update.Update.{Update}
use Rattle.batch_history.specs.Batches.{did_by}
use Rattle.played_record.specs.Clients.{Client, Reply, Flushing, closed, marked, awaits, seen, noted, answered, fetched, took, pulled, next_batch, sends, round_sent, pushed, is_met, flush_after_push, flush_pushed, turned, done}
use Rattle.played_record.specs.Worlds.{World, with_client, did, served}
use Rattle.played_record.specs.Plays.{next_event, comes_out, goes_on, stepped, step, swept_at, sweep, after_sweeps, all_ended}
use Rattle.played_record.specs.Laws.{IsClientOf, GoesOn, IsMoment}
use Rattle.played_record.proofs.Only.{client-here, client-else, served_only}
use Rattle.played_record.proofs.Going.{GoesTo, IsTaken, fetched_is, noted_goes, turned_goes, done_goes}
use Rattle.played_record.proofs.Serving.{at_client, served_keeps, pass_answers}
use Rattle.played_record.proofs.Moments.{IsAfterStep, did_more, stepped_follows, step_moment, after_moment, sweep_moment}

-- ---- what is left of a client

-- how many turns a flush still takes, by what lies in the inbox
abbrev turns_left : Flushing → Option Reply → ℕ
turns_left closed got = 0
turns_left marked None = 3
turns_left marked (Some reply) = 2
turns_left (awaits round) None = 2
turns_left (awaits round) (Some reply) = 1

abbrev left_by : Option End → ℕ → ℕ
left_by (Some end) n = 0
left_by None n = n

abbrev turns_of : Client → ℕ
turns_of x = turns_left x.flush (fetched x.tail.sent x.inbox)

-- four for each event that it may still do, and one for its end
abbrev left : ℕ → ℕ → Client → ℕ
left most count x = left_by x.end (1 + 4 * (most - count) + turns_of x)

few_turns : (flush : Flushing) (got : Option Reply) → turns_left flush got ≤ 3
few_turns closed got = omega arith
few_turns marked None = omega arith
few_turns marked (Some reply) = omega arith
few_turns (awaits round) None = omega arith
few_turns (awaits round) (Some reply) = omega arith

at_most : (end : Option End) (n m : ℕ) → n ≤ m → left_by end n ≤ m
at_most (Some end) n m l = omega arith
at_most None n m l = l

pub few_left : (most count : ℕ) (x : Client) → left most count x ≤ 4 * most + 4
few_left most count x =
    let few = few_turns x.flush (fetched x.tail.sent x.inbox) in
    at_most x.end (1 + 4 * (most - count) + turns_of x) (4 * most + 4) (omega arith)

left_open : (most count : ℕ) (x : Client) → x.end ≡ None → left most count x ≡ 1 + 4 * (most - count) + turns_of x
left_open most count x e = ap (λ (end : Option End). left_by end (1 + 4 * (most - count) + turns_of x)) e

left_ended : (most count : ℕ) (x : Client) (end : End) → x.end ≡ Some end → left most count x ≡ 0
left_ended most count x end e = ap (λ (end : Option End). left_by end (1 + 4 * (most - count) + turns_of x)) e

has_end : (end : Option End) (n : ℕ) → 1 ≤ n → left_by end n ≡ 0 → is_some end ≡ true
has_end (Some end) n l e = refl
has_end None n l e = absurd (omega arith)

-- ---- what a step leaves

-- a client's part behind a step and a serve
record After (c : ℕ) (batches : List Batch) (y : Client) (u : World) : Type 0 where
  end : (u.client c).end ≡ y.end
  flush : (u.client c).flush ≡ y.flush
  tail : (u.client c).tail ≡ y.tail
  count : length (did c u) ≡ length (did_by batches c (Some y.tail))

-- an event more
one_more : (most before : ℕ) (c : ℕ) (batches : List Batch) (x y : Client) (u : World) → x.end ≡ None → After c batches y u
    → length (did_by batches c (Some y.tail)) ≡ before + 1 → before + 1 ≤ most → left most (length (did c u)) (u.client c) < left most before x
one_more most before c batches x y u running a more l =
    let z = u.client c in
    let few = few_turns z.flush (fetched z.tail.sent z.inbox) in
    let count = a.count in
    let open_left = left_open most before x running in
    let bound = at_most z.end (1 + 4 * (most - length (did c u)) + turns_of z) (4 + 4 * (most - (before + 1))) (omega arith) in
    omega arith

met_left : (flush : Flushing) (got : Option Reply) → is_met flush got ≡ true → 1 ≤ turns_left flush got
met_left closed got e = absurd (true≢false (sym e))
met_left marked got e = absurd (true≢false (sym e))
met_left (awaits round) None e = absurd (true≢false (sym e))
met_left (awaits round) (Some reply) e = omega arith

-- a turn that ends its flush
turn_met : (most before : ℕ) (c : ℕ) (batches : List Batch) (x y : Client) (u : World) → x.end ≡ None → After c batches y u → y.flush ≡ closed
    → is_met x.flush (fetched x.tail.sent x.inbox) ≡ true → length (did_by batches c (Some y.tail)) ≡ before → left most (length (did c u)) (u.client c) < left most before x
turn_met most before c batches x y u running a shut met same =
    let z = u.client c in
    let none : turns_of z ≡ 0 = ap (λ (f : Flushing). turns_left f (fetched z.tail.sent z.inbox)) (a.flush ∙ shut) in
    let some = met_left x.flush (fetched x.tail.sent x.inbox) met in
    let count = a.count in
    let open_left = left_open most before x running in
    let bound = at_most z.end (1 + 4 * (most - length (did c u)) + turns_of z) (1 + 4 * (most - before)) (omega arith) in
    omega arith

after_marked : (sent : Option Batch) (out : Option ℕ) (reply : Reply) → turns_left (flush_after_push marked sent out) (Some reply) ≤ 2
after_marked (Some b) out reply = omega arith
after_marked None None reply = omega arith
after_marked None (Some round) reply = omega arith

-- Behind a push and its reply a flush takes fewer turns than before its pull.
turn_less : (flush : Flushing) (got : Option Reply) (tail : Tail) (found : Option Reply) (out : Option ℕ) (round : ℕ) (reply : Reply) → flush ≢ closed
    → ((r : Reply) → got ≡ Some r → IsTaken tail.sent found r) → is_met flush got ≡ false → ((n : ℕ) → flush ≡ awaits n → round_sent tail.sent ≡ Some n) → out ≡ Some round
    → turns_left (flush_after_push flush (took got tail).sent out) (Some reply) < turns_left flush got
turn_less closed got tail found out round reply opened is unmet awaited e = absurd (opened refl)
turn_less marked None tail found out round reply opened is unmet awaited e = let l = after_marked tail.sent out reply in omega arith
turn_less marked (Some r) tail found out round reply opened is unmet awaited e =
    let one : turns_left (flush_after_push marked None out) (Some reply) ≡ 1 = ap (λ (o : Option ℕ). turns_left (flush_after_push marked None o) (Some reply)) e in
    omega arith
turn_less (awaits n) None tail found out round reply opened is unmet awaited e = omega arith
turn_less (awaits n) (Some r) tail found out round reply opened is unmet awaited e =
    let it = is r refl in
    let sent : Some it.b.round ≡ Some n = sym (ap round_sent it.sent_is) ∙ awaited n refl in
    let number : it.b.round ≡ n = cc (sent) in
    absurd (true≢false (sym (eq-eqb r.round n (it.same ∙ number)) ∙ unmet))

sends_some : (c : ℕ) (batches : List Batch) (sent : Option Batch) (tail : Tail) → tail.sent ≡ sent → (b : Batch) × ((sends c batches sent tail).sent ≡ Some b)
sends_some c batches None tail e = (next_batch c batches tail.now, refl)
sends_some c batches (Some b) tail e = (b, e)

fetched_same : (b : Batch) (reply : Reply) → reply.round ≡ b.round → fetched (Some b) (Some reply) ≡ Some reply
fetched_same b reply e = ap (λ (t : Bool). if t then Some reply else None) (eq-eqb reply.round b.round e)

-- ---- steps

prefix_length : {A : Type 0} (xs ys : List A) → IsPrefix xs ys → length xs ≤ length ys
prefix_length xs ys p = let l = length-append xs p.0 in let e : length (xs ++ p.0) ≡ length ys = ap (λ (t : List _). length t) p.1 in omega arith

-- a client that takes a step and is served
abbrev then_served : ℕ → Client → World → World
then_served c y w = served c Pass (with_client c y w)

module _ (answers : List Update → Query → Answer) (trace : ℕ → List Answer → List Event × Outcome) where
  clients_after : (c : ℕ) (y : Client) (w : World) → IsMoment trace w → IsClientOf c w.batches y → (k : ℕ) → IsClientOf k w.batches ((with_client c y w).client k)
  clients_after c y w h stands = at_client (λ (k : ℕ) (z : Client). IsClientOf k w.batches z) c y w stands h.client

  after_of : (c : ℕ) (y : Client) (w : World) → IsMoment trace w → IsClientOf c w.batches y → After c w.batches y (then_served c y w)
  after_of c y w h stands =
      let v = with_client c y w in
      let here = client-here c y w in
      let only = (served_only c Pass v).boxes in
      let keeps = served_keeps c Pass v (clients_after c y w h stands) in
      record {
        end = ap (λ (x : Client). x.end) only ∙ ap (λ (x : Client). x.end) here;
        flush = ap (λ (x : Client). x.flush) only ∙ ap (λ (x : Client). x.flush) here;
        tail = ap (λ (x : Client). x.tail) only ∙ ap (λ (x : Client). x.tail) here;
        count = ap (λ (events : List Event). length events) (keeps.did c) ∙ ap (λ (x : Client). length (did_by w.batches c (Some x.tail))) here;
      }

  turn_unmet : (most : ℕ) (c : ℕ) (w : World) → IsMoment trace w → (w.client c).end ≡ None → (w.client c).flush ≢ closed
      → (y : Client) → y ≡ flush_pushed c w.batches (pulled (w.client c)) → IsClientOf c w.batches y → length (did_by w.batches c (Some y.tail)) ≡ length (did c w)
      → is_met (w.client c).flush (fetched (w.client c).tail.sent (w.client c).inbox) ≡ false
      → left most (length (did c (then_served c y w))) ((then_served c y w).client c) < left most (length (did c w)) (w.client c)
  turn_unmet most c w h running opened y is stands same unmet =
      let x = w.client c in
      let got = fetched x.tail.sent x.inbox in
      let v = with_client c y w in
      let u = then_served c y w in
      let z = u.client c in
      let a = after_of c y w h stands in
      let here = client-here c y w in
      let middle = pulled x in
      let sent = sends_some c w.batches middle.tail.sent middle.tail refl in
      let y_sent : y.tail.sent ≡ Some sent.0 = ap (λ (t : Client). t.tail.sent) is ∙ sent.1 in
      let y_out : y.out ≡ Some sent.0.round = ap (λ (t : Client). t.out) is ∙ ap round_sent sent.1 in
      let answered = pass_answers c sent.0 v (clients_after c y w h stands) (ap (λ (t : Client). t.tail.sent) here ∙ y_sent) (ap (λ (t : Client). t.out) here ∙ y_out) in
      let z_got : fetched z.tail.sent z.inbox ≡ Some answered.reply =
      ap (λ (t : Tail). fetched t.sent z.inbox) a.tail ∙ ap (λ (s : Option Batch). fetched s z.inbox) y_sent
      ∙ ap (λ (r : Option Reply). fetched (Some sent.0) r) answered.lies ∙ fetched_same sent.0 answered.reply answered.same in
      let z_turns : turns_of z ≡ turns_left (flush_after_push x.flush middle.tail.sent (pushed c w.batches middle).out) (Some answered.reply) =
      ap (λ (f : Flushing). turns_left f (fetched z.tail.sent z.inbox)) (a.flush ∙ ap (λ (t : Client). t.flush) is)
      ∙ ap (λ (r : Option Reply). turns_left (flush_after_push x.flush middle.tail.sent (pushed c w.batches middle).out) r) z_got in
      let less = turn_less x.flush got x.tail x.inbox (pushed c w.batches middle).out sent.0.round answered.reply opened (fetched_is x.tail.sent x.inbox) unmet
      (h.client c).flush (ap round_sent sent.1) in
      let count = a.count in
      let open_left = left_open most (length (did c w)) x running in
      let bound = at_most z.end (1 + 4 * (most - length (did c u)) + turns_of z) (1 + 4 * (most - length (did c w)) + turns_of z) (omega arith) in
      omega arith

  turn_less_by : (most : ℕ) (c : ℕ) (w : World) → IsMoment trace w → (w.client c).end ≡ None → (w.client c).flush ≢ closed
      → (met : Bool) → is_met (w.client c).flush (fetched (w.client c).tail.sent (w.client c).inbox) ≡ met
      → (y : Client) → y ≡ (if met then record (pulled (w.client c)) { flush = closed } else flush_pushed c w.batches (pulled (w.client c)))
      → IsClientOf c w.batches y → length (did_by w.batches c (Some y.tail)) ≡ length (did c w)
      → left most (length (did c (then_served c y w))) ((then_served c y w).client c) < left most (length (did c w)) (w.client c)
  turn_less_by most c w h running opened true is y made stands same =
      turn_met most (length (did c w)) c w.batches (w.client c) y (then_served c y w) running (after_of c y w h stands) (ap (λ (t : Client). t.flush) made) is same
  turn_less_by most c w h running opened false is y made stands same = turn_unmet most c w h running opened y made stands same is

  turned_less : (most : ℕ) (c : ℕ) (w : World) → IsMoment trace w → (w.client c).end ≡ None → (w.client c).flush ≢ closed
      → let y = turned c w.batches (w.client c) in left most (length (did c (then_served c y w))) ((then_served c y w).client c) < left most (length (did c w)) (w.client c)
  turned_less most c w h running opened =
      let x = w.client c in
      let y = turned c w.batches x in
      let goes = turned_goes c w.batches x (h.client c) in
      let same : length (did_by w.batches c (Some y.tail)) ≡ length (did c w) + 0 =
      ap (λ (events : List Event). length events) (did_more c w.batches x y [] goes) ∙ length-append (did c w) [] in
      turn_less_by most c w h running opened (is_met x.flush (fetched x.tail.sent x.inbox)) refl y refl goes.stands (omega arith)

  module _ (most : ℕ) where
    -- an event more
    event_less : (c : ℕ) (w : World) (event : Event) (y z : Client) → ((given : List Answer) → length (trace c given).0 ≤ most) → IsMoment trace w → (w.client c).end ≡ None
        → GoesTo c w.batches (w.client c) z (event ∷ []) → y.tail ≡ z.tail → IsAfterStep (trace c) c w.batches y
        → left most (length (did c (then_served c y w))) ((then_served c y w).client c) < left most (length (did c w)) (w.client c)
    event_less c w event y z few h running goes tail after =
        let x = w.client c in
        let more : length (did_by w.batches c (Some y.tail)) ≡ length (did c w) + 1 =
        ap (λ (t : Tail). length (did_by w.batches c (Some t))) tail
        ∙ ap (λ (events : List Event). length events) (did_more c w.batches x z (event ∷ []) goes) ∙ length-append (did c w) (event ∷ []) in
        let l = prefix_length (did_by w.batches c (Some y.tail)) (trace c y.answers).0 after.follows.front in
        let bound = few y.answers in
        one_more most (length (did c w)) c w.batches x y (then_served c y w) running (after_of c y w h after.stands) more (omega arith)

    comes_out_less : (c : ℕ) (w : World) (outcome : Outcome) → ((given : List Answer) → length (trace c given).0 ≤ most) → IsMoment trace w → (w.client c).end ≡ None
        → IsAfterStep (trace c) c w.batches (comes_out answers trace outcome c w)
        → let y = comes_out answers trace outcome c w in left most (length (did c (then_served c y w))) ((then_served c y w).client c) < left most (length (did c w)) (w.client c)
    comes_out_less c w (asks q) few h running after =
        let x = w.client c in
        let a = answers (seen c w.batches x.tail) q in
        event_less c w (Ask q a) (answered q a x) (noted (Ask q a) x) few h running (noted_goes c w.batches x (Ask q a) (h.client c)) refl after
    comes_out_less c w (ended end) few h running after =
        let x = w.client c in
        let y = comes_out answers trace (ended end) c w in
        let u = then_served c y w in
        let none = left_ended most (length (did c u)) (u.client c) end ((after_of c y w h after.stands).end) in
        let open_left = left_open most (length (did c w)) x running in
        omega arith

    goes_on_less : (c : ℕ) (w : World) (next : Option Event) → ((given : List Answer) → length (trace c given).0 ≤ most) → IsMoment trace w → (w.client c).end ≡ None
        → (w.client c).flush ≡ closed → IsAfterStep (trace c) c w.batches (goes_on answers trace next c w)
        → let y = goes_on answers trace next c w in left most (length (did c (then_served c y w))) ((then_served c y w).client c) < left most (length (did c w)) (w.client c)
    goes_on_less c w (Some event) few h running shut after =
        let x = w.client c in
        event_less c w event (done event c w.batches x) (done event c w.batches x) few h running (done_goes event c w.batches x (h.client c) shut) refl after
    goes_on_less c w None few h running shut after = comes_out_less c w (trace c (w.client c).answers).1 few h running after

    stepped_less : (c : ℕ) (w : World) (flush : Flushing) → ((given : List Answer) → length (trace c given).0 ≤ most) → GoesOn trace → IsMoment trace w → (w.client c).end ≡ None
        → (w.client c).flush ≡ flush
        → let y = stepped answers trace None flush c w in left most (length (did c (then_served c y w))) ((then_served c y w).client c) < left most (length (did c w)) (w.client c)
    stepped_less c w closed few g h running is =
        goes_on_less c w (next_event answers trace c w) few h running is (stepped_follows answers trace c w None closed g h running is)
    stepped_less c w marked few g h running is = turned_less most c w h running (λ e. cc (is, e))
    stepped_less c w (awaits round) few g h running is = turned_less most c w h running (λ e. cc (is, e))

    -- ---- sweeps

    abbrev left_in : ℕ → World → ℕ
    left_in k w = left most (length (did k w)) (w.client k)

    swept_less : (end : Option End) (c : ℕ) (w : World) → ((given : List Answer) → length (trace c given).0 ≤ most) → GoesOn trace → IsMoment trace w → (w.client c).end ≡ end
        → left_in c (swept_at answers trace end c w) ≤ left_in c w - 1
    swept_less (Some end) c w few g h is = let none = left_ended most (length (did c w)) (w.client c) end is in omega arith
    swept_less None c w few g h is =
        let flush = (w.client c).flush in
        let less = stepped_less c w flush few g h is refl in
        let same : left_in c (served c Pass (step answers trace c w)) ≡ left_in c (then_served c (stepped answers trace None flush c w) w) =
        ap (λ (end : Option End). left_in c (then_served c (stepped answers trace end flush c w) w)) is in
        omega arith

    -- those of other clients leave it as it is
    swept_else : (end : Option End) (c k : ℕ) (w : World) → k ≢ c → GoesOn trace → IsMoment trace w → left_in k (swept_at answers trace end c w) ≡ left_in k w
    swept_else (Some end) c k w other g h = refl
    swept_else None c k w other g h =
        let y = stepped answers trace (w.client c).end (w.client c).flush c w in
        let v = step answers trace c w in
        let moment = step_moment answers trace c w g h in
        let first = client-else c k y w other in
        let second = (served_only c Pass v).others k other in
        let keeps = served_keeps c Pass v moment.client in
        ap (λ (n : ℕ). left most n ((served c Pass v).client k)) (ap (λ (events : List Event). length events) (keeps.did k))
        ∙ ap (λ (x : Client). left most (length (did k v)) x) second
        ∙ ap (λ (x : Client). left most (length (did_by w.batches k (Some x.tail))) x) first

    sweep_past : (n k : ℕ) (w : World) → n ≤ k → GoesOn trace → IsMoment trace w → left_in k (sweep answers trace n w) ≡ left_in k w
    sweep_past zero k w l g h = refl
    sweep_past (suc c) k w l g h =
        let before = sweep answers trace c w in
        swept_else (before.client c).end c k before (λ e. omega arith) g (sweep_moment answers trace c w g h) ∙ sweep_past c k w (omega arith) g h

    sweep_less : (n k : ℕ) (w : World) → k < n → ((c : ℕ) (given : List Answer) → length (trace c given).0 ≤ most) → GoesOn trace → IsMoment trace w
        → left_in k (sweep answers trace n w) ≤ left_in k w - 1
    sweep_less zero k w l few g h = absurd (omega arith)
    sweep_less (suc c) k w l few g h =
        let before = sweep answers trace c w in
        let moment = sweep_moment answers trace c w g h in
        elim (cases_eq k c) [
          | inl e ↦
              let last = swept_less (before.client c).end c before (few c) g moment refl in
              let same = sweep_past c c w (omega arith) g h in
              subst (λ (j : ℕ). left_in j (sweep answers trace (suc c) w) ≤ left_in j w - 1) (sym e) (omega arith)
          | inr other ↦
              let same = swept_else (before.client c).end c k before other g moment in
              let first = sweep_less c k w (omega arith) few g h in
              omega arith
        ]

    after_less : (schedule : List ScheduleItem) (n count k : ℕ) → k < n → ((c : ℕ) (given : List Answer) → length (trace c given).0 ≤ most) → GoesOn trace
        → left_in k (after_sweeps answers trace schedule n count) ≤ (4 * most + 4) - count
    after_less schedule n zero k l few g =
        let w = after_sweeps answers trace schedule n 0 in
        let all = few_left most (length (did k w)) (w.client k) in omega arith
    after_less schedule n (suc count) k l few g =
        let w = after_sweeps answers trace schedule n count in
        let first = after_less schedule n count k l few g in
        let last = sweep_less n k w l few g (after_moment answers trace schedule n count g) in
        omega arith

    all_by : (f : ℕ → Option End) (a n : ℕ) → ((k : ℕ) → a ≤ k → k < a + n → is_some (f k) ≡ true) → list_all is_some (map f (range_with_len a n)) ≡ true
    all_by f a zero each = refl
    all_by f a (suc n) each =
        ap (λ (t : Bool). t && list_all is_some (map f (range_with_len (a + 1) n))) (each a (omega arith) (omega arith))
        ∙ all_by f (a + 1) n (λ k low high. each k (omega arith) (omega arith))

    -- after so many sweeps all have ended
    pub sweeps_end : (schedule : List ScheduleItem) (n : ℕ) → GoesOn trace → ((c : ℕ) (given : List Answer) → length (trace c given).0 ≤ most)
        → all_ended n (after_sweeps answers trace schedule n (4 * most + 4)) ≡ true
    sweeps_end schedule n g few =
        let w = after_sweeps answers trace schedule n (4 * most + 4) in
        all_by (λ k. (w.client k).end) 0 n (λ k low high.
        let less = after_less schedule n (4 * most + 4) k (omega arith) few g in
        let x = w.client k in
        has_end x.end (1 + 4 * (most - length (did k w)) + turns_of x) (omega arith) (omega arith))
