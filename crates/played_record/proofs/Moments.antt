-- Each moment of a played run.
use Rattle.std.proofs.Common.{◌≡◌, refl, ap, sym, subst, ◌∙◌, ℕ, zero, suc, ◌+◌, List, [], ◌∷◌, ◌++◌, length, Option, Some, None, inl, inr, arith, append-nil}
use Rattle.std.specs.Prelude.{slice_get}
use Rattle.std.proofs.lemmas.Bool.{cases_eq}
use Rattle.std.proofs.lemmas.List.{length-append}
use mathlib.Core.List.{IsPrefix}
use Rattle.cloud_base.specs.Events.{Outcome, ended, asks, answers_in}
use Rattle.cloud_base.specs.declared.batch.Batch.{Batch}
use Rattle.cloud_base.specs.declared.end.End.{End}
use Rattle.cloud_base.specs.declared.update.Answer.{Answer}
use Rattle.cloud_base.specs.declared.update.Event.{Event}
use Rattle.cloud_base.specs.declared.update.Event.TheVariants.{Do, Ask, Say, Yield, Flush}
use Rattle.cloud_base.specs.declared.update.Query.{Query}
use Rattle.cloud_base.specs.declared.schedule.Fate.TheVariants.{Pass}
use Rattle.cloud_base.specs.declared.schedule.ScheduleItem.{ScheduleItem}
use Rattle.cloud_base.specs.declared.schedule.ScheduleItem.TheVariants.{Steps, Serve}
use Rattle.cloud_base.specs.declared.schedule.Fate.{Fate}
use Rattle.cloud_base.specs.declared.update.Update.{Update}
use Rattle.batch_history.specs.Batches.{did_by}
use Rattle.typed_program.specs.Laws.{Extends, InOrder}
use Rattle.played_record.specs.Clients.{Client, Flushing, closed, marked, awaits, seen, noted, answered, yielded, turned, flushed, done}
use Rattle.played_record.specs.Worlds.{World, opening, did, served}
use Rattle.played_record.specs.Plays.{next_event, comes_out, goes_on, stepped, step, steps, item_done, scheduled, swept_at, sweep, after_sweeps}
use Rattle.played_record.specs.Laws.{IsClientOf, GoesOn, Follows, IsMoment, BoxesAlone}
use Rattle.played_record.proofs.Told.{did_parts}
use Rattle.played_record.proofs.Only.{served_only}
use Rattle.played_record.proofs.Going.{GoesTo, noted_goes, yielded_goes, turned_goes, flushed_goes}
use Rattle.played_record.proofs.Serving.{at_client, served_keeps}

-- ---- what a client did, and its trace

answers_in-append : (events more : List Event) → answers_in (events ++ more) ≡ answers_in events ++ answers_in more
answers_in-append [] more = refl
answers_in-append (Do u ∷ events) more = answers_in-append events more
answers_in-append (Ask q a ∷ events) more = ap (λ (l : List Answer). a ∷ l) (answers_in-append events more)
answers_in-append (Say v ∷ events) more = answers_in-append events more
answers_in-append (Yield ∷ events) more = answers_in-append events more
answers_in-append (Flush ∷ events) more = answers_in-append events more

-- a front of a list goes on with the list's next element
next_of : {A : Type 0} (front : List A) (all : List A) (x : A) → IsPrefix front all → slice_get all (length front) ≡ Some x → IsPrefix (front ++ x ∷ []) all
next_of [] [] x p e = absurd (cc (e))
next_of [] (y ∷ all) x p e = let same : y ≡ x = cc (e) in (all, ap (λ z. z ∷ all) (sym same))
next_of (f ∷ front) [] x p e = absurd (cc (p.1))
next_of (f ∷ front) (y ∷ all) x p e =
    let head : f ≡ y = cc (p.1) in
    let more = next_of front all x (p.0, cc (p.1)) e in
    (more.0, cc (head, more.1))

-- and is all of it where there is none
all_of : {A : Type 0} (front : List A) (all : List A) → IsPrefix front all → slice_get all (length front) ≡ None → front ≡ all
all_of [] [] p e = refl
all_of [] (y ∷ all) p e = absurd (cc (e))
all_of (f ∷ front) [] p e = absurd (cc (p.1))
all_of (f ∷ front) (y ∷ all) p e =
    let head : f ≡ y = cc (p.1) in
    let rest : front ≡ all = all_of front all (p.0, cc (p.1)) e in cc (head, rest)

follows_same : (trace : List Answer → List Event × Outcome) (events events' : List Event) (x y : Client) → events' ≡ events → y.answers ≡ x.answers → y.end ≡ x.end
    → Follows trace events x → Follows trace events' y
follows_same trace events events' x y same answers end h = record {
  answers = ap answers_in same ∙ h.answers ∙ sym answers;
  front = subst (λ (l : List Event). IsPrefix l (trace y.answers).0) (sym same) (subst (λ (a : List Answer). IsPrefix events (trace a).0) (sym answers) h.front);
  all = λ e is. ap trace answers ∙ h.all e (sym end ∙ is) ∙ ap (λ (l : List Event). let p : List Event × Outcome = (l, ended e) in p) (sym same);
}

-- the next event of a trace is done, which is no query
follows_event : (trace : List Answer → List Event × Outcome) (events events' : List Event) (event : Event) (x y : Client) → events' ≡ events ++ event ∷ []
    → y.answers ≡ x.answers → y.end ≡ x.end → x.end ≡ None → answers_in (event ∷ []) ≡ [] → slice_get (trace x.answers).0 (length events) ≡ Some event
    → Follows trace events x → Follows trace events' y
follows_event trace events events' event x y same answers end running quiet next h = record {
  answers = ap answers_in same ∙ answers_in-append events (event ∷ []) ∙ ap (λ (l : List Answer). answers_in events ++ l) quiet ∙ append-nil (answers_in events)
      ∙ h.answers ∙ sym answers;
  front = subst (λ (l : List Event). IsPrefix l (trace y.answers).0) (sym same)
      (subst (λ (a : List Answer). IsPrefix (events ++ event ∷ []) (trace a).0) (sym answers) (next_of events (trace x.answers).0 event h.front next));
  all = λ e is. absurd (cc (end, running, is));
}

-- a query isn't the next event, as all answers were taken
no_query : (trace : List Answer → List Event × Outcome) (events : List Event) (q : Query) (a : Answer) (x : Client) → InOrder (trace x.answers) x.answers
    → slice_get (trace x.answers).0 (length events) ≡ Some (Ask q a) → Follows trace events x → ⊥
no_query trace events q a x in_order next h =
    let more = next_of events (trace x.answers).0 (Ask q a) h.front next in
    let taken : answers_in (trace x.answers).0 ≡ (answers_in events ++ a ∷ []) ++ answers_in more.0 =
    ap answers_in (sym more.1) ∙ answers_in-append (events ++ Ask q a ∷ []) more.0 ∙ ap (λ (l : List Answer). l ++ answers_in more.0) (answers_in-append events (Ask q a ∷ [])) in
    let order = in_order.in_order in
    let first : length (answers_in (trace x.answers).0) + length order.0 ≡ length x.answers =
    sym (length-append (answers_in (trace x.answers).0) order.0) ∙ ap (λ (l : List Answer). length l) order.1 in
    let second : length (answers_in (trace x.answers).0) ≡ (length (answers_in events) + 1) + length (answers_in more.0) =
    ap (λ (l : List Answer). length l) taken ∙ length-append (answers_in events ++ a ∷ []) (answers_in more.0)
    ∙ ap (λ (n : ℕ). n + length (answers_in more.0)) (length-append (answers_in events) (a ∷ [])) in
    let third : length (answers_in events) ≡ length x.answers = ap (λ (l : List Answer). length l) h.answers in
    omega arith

-- a query for which no answer was left is answered
follows_query : (trace : List Answer → List Event × Outcome) (events events' : List Event) (q : Query) (a : Answer) (x y : Client) → events' ≡ events ++ Ask q a ∷ []
    → y.answers ≡ x.answers ++ a ∷ [] → y.end ≡ x.end → x.end ≡ None → Extends (trace x.answers) (trace (x.answers ++ a ∷ [])) (a ∷ [])
    → slice_get (trace x.answers).0 (length events) ≡ None → (trace x.answers).1 ≡ asks q → Follows trace events x → Follows trace events' y
follows_query trace events events' q a x y same answers end running extends next out h =
    let all : events ≡ (trace x.answers).0 = all_of events (trace x.answers).0 h.front next in
    record {
      answers = ap answers_in same ∙ answers_in-append events (Ask q a ∷ []) ∙ ap (λ (l : List Answer). l ++ a ∷ []) h.answers ∙ sym answers;
      front = subst (λ (l : List Event). IsPrefix l (trace y.answers).0) (sym same)
          (subst (λ (given : List Answer). IsPrefix (events ++ Ask q a ∷ []) (trace given).0) (sym answers)
          (subst (λ (l : List Event). IsPrefix (l ++ Ask q a ∷ []) (trace (x.answers ++ a ∷ [])).0) (sym all) (extends.asks q a [] out refl)));
      all = λ e is. absurd (cc (end, running, is));
    }

-- a trace whose events are all done comes out so
follows_end : (trace : List Answer → List Event × Outcome) (events events' : List Event) (end : End) (x : Client) → events' ≡ events
    → slice_get (trace x.answers).0 (length events) ≡ None → (trace x.answers).1 ≡ ended end → Follows trace events x → Follows trace events' (record x { end = Some end })
follows_end trace events events' end x same next out h =
    let all : events ≡ (trace x.answers).0 = all_of events (trace x.answers).0 h.front next in
    record {
      answers = ap answers_in same ∙ h.answers;
      front = subst (λ (l : List Event). IsPrefix l (trace x.answers).0) (sym same) h.front;
      all = λ e is.
          let it : end ≡ e = cc (is) in
          ap (λ (l : List Event). let p : List Event × Outcome = (l, (trace x.answers).1) in p) (sym all ∙ sym same)
          ∙ ap (λ (o : Outcome). let p : List Event × Outcome = (events', o) in p) (out ∙ ap ended it);
    }

-- ---- steps

-- a client's part, once it took a step
pub record IsAfterStep (trace : List Answer → List Event × Outcome) (c : ℕ) (batches : List Batch) (y : Client) : Type 0 where
  pub stands : IsClientOf c batches y
  pub follows : Follows trace (did_by batches c (Some y.tail)) y

pub did_more : (c : ℕ) (batches : List Batch) (x y : Client) (more : List Event) → GoesTo c batches x y more → did_by batches c (Some y.tail) ≡ did_by batches c (Some x.tail) ++ more
did_more c batches x y more goes = did_parts c batches y.tail ∙ goes.events ∙ ap (λ (l : List Event). l ++ more) (sym (did_parts c batches x.tail))

-- it took a turn of a flush
turn_follows : (trace : List Answer → List Event × Outcome) (c : ℕ) (batches : List Batch) (x : Client) → IsClientOf c batches x → Follows trace (did_by batches c (Some x.tail)) x
    → IsAfterStep trace c batches (turned c batches x)
turn_follows trace c batches x h f =
    let goes = turned_goes c batches x h in
    record {
      stands = goes.stands;
      follows = follows_same trace (did_by batches c (Some x.tail)) (did_by batches c (Some (turned c batches x).tail)) x (turned c batches x)
          (did_more c batches x (turned c batches x) [] goes ∙ append-nil (did_by batches c (Some x.tail))) goes.answers goes.end f;
    }

-- it did an event that is no query
event_follows : (trace : List Answer → List Event × Outcome) (c : ℕ) (batches : List Batch) (event : Event) (x y : Client) → GoesTo c batches x y (event ∷ [])
    → x.end ≡ None → answers_in (event ∷ []) ≡ [] → slice_get (trace x.answers).0 (length (did_by batches c (Some x.tail))) ≡ Some event
    → Follows trace (did_by batches c (Some x.tail)) x → IsAfterStep trace c batches y
event_follows trace c batches event x y goes running quiet next f = record {
  stands = goes.stands;
  follows = follows_event trace (did_by batches c (Some x.tail)) (did_by batches c (Some y.tail)) event x y
      (did_more c batches x y (event ∷ []) goes) goes.answers goes.end running quiet next f;
}

-- what a client was told, and how it ended, move nothing
with_answers : (c : ℕ) (batches : List Batch) (x : Client) (given : List Answer) (end : Option End) → IsClientOf c batches x → IsClientOf c batches (record x { answers = given; end = end })
with_answers c batches x given end h = record {
  own = h.own;
  round = h.round;
  waits = h.waits;
  unpulled = h.unpulled;
  out = h.out;
  held = h.held;
  inbox = h.inbox;
  apart = h.apart;
  quiet = h.quiet;
  flush = h.flush;
}

-- ---- serves

served_boxes : (c k : ℕ) (fate : Fate) (w : World) → BoxesAlone (w.client k) ((served c fate w).client k)
served_boxes c k fate w =
    let only = served_only c fate w in
    elim (cases_eq k c) [
      | inl e ↦ subst (λ (j : ℕ). BoxesAlone (w.client j) ((served c fate w).client j)) (sym e) only.boxes
      | inr other ↦
          let same = only.others k other in
          same ∙ ap (λ (x : Client). record (w.client k) { out = x.out; inbox = x.inbox; held = x.held }) (sym same)
    ]

module _ (trace : ℕ → List Answer → List Event × Outcome) where
  pub served_moment : (c : ℕ) (fate : Fate) (w : World) → IsMoment trace w → IsMoment trace (served c fate w)
  served_moment c fate w h =
      let v = served c fate w in
      let keeps = served_keeps c fate w h.client in
      record {
        client = keeps.clients;
        follows = λ k.
            let boxes = served_boxes c k fate w in
            follows_same (trace k) (did k w) (did k v) (w.client k) (v.client k) (keeps.did k)
            (ap (λ (x : Client). x.answers) boxes) (ap (λ (x : Client). x.end) boxes) (h.follows k);
      }

  pub opening_moment : IsMoment trace opening
  opening_moment = record {
    client = λ c. record {
      own = λ b e. absurd (cc (e));
      round = λ b e. absurd (cc (e));
      waits = λ b e. absurd (cc (e));
      unpulled = λ e. refl;
      out = λ n e. absurd (cc (e));
      held = λ n e. absurd (cc (e));
      inbox = λ reply e. absurd (cc (e));
      apart = inl refl;
      quiet = λ e. (refl, refl);
      flush = λ round e. absurd (cc (e));
    };
    follows = λ c. record { answers = refl; front = ((trace c []).0, refl); all = λ e is. absurd (cc (is)) };
  }

-- ---- steps of clients

module _ (answers : List Update → Query → Answer) (trace : ℕ → List Answer → List Event × Outcome) where
  done_follows : (c : ℕ) (batches : List Batch) (event : Event) (x : Client) → GoesOn trace → IsClientOf c batches x → x.end ≡ None → x.flush ≡ closed
      → slice_get (trace c x.answers).0 (length (did_by batches c (Some x.tail))) ≡ Some event → Follows (trace c) (did_by batches c (Some x.tail)) x
      → IsAfterStep (trace c) c batches (done event c batches x)
  done_follows c batches Yield x g h running shut next f = event_follows (trace c) c batches Yield x (yielded c batches x) (yielded_goes c batches x h shut) running refl next f
  done_follows c batches Flush x g h running shut next f = event_follows (trace c) c batches Flush x (flushed c batches x) (flushed_goes c batches x h) running refl next f
  done_follows c batches (Do u) x g h running shut next f = event_follows (trace c) c batches (Do u) x (noted (Do u) x) (noted_goes c batches x (Do u) h) running refl next f
  done_follows c batches (Say v) x g h running shut next f = event_follows (trace c) c batches (Say v) x (noted (Say v) x) (noted_goes c batches x (Say v) h) running refl next f
  done_follows c batches (Ask q a) x g h running shut next f = absurd (no_query (trace c) (did_by batches c (Some x.tail)) q a x (g.in_order c x.answers) next f)

  comes_out_follows : (c : ℕ) (w : World) (outcome : Outcome) → GoesOn trace → IsClientOf c w.batches (w.client c) → (w.client c).end ≡ None
      → slice_get (trace c (w.client c).answers).0 (length (did c w)) ≡ None → (trace c (w.client c).answers).1 ≡ outcome
      → Follows (trace c) (did c w) (w.client c) → IsAfterStep (trace c) c w.batches (comes_out answers trace outcome c w)
  comes_out_follows c w (asks q) g h running next out f =
      let x = w.client c in
      let a = answers (seen c w.batches x.tail) q in
      let goes = noted_goes c w.batches x (Ask q a) h in
      record {
        stands = with_answers c w.batches (noted (Ask q a) x) (x.answers ++ a ∷ []) x.end goes.stands;
        follows = follows_query (trace c) (did c w) (did_by w.batches c (Some (noted (Ask q a) x).tail)) q a x (answered q a x)
            (did_more c w.batches x (noted (Ask q a) x) (Ask q a ∷ []) goes) refl refl running (g.extends c x.answers (a ∷ [])) next out f;
      }
  comes_out_follows c w (ended end) g h running next out f =
      record {
        stands = with_answers c w.batches (w.client c) (w.client c).answers (Some end) h;
        follows = follows_end (trace c) (did c w) (did c w) end (w.client c) refl next out f;
      }

  goes_on_follows : (c : ℕ) (w : World) (next : Option Event) → GoesOn trace → IsClientOf c w.batches (w.client c) → (w.client c).end ≡ None → (w.client c).flush ≡ closed
      → next_event answers trace c w ≡ next → Follows (trace c) (did c w) (w.client c) → IsAfterStep (trace c) c w.batches (goes_on answers trace next c w)
  goes_on_follows c w (Some event) g h running shut next f = done_follows c w.batches event (w.client c) g h running shut next f
  goes_on_follows c w None g h running shut next f = comes_out_follows c w (trace c (w.client c).answers).1 g h running next refl f

  pub stepped_follows : (c : ℕ) (w : World) (end : Option End) (flush : Flushing) → GoesOn trace → IsMoment trace w → (w.client c).end ≡ end → (w.client c).flush ≡ flush
      → IsAfterStep (trace c) c w.batches (stepped answers trace end flush c w)
  stepped_follows c w (Some end) flush g h running shut = record { stands = h.client c; follows = h.follows c }
  stepped_follows c w None closed g h running shut = goes_on_follows c w (next_event answers trace c w) g (h.client c) running shut refl (h.follows c)
  stepped_follows c w None marked g h running shut = turn_follows (trace c) c w.batches (w.client c) (h.client c) (h.follows c)
  stepped_follows c w None (awaits round) g h running shut = turn_follows (trace c) c w.batches (w.client c) (h.client c) (h.follows c)

  -- ---- moments

  pub step_moment : (c : ℕ) (w : World) → GoesOn trace → IsMoment trace w → IsMoment trace (step answers trace c w)
  step_moment c w g h =
      let y = stepped answers trace (w.client c).end (w.client c).flush c w in
      let after = stepped_follows c w (w.client c).end (w.client c).flush g h refl refl in
      record {
        client = at_client (λ (k : ℕ) (z : Client). IsClientOf k w.batches z) c y w after.stands h.client;
        follows = at_client (λ (k : ℕ) (z : Client). Follows (trace k) (did_by w.batches k (Some z.tail)) z) c y w after.follows h.follows;
      }

  steps_moment : (c n : ℕ) (w : World) → GoesOn trace → IsMoment trace w → IsMoment trace (steps answers trace c n w)
  steps_moment c zero w g h = h
  steps_moment c (suc n) w g h = step_moment c (steps answers trace c n w) g (steps_moment c n w g h)

  item_moment : (item : ScheduleItem) (w : World) → GoesOn trace → IsMoment trace w → IsMoment trace (item_done answers trace item w)
  item_moment (Steps c n) w g h = steps_moment c n w g h
  item_moment (Serve c fate) w g h = served_moment trace c fate w h

  scheduled_moment : (schedule : List ScheduleItem) (w : World) → GoesOn trace → IsMoment trace w → IsMoment trace (scheduled answers trace schedule w)
  scheduled_moment [] w g h = h
  scheduled_moment (item ∷ schedule) w g h = scheduled_moment schedule (item_done answers trace item w) g (item_moment item w g h)

  pub swept_moment : (end : Option End) (c : ℕ) (w : World) → GoesOn trace → IsMoment trace w → IsMoment trace (swept_at answers trace end c w)
  swept_moment (Some end) c w g h = h
  swept_moment None c w g h = served_moment trace c Pass (step answers trace c w) (step_moment c w g h)

  pub sweep_moment : (n : ℕ) (w : World) → GoesOn trace → IsMoment trace w → IsMoment trace (sweep answers trace n w)
  sweep_moment zero w g h = h
  sweep_moment (suc c) w g h =
      let before = sweep answers trace c w in
      swept_moment (before.client c).end c before g (sweep_moment c w g h)

  pub after_moment : (schedule : List ScheduleItem) (n count : ℕ) → GoesOn trace → IsMoment trace (after_sweeps answers trace schedule n count)
  after_moment schedule n zero g = scheduled_moment schedule opening g (opening_moment trace)
  after_moment schedule n (suc count) g = sweep_moment n (after_sweeps answers trace schedule n count) g (after_moment schedule n count g)
