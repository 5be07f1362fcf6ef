-- A session with an event more.
use Rattle.std.proofs.Common.{◌≡◌, refl, sym, ◌∙◌, ap, subst, ℕ, ◌<◌, ◌^◌, List, [], ◌∷◌, ◌++◌, length, Some, None, Option, append-nil, append_assoc, Bool}
use Rattle.std.specs.Prelude.{◌≢◌, All, is_some, map, IsTrue}
use Rattle.std.specs.List.{last_or}
use Rattle.std.specs.Option.{option_to_list}
use Rattle.std.proofs.lemmas.List.Elements.{All-append}
use Rattle.cloud_base.specs.Answer.{answer}
use Rattle.cloud_base.specs.Events.{updates_of}
use Rattle.cloud_base.specs.Shaped.{CreatedOnce, IsShaped}
use Rattle.cloud_base.specs.declared.batch.Batch.{Batch}
use Rattle.cloud_base.specs.declared.update.Event.{Event}
use Rattle.cloud_base.specs.declared.update.Event.TheVariants.{Flush}
use Rattle.cloud_base.specs.declared.update.Update.{Update}
use Rattle.batch_history.specs.Batches.{updates_in, flat, of_client, last_seen, stretch_of}
use Rattle.batch_history.specs.Flushed.{FlushedStretches}
use Rattle.batch_history.specs.Right.{IsThatOf, RightEvents}
use Rattle.batch_history.specs.Sound.{CreatedBy}
use Rattle.batch_joins.specs.Joins.{all_updates}
use Rattle.session_core.specs.declared.flushing.Flushing.{Flushing}
use Rattle.session_core.specs.declared.flushing.Flushing.TheVariants.{Closed, Marked}
use Rattle.session_core.specs.Standings.{Standing, IsRunning, IsStanding, updates_now, updates_done, updates_sent, seen, now_of, base_now, met}
use Rattle.session_core.specs.Sessions.{noted_before, noted_rest, noted_at}
use Rattle.session_core.proofs.EventLemmas.{updates_of-append, created_by_parts, right_more, last_seen-last, last_or-last}
use Rattle.session_core.proofs.Flushes.{GoesOn, flushed_noted, flushed_marked}

-- what an event must meet
pub record IsNote (s : Standing) (e : Event) : Type 0 where
  pub right : RightEvents (IsThatOf (answer s.schema)) (seen s) (e ∷ [])
  pub shaped : All (IsShaped s.schema) (updates_of (e ∷ []))
  pub mine : CreatedBy s.client (updates_of (e ∷ []))
  pub once : CreatedOnce (updates_done s ++ updates_of (e ∷ []))
  pub few : length (updates_done s ++ updates_of (e ∷ [])) < 2 ^ 28

-- ---- the updates

now_at : (s : Standing) (e : Event) (o : Option Batch) → s.sent ≡ o → IsRunning s → updates_of (noted_before (is_some o) s.before e) ++ updates_of (noted_rest (is_some o) s.rest e) ≡ updates_now s ++ updates_of (e ∷ [])
now_at s e None is h = ap (λ (l : List Update). updates_of s.before ++ l) (updates_of-append s.rest (e ∷ [])) ∙ sym (append_assoc (updates_of s.before) (updates_of s.rest) (updates_of (e ∷ [])))
now_at s e (Some b) is h =
    let none : updates_of s.rest ≡ [] = ap updates_of (h.sent b is).unpulled in
    ap (λ (l : List Update). updates_of (s.before ++ e ∷ []) ++ l) none
    ∙ append-nil (updates_of (s.before ++ e ∷ []))
    ∙ updates_of-append s.before (e ∷ [])
    ∙ ap (λ (l : List Update). l ++ updates_of (e ∷ [])) (sym (ap (λ (l : List Update). updates_of s.before ++ l) none ∙ append-nil (updates_of s.before)))

pub updates_now-noted : (f : Flushing) (e : Event) (s : Standing) → IsRunning s → updates_now (noted_at f e s) ≡ updates_now s ++ updates_of (e ∷ [])
updates_now-noted f e s h = now_at s e s.sent refl h

-- ---- what it has seen before its next pull

-- at the end of its last batch
pub last_seen-first : (s : Standing) (b : Batch) → s.sent ≡ Some b → IsRunning s → last_seen s.past.list [] s.own.list ≡ all_updates s.past.list ++ updates_in b
last_seen-first s b is h =
    ap (last_seen s.past.list []) (h.own ∙ ap (λ (o : Option Batch). of_client s.client s.past.list ++ option_to_list o) is)
    ∙ last_seen-last s.past.list (of_client s.client s.past.list) [] b
    ∙ ap (λ (n : ℕ). flat s.past.list n ++ updates_in b) (h.sent b is).base

seen_waiting : (s : Standing) (b : Batch) → s.sent ≡ Some b → IsRunning s → seen s ≡ last_seen s.past.list [] s.own.list ++ updates_of s.before
seen_waiting s b is h =
    let none : updates_of s.rest ≡ [] = ap updates_of (h.sent b is).unpulled in
    ap (λ (o : Option Batch). (all_updates s.past.list ++ updates_sent o) ++ updates_now s) is
    ∙ ap (λ (l : List Update). (all_updates s.past.list ++ updates_in b) ++ l) (ap (λ (l : List Update). updates_of s.before ++ l) none ∙ append-nil (updates_of s.before))
    ∙ ap (λ (l : List Update). l ++ updates_of s.before) (sym (last_seen-first s b is h))

seen_pulled : (s : Standing) → s.sent ≡ None → seen s ≡ (all_updates s.past.list ++ updates_of s.before) ++ updates_of s.rest
seen_pulled s is =
    ap (λ (o : Option Batch). (all_updates s.past.list ++ updates_sent o) ++ updates_now s) is
    ∙ ap (λ (l : List Update). l ++ updates_now s) (append-nil (all_updates s.past.list))
    ∙ sym (append_assoc (all_updates s.past.list) (updates_of s.before) (updates_of s.rest))

-- ---- what it keeps

module _ (f : Flushing) (e : Event) (s : Standing) (h : IsRunning s) (note : IsNote s e) where
  abbrev with_events : Bool → Standing
  with_events waits = record s { before = noted_before waits s.before e; rest = noted_rest waits s.rest e; flush = f }

  shaped_at : (o : Option Batch) → s.sent ≡ o → All (IsShaped s.schema) (updates_now (with_events (is_some o)))
  shaped_at o is = subst (All (IsShaped s.schema)) (sym (now_at s e o is h)) (All-append (IsShaped s.schema) (updates_now s) (updates_of (e ∷ [])) h.shaped note.shaped)

  mine_at : (o : Option Batch) → s.sent ≡ o → CreatedBy s.client (updates_now (with_events (is_some o)))
  mine_at o is = subst (CreatedBy s.client) (sym (now_at s e o is h)) (created_by_parts s.client (updates_now s) (updates_of (e ∷ [])) h.mine note.mine)

  done_at : (o : Option Batch) → s.sent ≡ o → updates_done (with_events (is_some o)) ≡ updates_done s ++ updates_of (e ∷ [])
  done_at o is = ap (λ (l : List Update). all_updates s.own.list ++ l) (now_at s e o is h) ∙ sym (append_assoc (all_updates s.own.list) (updates_now s) (updates_of (e ∷ [])))

  once_at : (o : Option Batch) → s.sent ≡ o → CreatedOnce (updates_done (with_events (is_some o)))
  once_at o is = subst CreatedOnce (sym (done_at o is)) note.once

  few_at : (o : Option Batch) → s.sent ≡ o → length (updates_done (with_events (is_some o))) < 2 ^ 28
  few_at o is = subst (λ (l : List Update). length l < 2 ^ 28) (sym (done_at o is)) note.few

  running_at : (o : Option Batch) → s.sent ≡ o → IsRunning (with_events (is_some o))
  running_at None is = record {
    client = h.client;
    served = h.served;
    own = h.own;
    sent = λ b k. cc (is, k);
    opens = h.opens;
    before = h.before;
    right_before = h.right_before;
    right_rest = right_more (IsThatOf (answer s.schema)) (all_updates s.past.list ++ updates_of s.before) s.rest e h.right_rest
        (subst (λ (l : List Update). RightEvents (IsThatOf (answer s.schema)) l (e ∷ [])) (seen_pulled s is) note.right);
    shaped = shaped_at None is;
    mine = mine_at None is;
    once = once_at None is;
    few = few_at None is;
    rounds = h.rounds;
    reply = h.reply;
  }
  running_at (Some b) is =
      let waiting : s.own.list ≡ of_client s.client s.past.list ++ b ∷ [] = h.own ∙ ap (λ (o : Option Batch). of_client s.client s.past.list ++ option_to_list o) is in
      record {
        client = h.client;
        served = h.served;
        own = h.own;
        sent = h.sent;
        opens = λ none. absurd (no_last (of_client s.client s.past.list) b (sym waiting ∙ none));
        before = λ k. cc (is, k);
        right_before = right_more (IsThatOf (answer s.schema)) (last_seen s.past.list [] s.own.list) s.before e h.right_before
            (subst (λ (l : List Update). RightEvents (IsThatOf (answer s.schema)) l (e ∷ [])) (seen_waiting s b is h) note.right);
        right_rest = subst (λ (l : List Event). RightEvents (IsThatOf (answer s.schema)) (all_updates s.past.list ++ updates_of (s.before ++ e ∷ [])) l) (sym (h.sent b is).unpulled) tt;
        shaped = shaped_at (Some b) is;
        mine = mine_at (Some b) is;
        once = once_at (Some b) is;
        few = few_at (Some b) is;
        rounds = h.rounds;
        reply = h.reply;
      }
    where
      no_last : (l : List Batch) (b : Batch) → l ++ b ∷ [] ≡ [] → ⊥
      no_last [] b k = cc
      no_last (x ∷ l) b k = cc

  pub running_noted : IsRunning (noted_at f e s)
  running_noted = running_at s.sent refl

-- ---- its stretch goes on

events_at : (s : Standing) (e : Event) (o : Option Batch) → s.sent ≡ o → IsRunning s → noted_before (is_some o) s.before e ++ noted_rest (is_some o) s.rest e ≡ (s.before ++ s.rest) ++ e ∷ []
events_at s e None is h = sym (append_assoc s.before s.rest (e ∷ []))
events_at s e (Some b) is h =
    let none = (h.sent b is).unpulled in
    ap (λ (l : List Event). (s.before ++ e ∷ []) ++ l) none
    ∙ append-nil (s.before ++ e ∷ [])
    ∙ ap (λ (l : List Event). l ++ e ∷ []) (sym (ap (λ (l : List Event). s.before ++ l) none ∙ append-nil s.before))

begins_at : (s : Standing) (e : Event) (o : Option Batch) → (s.before ≡ []) × IsTrue (is_some (base_now o s.past.list)) → (noted_before (is_some o) s.before e ≡ []) × IsTrue (is_some (base_now o s.past.list))
begins_at s e None h = h
begins_at s e (Some b) h = let never = h.1 in cc

goes_on : (f : Flushing) (e : Event) (s : Standing) → IsRunning s → GoesOn (now_of s) (now_of (noted_at f e s)) e
goes_on f e s h = record { events = events_at s e s.sent refl h; begins = begins_at s e s.sent }

module _ (e : Event) (s : Standing) (h : IsStanding s) (closed : s.flush ≡ Closed) (note : IsNote s e) where
  was_flushed : FlushedStretches (map stretch_of s.own.list ++ now_of s ∷ [])
  was_flushed = subst (λ (f : Flushing). FlushedStretches (map stretch_of s.own.list ++ met s f)) closed h.flushed

  pub standing_noted : e ≢ Flush → IsStanding (noted_at Closed e s)
  standing_noted quiet = record {
    running = running_noted Closed e s h.running note;
    flush = tt;
    flushed = flushed_noted (map stretch_of s.own.list) (now_of s) (now_of (noted_at Closed e s)) e (goes_on Closed e s h.running) quiet was_flushed;
  }

pub standing_marked : (s : Standing) → IsStanding s → s.flush ≡ Closed → IsNote s Flush → IsStanding (noted_at Marked Flush s)
standing_marked s h closed note = record {
  running = running_noted Marked Flush s h.running note;
  flush = ap (last_or None) (events_at s Flush s.sent refl h.running) ∙ last_or-last None (s.before ++ s.rest) Flush;
  flushed = flushed_marked (map stretch_of s.own.list) (now_of s) (now_of (noted_at Marked Flush s)) (goes_on Marked Flush s h.running) (was_flushed Flush s h closed note);
}
