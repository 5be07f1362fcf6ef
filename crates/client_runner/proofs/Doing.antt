-- What a session's client did, call by call.
use Rattle.std.proofs.Common.{◌≡◌, refl, sym, ap, ◌∙◌, subst, append-nil, append_assoc}
use Rattle.std.specs.Prelude.{ℕ, ◌≢◌, All, List, [], ◌∷◌, ◌++◌, map, Option, Some, None, is_some}
use Rattle.std.specs.Option.{option_to_list}
use Rattle.std.proofs.lemmas.List.Elements.{All-nil, All-append}
use Rattle.cloud_base.specs.Events.{updates_of}
use Rattle.cloud_base.specs.Shaped.{IsShaped}
use Rattle.cloud_base.specs.declared.batch.Batch.{Batch}
use Rattle.cloud_base.specs.declared.update.Event.{Event}
use Rattle.cloud_base.specs.declared.update.Event.TheVariants.{Yield}
use Rattle.cloud_base.specs.declared.update.Update.{Update}
use Rattle.typed_program.proofs.Keeps.{updates-append}
use Rattle.batch_history.specs.Batches.{all_events, of_client, stretch_of, updates_in}
use Rattle.batch_history.proofs.Fronts.{flat_all}
use Rattle.batch_joins.specs.Joins.{all_updates}
use Rattle.front_table.specs.TokenView.{TokenView}
use Rattle.slot_hub.specs.Boxes.{Seen}
use Rattle.packet_codec.specs.Pushes.{Pushed}
use Rattle.packet_codec.specs.Replies.{Replied}
use Rattle.session_core.specs.declared.flushing.Flushing.{Flushing}
use Rattle.session_core.specs.declared.flushing.Flushing.TheVariants.{Closed, Marked, Sent}
use Rattle.session_core.specs.declared.turns.Pull.{Pull}
use Rattle.session_core.specs.declared.turns.PushOut.{PushOut}
use Rattle.session_core.specs.declared.turns.Turn.{Turn}
use Rattle.session_core.specs.declared.turns.Turn.TheVariants as turn
use Rattle.session_core.specs.declared.turns.Yielded.{Yielded}
use Rattle.session_core.specs.Standings.{Standing, IsRunning, now_of, seen, updates_done, updates_now, updates_sent}
use Rattle.session_core.specs.Sessions.{begun, flush_after_pull, flush_after_push, next_batch, noted, noted_at, noted_before, noted_rest, sends_at, took}
use Rattle.session_core.specs.Meetings.{IsMet, IsUnmet, Joins, Pulls, Pushes, Turns, Yields}
use Rattle.client_runner.specs.Steps.{did}
use Rattle.client_runner.proofs.Stretches.{all_behind, all_events-push, map_stretch-push, updates_of_batches}

-- ---- its events

pub did_parts : (s : Standing) → did s ≡ all_events (map stretch_of s.own.list) ++ (s.before ++ s.rest)
did_parts s = all_events-push (map stretch_of s.own.list) (now_of s)

-- of the same client and schema, with the same events
pub record Same (old new : Standing) : Type 0 where
  pub events : did new ≡ did old
  pub client : new.client ≡ old.client
  pub schema : new.schema ≡ old.schema

-- or with one event more
pub record Adds (e : Event) (old new : Standing) : Type 0 where
  pub events : did new ≡ did old ++ e ∷ []
  pub client : new.client ≡ old.client
  pub schema : new.schema ≡ old.schema

same_then : (a b c : Standing) → Same a b → Same b c → Same a c
same_then a b c h k = record { events = k.events ∙ h.events; client = k.client ∙ h.client; schema = k.schema ∙ h.schema }

pub adds_then : (e : Event) (a b c : Standing) → Adds e a b → Same b c → Adds e a c
adds_then e a b c h k = record { events = k.events ∙ h.events; client = k.client ∙ h.client; schema = k.schema ∙ h.schema }

-- ---- an event

events_at : (s : Standing) (e : Event) (o : Option Batch) → s.sent ≡ o → IsRunning s → noted_before (is_some o) s.before e ++ noted_rest (is_some o) s.rest e ≡ (s.before ++ s.rest) ++ e ∷ []
events_at s e None is h = sym (append_assoc s.before s.rest (e ∷ []))
events_at s e (Some b) is h =
    let none = (h.sent b is).unpulled in
    ap (λ (l : List Event). (s.before ++ e ∷ []) ++ l) none
    ∙ append-nil (s.before ++ e ∷ [])
    ∙ ap (λ (l : List Event). l ++ e ∷ []) (sym (ap (λ (l : List Event). s.before ++ l) none ∙ append-nil s.before))

adds_noted : (f : Flushing) (e : Event) (s : Standing) → IsRunning s → Adds e s (noted_at f e s)
adds_noted f e s h = record {
  events = did_parts (noted_at f e s)
      ∙ ap (λ (l : List Event). all_events (map stretch_of s.own.list) ++ l) (events_at s e s.sent refl h)
      ∙ sym (append_assoc (all_events (map stretch_of s.own.list)) (s.before ++ s.rest) (e ∷ []))
      ∙ ap (λ (l : List Event). l ++ e ∷ []) (sym (did_parts s));
  client = refl;
  schema = refl;
}

pub adds_note : (f : Flushing) (e : Event) (old new : Standing) → IsRunning old → new ≡ noted_at f e old → Adds e old new
adds_note f e old new h is = subst (Adds e old) (sym is) (adds_noted f e old h)

-- ---- a pull

same_took : (p : TokenView Batch) (s : Standing) → Same s (took p s)
same_took p s = record { events = did_parts (took p s) ∙ sym (did_parts s); client = refl; schema = refl }

same_self : (s : Standing) → Same s s
same_self s = record { events = refl; client = refl; schema = refl }

same_joined : (got : Option Replied) (old new : Standing) → Joins got old new → Same old new
same_joined None old new h = subst (Same old) (sym h) (same_self old)
same_joined (Some reply) old new h = subst (Same old) (sym h.goes_on) (same_took reply.past old)

-- ---- a push

same_begun : (s : Standing) → Same s (begun s)
same_begun s = record {
  events = did_parts (begun s)
      ∙ append-nil (all_events (map stretch_of (s.own.list ++ next_batch s ∷ [])))
      ∙ ap all_events (map_stretch-push s.own.list (next_batch s))
      ∙ all_events-push (map stretch_of s.own.list) (stretch_of (next_batch s))
      ∙ sym (did_parts s);
  client = refl;
  schema = refl;
}

same_sends : (o : Option Batch) (s : Standing) → Same s (sends_at o s)
same_sends None s = same_begun s
same_sends (Some b) s = same_self s

-- ---- how far a flush is

closed_joined : (got : Option Replied) (old new : Standing) → Joins got old new → old.flush ≡ Closed → new.flush ≡ Closed
closed_joined None old new h closed = ap (λ (s : Standing). s.flush) h ∙ closed
closed_joined (Some reply) old new h closed = ap (λ (s : Standing). s.flush) h.goes_on ∙ ap flush_after_pull closed

closed_sends : (o : Option Batch) (s : Standing) → s.flush ≡ Closed → (sends_at o s).flush ≡ Closed
closed_sends None s closed = ap flush_after_push closed
closed_sends (Some b) s closed = closed

open_after : (f : Flushing) → f ≢ Closed → flush_after_push f ≢ Closed
open_after Closed still = still
open_after Marked still = λ k. cc
open_after Sent still = still

open_sends : (o : Option Batch) (s : Standing) → s.flush ≢ Closed → (sends_at o s).flush ≢ Closed
open_sends None s still = open_after s.flush still
open_sends (Some b) s still = still

-- ---- meetings

module _ {S : Type 0} (hub hub' : Seen S Pushed Replied) where
  pulled : (old new : Standing) (result : Pull) → Pulls old new result hub hub' → Same old new
  pulled old new result h = same_joined h.got old new h.joins

  pushed : (old new : Standing) (result : PushOut) → Pushes old new result hub hub' → Same old new
  pushed old new result h = subst (Same old) (sym h.goes_on) (same_sends old.sent old)

module _ {S : Type 0} (hub hub' : Seen S Pushed Replied) where
  pub adds_yield : (old new : Standing) (y : Yielded) → IsRunning old → Yields old new y hub hub' → Adds Yield old new
  adds_yield old new y h is =
      adds_then Yield old is.pulled new
      (adds_then Yield old (noted Yield old) is.pulled (adds_noted old.flush Yield old h) (pulled hub is.between (noted Yield old) is.pulled y.pull is.pull))
      (pushed is.between hub' is.pulled new y.push is.push)

  pub closed_yield : (old new : Standing) (y : Yielded) → Yields old new y hub hub' → old.flush ≡ Closed → new.flush ≡ Closed
  closed_yield old new y is closed =
      ap (λ (s : Standing). s.flush) is.push.goes_on ∙ closed_sends is.pulled.sent is.pulled (closed_joined is.pull.got (noted Yield old) is.pulled is.pull.joins closed)

  same_met : (old new : Standing) → IsMet old new hub hub' → Same old new
  same_met old new h = pulled hub hub' old new _ h.pull

  same_unmet : (old new : Standing) (outstanding taken : ℕ) → IsUnmet old new outstanding taken hub hub' → Same old new
  same_unmet old new outstanding taken h = same_then old h.pulled new (pulled hub h.between old h.pulled h.pull_is h.pull) (pushed h.between hub' h.pulled new h.push_is h.push)

  pub same_turn : (old new : Standing) (t : Turn) → Turns old new t hub hub' → Same old new
  same_turn old new turn.Done h = same_met old new h
  same_turn old new (turn.NotYet outstanding taken) h = same_unmet old new outstanding taken h

  pub open_unmet : (old new : Standing) (outstanding taken : ℕ) → IsUnmet old new outstanding taken hub hub' → new.flush ≢ Closed
  open_unmet old new outstanding taken h =
      subst (λ (f : Flushing). f ≢ Closed) (sym (ap (λ (s : Standing). s.flush) h.push.goes_on)) (open_sends h.pulled.sent h.pulled h.still)

-- ---- its updates

pub updates_did : (s : Standing) → updates_of (did s) ≡ updates_done s
updates_did s =
    ap updates_of (did_parts s)
    ∙ updates-append (all_events (map stretch_of s.own.list)) (s.before ++ s.rest)
    ∙ ap (λ (l : List Update). l ++ updates_of (s.before ++ s.rest)) (updates_of_batches s.own.list)
    ∙ ap (λ (l : List Update). all_updates s.own.list ++ l) (updates-append s.before s.rest)

-- those that the client sees are of the schema
own_sent : (s : Standing) (b : Batch) → IsRunning s → s.sent ≡ Some b → s.own.list ≡ of_client s.client s.past.list ++ b ∷ []
own_sent s b h is = h.own ∙ ap (λ (o : Option Batch). of_client s.client s.past.list ++ option_to_list o) is

updates_last : (l : List Batch) (b : Batch) → all_updates (l ++ b ∷ []) ≡ all_updates l ++ updates_in b
updates_last l b = flat_all l (b ∷ []) ∙ ap (λ (x : List Update). all_updates l ++ x) (append-nil (updates_in b))

sent_shaped : (s : Standing) (o : Option Batch) → IsRunning s → s.sent ≡ o → All (IsShaped s.schema) (updates_sent o)
sent_shaped s None h is = All-nil (IsShaped s.schema)
sent_shaped s (Some b) h is =
    all_behind (IsShaped s.schema) (all_updates (of_client s.client s.past.list)) (updates_in b)
    (subst (All (IsShaped s.schema)) (ap all_updates (own_sent s b h is) ∙ updates_last (of_client s.client s.past.list) b) (h.sent b is).may.own_shaped)

pub seen_shaped : (s : Standing) → IsRunning s → All (IsShaped s.schema) (seen s)
seen_shaped s h =
    All-append (IsShaped s.schema) (all_updates s.past.list ++ updates_sent s.sent) (updates_now s)
    (All-append (IsShaped s.schema) (all_updates s.past.list) (updates_sent s.sent) h.served.fits.shaped (sent_shaped s s.sent h refl))
    h.shaped
