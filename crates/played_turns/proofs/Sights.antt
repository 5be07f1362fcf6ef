-- What a client did and what it sees, by its session and by a record.
use Rattle.std.proofs.Common.{◌≡◌, refl, ap, sym, ◌∙◌, arith, ℕ, List, [], ◌∷◌, ◌++◌, length, map, Option, Some, None, append-nil, append_assoc}
use Rattle.std.specs.Prelude.{is_some}
use Rattle.std.specs.Option.{option_to_list}
use mathlib.Core.List.{IsPrefix}
use Rattle.cloud_base.specs.Events.{updates_of}
use Rattle.cloud_base.specs.declared.batch.Batch.{Batch}
use Rattle.cloud_base.specs.declared.update.Event.{Event}
use Rattle.cloud_base.specs.declared.update.Update.{Update}
use Rattle.batch_history.specs.Batches.{all_events, did_by, flat, last_seen, of_client, seen_after, stretch_of, updates_in}
use Rattle.batch_history.proofs.Fronts.{flat_front}
use Rattle.batch_joins.specs.Joins.{all_updates}
use Rattle.front_table.specs.TokenView.{TokenView}
use Rattle.session_core.specs.declared.flushing.Flushing.{Flushing as Flush}
use Rattle.session_core.specs.Standings.{Standing, IsRunning, base_now, now_of, seen as sees, tail_of, updates_now, updates_sent}
use Rattle.session_core.specs.Sessions.{begun, next_batch, noted_at, noted_before, noted_rest, took}
use Rattle.client_runner.specs.Steps.{did}
use Rattle.client_runner.proofs.Stretches.{all_events-push, map_stretch-push}
use Rattle.played_record.specs.Clients.{own_batches, seen, seen_from}
use Rattle.played_record.proofs.Told.{did_parts, run_in}

-- ---- what it did

pub parts_of : (s : Standing) → did s ≡ all_events (map stretch_of s.own.list) ++ (s.before ++ s.rest)
parts_of s = all_events-push (map stretch_of s.own.list) (now_of s)

pub did_same : (c : ℕ) (batches : List Batch) (s : Standing) → own_batches c batches (tail_of s) ≡ s.own.list
    → did_by batches c (Some (tail_of s)) ≡ did s
did_same c batches s own =
    did_parts c batches (tail_of s) ∙ ap (λ (l : List Batch). run_in l ++ (s.before ++ s.rest)) own ∙ sym (parts_of s)

events_at : (s : Standing) (e : Event) (o : Option Batch) → (is_some o ≡ is_some (Some e) → s.rest ≡ [])
    → noted_before (is_some o) s.before e ++ noted_rest (is_some o) s.rest e ≡ (s.before ++ s.rest) ++ e ∷ []
events_at s e None h = sym (append_assoc s.before s.rest (e ∷ []))
events_at s e (Some b) h =
    let none = h refl in
    ap (λ (l : List Event). (s.before ++ e ∷ []) ++ l) none
    ∙ append-nil (s.before ++ e ∷ [])
    ∙ ap (λ (l : List Event). l ++ e ∷ []) (sym (ap (λ (l : List Event). s.before ++ l) none ∙ append-nil s.before))

pub did_noted : (f : Flush) (e : Event) (s : Standing) → (is_some s.sent ≡ is_some (Some e) → s.rest ≡ [])
    → did (noted_at f e s) ≡ did s ++ e ∷ []
did_noted f e s h =
    parts_of (noted_at f e s)
    ∙ ap (λ (l : List Event). all_events (map stretch_of s.own.list) ++ l) (events_at s e s.sent h)
    ∙ sym (append_assoc (all_events (map stretch_of s.own.list)) (s.before ++ s.rest) (e ∷ []))
    ∙ ap (λ (l : List Event). l ++ e ∷ []) (sym (parts_of s))

pub did_took : (past : TokenView Batch) (s : Standing) → did (took past s) ≡ did s
did_took past s = parts_of (took past s) ∙ sym (parts_of s)

pub did_begun : (s : Standing) → did (begun s) ≡ did s
did_begun s =
    parts_of (begun s)
    ∙ append-nil (all_events (map stretch_of (s.own.list ++ next_batch s ∷ [])))
    ∙ ap all_events (map_stretch-push s.own.list (next_batch s))
    ∙ all_events-push (map stretch_of s.own.list) (stretch_of (next_batch s))
    ∙ sym (parts_of s)

-- ---- what it sees

last_seen-last : (joined own : List Batch) (log : List Update) (b : Batch)
    → last_seen joined log (own ++ b ∷ []) ≡ seen_after joined b
last_seen-last joined [] log b = refl
last_seen-last joined (x ∷ own) log b = last_seen-last joined own (seen_after joined x) b

seen_past : (past batches : List Batch) → IsPrefix past batches → flat batches (length past) ≡ all_updates past
seen_past past batches p =
    ap (λ (l : List Batch). flat l (length past)) (sym p.1) ∙ flat_front past p.0 (length past) (omega arith)

seen_at : (c : ℕ) (batches : List Batch) (s : Standing) (o : Option Batch) → s.sent ≡ o → IsRunning s
    → IsPrefix s.past.list batches
    → own_batches c batches (tail_of s) ≡ s.own.list
    → seen_from (base_now o s.past.list) c batches (tail_of s) ≡ (all_updates s.past.list ++ updates_sent o) ++ updates_now s
seen_at c batches s None is h past own =
    append_assoc (flat batches (length s.past.list)) (updates_of s.before) (updates_of s.rest)
    ∙ ap (λ (l : List Update). l ++ updates_now s)
    (seen_past s.past.list batches past ∙ sym (append-nil (all_updates s.past.list)))
seen_at c batches s (Some b) is h past own =
    let last = h.sent b is in
    let mine : s.own.list ≡ of_client s.client s.past.list ++ b ∷ [] =
    h.own ∙ ap (λ (o : Option Batch). of_client s.client s.past.list ++ option_to_list o) is in
    let first : last_seen batches [] (own_batches c batches (tail_of s)) ≡ all_updates s.past.list ++ updates_in b =
    ap (last_seen batches []) (own ∙ mine)
    ∙ last_seen-last batches (of_client s.client s.past.list) [] b
    ∙ ap (λ (n : ℕ). flat batches n ++ updates_in b) last.base
    ∙ ap (λ (l : List Update). l ++ updates_in b) (seen_past s.past.list batches past) in
    let none : updates_of s.before ++ updates_of s.rest ≡ updates_of s.before =
    ap (λ (l : List Event). updates_of s.before ++ updates_of l) last.unpulled ∙ append-nil (updates_of s.before) in
    ap (λ (l : List Update). l ++ updates_of s.before) first
    ∙ ap (λ (l : List Update). (all_updates s.past.list ++ updates_in b) ++ l) (sym none)

pub seen_same : (c : ℕ) (batches : List Batch) (s : Standing) → IsRunning s → IsPrefix s.past.list batches
    → own_batches c batches (tail_of s) ≡ s.own.list → seen c batches (tail_of s) ≡ sees s
seen_same c batches s h past own = seen_at c batches s s.sent refl h past own
