-- What a client does fits behind what it sees.
use Rattle.std.proofs.Common.{◌≡◌, refl, sym, ◌∙◌, ap, subst, List, [], ◌∷◌, ◌++◌, length, Some, None, Option, append-nil, append_assoc, take}
use Rattle.std.specs.Prelude.{All, is_some, ◌<◌, ◌^◌, ℕ, Bool}
use Rattle.std.specs.Option.{option_to_list}
use Rattle.std.proofs.lemmas.List.Elements.{All-append, All-nil, All-cons}
use Rattle.std.proofs.lemmas.List.{length-append}
use Rattle.cloud_base.specs.Events.{updates_of}
use Rattle.cloud_base.specs.Shaped.{CreatedOnce, Fit, IsShaped}
use Rattle.cloud_base.specs.Values.{Id}
use Rattle.cloud_base.specs.declared.batch.Batch.{Batch}
use Rattle.cloud_base.specs.declared.update.Event.{Event}
use Rattle.cloud_base.specs.declared.update.Event.TheVariants.{Do, Flush}
use Rattle.cloud_base.specs.declared.update.Update.{Update}
use Rattle.batch_history.specs.Batches.{updates_in, of_client}
use Rattle.batch_history.specs.Sound.{CreatedBy}
use Rattle.batch_history.proofs.Fronts.{flat_all}
use Rattle.batch_joins.specs.Joins.{all_updates, FitsAlone}
use Rattle.batch_joins.proofs.Own.{joined_fit}
use Rattle.batch_joins.proofs.Joined.{alone}
use Rattle.packet_codec.proofs.Spelled.{done_shaped}
use Rattle.schema_fj.specs.Held.{Held}
use Rattle.schema_fj.specs.States.{StateStands}
use Rattle.session_core.specs.declared.flushing.Flushing.{Flushing}
use Rattle.session_core.specs.declared.flushing.Flushing.TheVariants.{Closed, Marked}
use Rattle.session_core.specs.declared.running.Running.{Running}
use Rattle.session_core.specs.declared.session.Session.TheInside.{Inside}
use Rattle.session_core.specs.Standings.{Standing, IsRunning, IsStanding, updates_now, updates_done, updates_sent, seen_first}
use Rattle.session_core.specs.Sessions.{IsQuiet, MayDo, noted_before, noted_rest, noted_at}
use Rattle.session_core.specs.Insides.{stands_in, StandsFor, IsSession}
use Rattle.session_core.proofs.EventLemmas.{created_by_parts}
use Rattle.session_core.proofs.Notes.{IsNote, updates_now-noted, standing_noted, standing_marked}

-- ---- more behind all that is seen

pub all_updates-last : (own : List Batch) (b : Batch) → all_updates (own ++ b ∷ []) ≡ all_updates own ++ updates_in b
all_updates-last own b = flat_all own (b ∷ []) ∙ ap (λ (l : List Update). all_updates own ++ l) (append-nil (updates_in b))

fit_at : (s : Standing) (more : List Update) (o : Option Batch) → s.sent ≡ o → IsRunning s → All (IsShaped s.schema) more → CreatedBy s.client more → CreatedOnce (all_updates s.own.list ++ more) → Fit s.schema ((all_updates s.past.list ++ updates_sent o) ++ more)
fit_at s more None is h shaped mine once =
    let own : s.own.list ≡ of_client s.client s.past.list = h.own ∙ ap (λ (x : Option Batch). of_client s.client s.past.list ++ option_to_list x) is ∙ append-nil (of_client s.client s.past.list) in
    subst (λ (l : List Update). Fit s.schema (l ++ more)) (sym (append-nil (all_updates s.past.list)))
    (joined_fit s.schema s.client s.past.list more h.served.sound h.served.fits shaped mine
    (subst (λ (l : List Batch). CreatedOnce (all_updates l ++ more)) own once))
fit_at s more (Some b) is h shaped mine once =
    let out = h.sent b is in
    let first : FitsAlone (of_client b.client (take b.base s.past.list)) b = alone s.past.list s.own.list b out.may.follows in
    let theirs : CreatedBy s.client (updates_in b) = subst (λ (c : ℕ). CreatedBy c (updates_in b)) out.client first.mine in
    let own : s.own.list ≡ of_client s.client s.past.list ++ b ∷ [] = h.own ∙ ap (λ (x : Option Batch). of_client s.client s.past.list ++ option_to_list x) is in
    let all : all_updates s.own.list ++ more ≡ all_updates (of_client s.client s.past.list) ++ (updates_in b ++ more) =
    ap (λ (l : List Batch). all_updates l ++ more) own
    ∙ ap (λ (l : List Update). l ++ more) (all_updates-last (of_client s.client s.past.list) b)
    ∙ append_assoc (all_updates (of_client s.client s.past.list)) (updates_in b) more in
    subst (Fit s.schema) (sym (append_assoc (all_updates s.past.list) (updates_in b) more))
    (joined_fit s.schema s.client s.past.list (updates_in b ++ more) h.served.sound h.served.fits
    (All-append (IsShaped s.schema) (updates_in b) more (done_shaped s.schema s.past.list s.own.list b out.may) shaped)
    (created_by_parts s.client (updates_in b) more theirs mine)
    (subst CreatedOnce all once))

pub fit_more : (s : Standing) (more : List Update) → IsRunning s → All (IsShaped s.schema) more → CreatedBy s.client more → CreatedOnce (all_updates s.own.list ++ more) → Fit s.schema (seen_first s ++ more)
fit_more s more h shaped mine once = fit_at s more s.sent refl h shaped mine once

-- ---- events with and without an update

alone_shaped : (s : Standing) (u : Update) → IsShaped s.schema u → All (IsShaped s.schema) (u ∷ [])
alone_shaped s u shaped = All-cons (IsShaped s.schema) u [] shaped (All-nil (IsShaped s.schema))

pub note_do : (s : Standing) (u : Update) → IsShaped s.schema u → MayDo s u → IsNote s (Do u)
note_do s u shaped may = record {
  right = tt;
  shaped = alone_shaped s u shaped;
  mine = may.mine;
  once = may.once;
  few = subst (λ (n : ℕ). n < 2 ^ 28) (sym (length-append (updates_done s) (u ∷ []))) may.few;
}

pub fit_do : (s : Standing) (u : Update) → IsRunning s → IsShaped s.schema u → MayDo s u → Fit s.schema (seen_first s ++ (updates_now s ++ u ∷ []))
fit_do s u h shaped may =
    fit_more s (updates_now s ++ u ∷ []) h
    (All-append (IsShaped s.schema) (updates_now s) (u ∷ []) h.shaped (alone_shaped s u shaped))
    (created_by_parts s.client (updates_now s) (u ∷ []) h.mine may.mine)
    (subst CreatedOnce (append_assoc (all_updates s.own.list) (updates_now s) (u ∷ [])) may.once)

pub note_quiet : (s : Standing) (e : Event) → IsRunning s → IsQuiet s e → IsNote s e
note_quiet s e h quiet =
    let same : updates_done s ++ updates_of (e ∷ []) ≡ updates_done s = ap (λ (l : List Update). updates_done s ++ l) quiet.updates ∙ append-nil (updates_done s) in
    record {
      right = quiet.right;
      shaped = subst (All (IsShaped s.schema)) (sym quiet.updates) (All-nil (IsShaped s.schema));
      mine = subst (CreatedBy s.client) (sym quiet.updates) (All-nil (λ (id : Id). id.client ≡ s.client));
      once = subst CreatedOnce (sym same) h.once;
      few = subst (λ (l : List Update). length l < 2 ^ 28) (sym same) h.few;
    }

pub note_flush : (s : Standing) → IsRunning s → IsNote s Flush
note_flush s h = record {
  right = tt;
  shaped = All-nil (IsShaped s.schema);
  mine = All-nil (λ (id : Id). id.client ≡ s.client);
  once = subst CreatedOnce (sym (append-nil (updates_done s))) h.once;
  few = subst (λ (l : List Update). length l < 2 ^ 28) (sym (append-nil (updates_done s))) h.few;
}

-- ---- the fields of a session

-- what was put into them at an event
pub record Puts (a : Inside) (s : Standing) (e : Event) (waits : Bool) (running : Running) : Type 0 where
  pub is : stands_in a ≡ s
  pub waits_is : waits ≡ is_some s.sent
  pub before : running.before.list ≡ noted_before waits a.running.before.list e
  pub rest : running.rest.list ≡ noted_rest waits a.running.rest.list e

abbrev at : Standing → List Event → List Event → Flushing → Standing
at s before rest flush = record s { before = before; rest = rest; flush = flush }

put_stands : (a : Inside) (s : Standing) (e : Event) (waits : Bool) (running : Running) (flush : Flushing) → Puts a s e waits running → at (stands_in a) running.before.list running.rest.list flush ≡ noted_at flush e s
put_stands a s e waits running flush puts =
    let t = stands_in a in
    let waits_here : waits ≡ is_some t.sent = puts.waits_is ∙ ap (λ (x : Standing). is_some x.sent) (sym puts.is) in
    ap (λ (l : List Event). at t l running.rest.list flush) (puts.before ∙ ap (λ (w : Bool). noted_before w t.before e) waits_here)
    ∙ ap (λ (l : List Event). at t (noted_before (is_some t.sent) t.before e) l flush) (puts.rest ∙ ap (λ (w : Bool). noted_rest w t.rest e) waits_here)
    ∙ ap (noted_at flush e) puts.is

-- the session is as it was but for its events, its state and its flush
put_session : (a : Inside) (s : Standing) (e : Event) (waits : Bool) (running : Running) (state : Held) (flush : Flushing) → Puts a s e waits running → IsSession a → IsStanding (noted_at flush e s) → StandsFor (noted_at flush e s) state → IsSession (record a { running = running; state = state; flush = flush })
put_session a s e waits running state flush puts h standing stands =
    let same = put_stands a s e waits running flush puts in
    record {
      standing = subst IsStanding (sym same) standing;
      state = subst (λ (x : Standing). StandsFor x state) (sym same) stands;
      wire = h.wire;
      rounds = h.rounds;
    }

-- the state after an event without an update
quiet_state : (f : Flushing) (s : Standing) (e : Event) (state : Held) → IsRunning s → updates_of (e ∷ []) ≡ [] → StandsFor s state → StandsFor (noted_at f e s) state
quiet_state f s e state h none stands =
    subst (StateStands s.schema state (seen_first s)) (sym (updates_now-noted f e s h ∙ ap (λ (l : List Update). updates_now s ++ l) none ∙ append-nil (updates_now s))) stands

module _ (a : Inside) (s : Standing) (waits : Bool) (running : Running) (h : IsSession a) (closed : s.flush ≡ Closed) where
  here : stands_in a ≡ s → IsStanding s
  here is = subst IsStanding is h.standing

  there : stands_in a ≡ s → StandsFor s a.state
  there is = subst (λ (x : Standing). StandsFor x a.state) is h.state

  again : stands_in a ≡ s → a.flush ≡ Closed
  again is = ap (λ (x : Standing). x.flush) is ∙ closed

  pub session_quiet : (e : Event) → Puts a s e waits running → IsQuiet s e → IsSession (record a { running = running })
  session_quiet e puts quiet =
      let standing = here puts.is in
      subst (λ (f : Flushing). IsSession (record a { running = running; flush = f })) (sym (again puts.is))
      (put_session a s e waits running a.state Closed puts h
      (standing_noted e s standing closed (note_quiet s e standing.running quiet) quiet.unmarked)
      (quiet_state Closed s e a.state standing.running quiet.updates (there puts.is)))

  pub session_marked : Puts a s Flush waits running → IsSession (record a { running = running; flush = Marked })
  session_marked puts =
      let standing = here puts.is in
      put_session a s Flush waits running a.state Marked puts h
      (standing_marked s standing closed (note_flush s standing.running))
      (quiet_state Marked s Flush a.state standing.running refl (there puts.is))

  pub session_did : (u : Update) (state : Held) → Puts a s (Do u) waits running → IsShaped s.schema u → MayDo s u → (StandsFor s a.state → Fit s.schema (seen_first s ++ (updates_now s ++ u ∷ [])) → StateStands s.schema state (seen_first s) (updates_now s ++ u ∷ [])) → IsSession (record a { running = running; state = state })
  session_did u state puts shaped may does =
      let standing = here puts.is in
      subst (λ (f : Flushing). IsSession (record a { running = running; state = state; flush = f })) (sym (again puts.is))
      (put_session a s (Do u) waits running state Closed puts h
      (standing_noted (Do u) s standing closed (note_do s u shaped may) (λ k. cc))
      (subst (StateStands s.schema state (seen_first s)) (sym (updates_now-noted Closed (Do u) s standing.running))
      (does (there puts.is) (fit_do s u standing.running shaped may))))
