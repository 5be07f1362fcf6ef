-- A session that takes a reply.
use Rattle.std.proofs.Common.{◌≡◌, refl, sym, ◌∙◌, ap, subst, List, [], ◌∷◌, ◌++◌, length, Some, None, Option, append-nil, inl, inr, arith, map}
use Rattle.std.specs.Prelude.{is_some, true, false, ◌+◌, ℕ, Contains}
use mathlib.Core.List.{IsPrefix}
use Rattle.std.specs.List.{last_or}
use Rattle.std.specs.Option.{option_to_list}
use Rattle.std.proofs.lemmas.Bool.{cases_eq}
use Rattle.std.proofs.lemmas.List.{length-append}
use Rattle.std.proofs.lemmas.List.Elements.{Contains-append_right, Contains-append_left, Contains-push}
use Rattle.cloud_base.specs.Alike.{IsPart}
use Rattle.cloud_base.specs.Answer.{answer}
use Rattle.cloud_base.specs.Events.{updates_of, EndsAtMark}
use Rattle.cloud_base.specs.Shaped.{CreatedOnce, Fit}
use Rattle.cloud_base.specs.declared.batch.Batch.{Batch}
use Rattle.cloud_base.specs.declared.schema.Schema.{Schema}
use Rattle.cloud_base.specs.declared.update.Event.{Event}
use Rattle.cloud_base.specs.declared.update.Event.TheVariants.{Flush}
use Rattle.cloud_base.specs.declared.update.Update.{Update}
use Rattle.cloud_base.proofs.SortedLemmas.{split_member}
use Rattle.batch_history.specs.Batches.{updates_in, flat, of_client, last_seen, stretch_of}
use Rattle.batch_history.specs.Flushed.{FlushesEnd, FlushedStretches}
use Rattle.batch_history.specs.Right.{IsThatOf, RightEvents}
use Rattle.batch_history.proofs.Clients.{of_client-here, of_client-else}
use Rattle.batch_history.proofs.Fronts.{flat_front}
use Rattle.batch_joins.specs.Joins.{all_updates}
use Rattle.batch_joins.proofs.Own.{joined_fit, more_own, pulled_part}
use Rattle.batch_joins.proofs.Prefixes.{prefix_whole}
use Rattle.packet_codec.specs.Replies.{Replied}
use Rattle.packet_codec.specs.Served.{IsServed}
use Rattle.session_core.specs.declared.flushing.Flushing.{Flushing}
use Rattle.session_core.specs.declared.flushing.Flushing.TheVariants.{Closed, Marked, Sent}
use Rattle.session_core.specs.Standings.{Standing, IsRunning, IsStanding, IsFlushing, IsKeptReply, updates_now, updates_sent, seen_first, now_of, base_now, met, received}
use Rattle.session_core.specs.Sessions.{took, flush_after_pull}
use Rattle.session_core.proofs.EventLemmas.{last_seen-last}
use Rattle.session_core.proofs.Flushes.{flushed_with}
use Rattle.session_core.proofs.Notes.{last_seen-first}

-- a client's batch in a record is one of the record
pub own_member : (c : ℕ) (batches : List Batch) (b : Batch) → Contains (of_client c batches) b → Contains batches b
own_member c [] b h = h
own_member c (x ∷ rest) b h = elim (cases_eq x.client c) [
  | inl e ↦ elim (split_member x b (of_client c rest) (subst (λ (l : List Batch). Contains l b) (of_client-here c x rest e) h)) [
    | inl same ↦ Contains-append_left (x ∷ []) rest b (subst (Contains (x ∷ [])) same (Contains-push [] x))
    | inr m ↦ Contains-append_right (x ∷ []) rest b (own_member c rest b m)
  ]
  | inr other ↦ Contains-append_right (x ∷ []) rest b (own_member c rest b (subst (λ (l : List Batch). Contains l b) (of_client-else c x rest other) h))
]

-- what the tokens of a reply tell
pub record Meets (s : Standing) (reply : Replied) : Type 0 where
  pub own : IsPrefix reply.own.list s.own.list
  pub whole : List Batch
  pub past : IsPrefix s.past.list whole
  pub theirs : IsPrefix reply.past.list whole

module _ (s : Standing) (h : IsRunning s) (b : Batch) (is : s.sent ≡ Some b) (reply : Replied) (kept : IsKeptReply s.schema s.client s.past s.own s.sent reply) where
  pub own_waiting : s.own.list ≡ of_client s.client s.past.list ++ b ∷ []
  own_waiting = h.own ∙ ap (λ (x : Option Batch). of_client s.client s.past.list ++ option_to_list x) is

  pub served : IsServed s.schema reply.past.list
  served = subst (λ (x : Schema). IsServed x reply.past.list) kept.of_schema kept.is.may.served

  module _ (meets : Meets s reply) where
    pub own_same : reply.own.list ≡ s.own.list
    own_same =
        let count : length s.own.list ≡ length reply.own.list = sym kept.round ∙ kept.is.may.last in
        prefix_whole reply.own.list s.own.list meets.own (omega arith)

    -- the reply's record has all of the client's batches
    pub holds : of_client s.client reply.past.list ≡ s.own.list
    holds = ap (λ (c : ℕ). of_client c reply.past.list) (sym kept.client) ∙ kept.is.may.mine ∙ own_same

    -- and all that the client had seen
    pub longer : IsPrefix s.past.list reply.past.list
    longer =
        let count : length (of_client s.client reply.past.list) ≡ length (of_client s.client s.past.list) + 1 = ap length (holds ∙ own_waiting) ∙ length-append (of_client s.client s.past.list) (b ∷ []) in
        more_own s.client s.past.list reply.past.list meets.whole meets.past meets.theirs (omega arith)

    pub holds_sent : Contains reply.past.list b
    holds_sent =
        own_member s.client reply.past.list b
        (subst (λ (l : List Batch). Contains l b) (sym (holds ∙ own_waiting)) (Contains-push (of_client s.client s.past.list) b))

    -- what the state began with is part of the reply's record
    pub seen_part : IsPart (seen_first s) (all_updates reply.past.list)
    seen_part = subst (λ (o : Option Batch). IsPart (all_updates s.past.list ++ updates_sent o) (all_updates reply.past.list)) (sym is) (pulled_part s.past.list reply.past.list b longer holds_sent)

    pub joined_now : Fit s.schema (all_updates reply.past.list ++ updates_now s)
    joined_now = joined_fit s.schema s.client reply.past.list (updates_now s) served.sound served.fits h.shaped h.mine (subst (λ (l : List Batch). CreatedOnce (all_updates l ++ updates_now s)) (sym holds) h.once)

module _ (s : Standing) (h : IsStanding s) (b : Batch) (is : s.sent ≡ Some b) (reply : Replied) (kept : IsKeptReply s.schema s.client s.past s.own s.sent reply) (longer_is : IsPrefix s.past.list reply.past.list) (holds_is : of_client s.client reply.past.list ≡ s.own.list) (marked : EndsAtMark s.before) where
  run : IsRunning s
  run = h.running

  -- at the end of its last batch it had seen the same
  last_same : last_seen s.past.list [] s.own.list ≡ last_seen reply.past.list [] s.own.list
  last_same =
      let own = own_waiting s run b is reply kept in
      let below : flat reply.past.list b.base ≡ all_updates s.past.list =
      ap (flat reply.past.list) (run.sent b is).base
      ∙ ap (λ (l : List Batch). flat l (length s.past.list)) (sym longer_is.1)
      ∙ flat_front s.past.list longer_is.0 (length s.past.list) (omega arith) in
      last_seen-first s b is run
      ∙ ap (λ (l : List Update). l ++ updates_in b) (sym below)
      ∙ sym (ap (last_seen reply.past.list []) own ∙ last_seen-last reply.past.list (of_client s.client s.past.list) [] b)

  running_took : IsRunning (took reply.past s)
  running_took = record {
    client = run.client;
    served = served s run b is reply kept;
    own = sym (append-nil (of_client s.client reply.past.list) ∙ holds_is);
    sent = λ x k. cc;
    opens = λ k. absurd (no_last (of_client s.client s.past.list) b (sym (own_waiting s run b is reply kept) ∙ k));
    before = λ k. marked;
    right_before = subst (λ (l : List Update). RightEvents (IsThatOf (answer s.schema)) l s.before) last_same run.right_before;
    right_rest = subst (λ (l : List Event). RightEvents (IsThatOf (answer s.schema)) (all_updates reply.past.list ++ updates_of s.before) l) (sym (run.sent b is).unpulled) tt;
    shaped = run.shaped;
    mine = run.mine;
    once = run.once;
    few = run.few;
    rounds = run.rounds;
    reply = λ x k. cc;
  }
    where
      no_last : (l : List Batch) (x : Batch) → l ++ x ∷ [] ≡ [] → ⊥
      no_last [] x k = cc
      no_last (y ∷ l) x k = cc

  -- where a push was outstanding, nothing began with a pull
  unreceived : {A : Type 0} → is_some (base_now s.sent s.past.list) ≡ true → A
  unreceived k =
      let none : is_some (base_now s.sent s.past.list) ≡ false = ap (λ (o : Option Batch). is_some (base_now o s.past.list)) is in
      cc (k, none)

  flushed_at : (f : Flushing) → IsFlushing s f → FlushedStretches (map stretch_of s.own.list ++ met s f) → FlushedStretches (map stretch_of s.own.list ++ met (took reply.past s) (flush_after_pull f))
  flushed_at Closed at was = flushed_with (map stretch_of s.own.list) (now_of s ∷ []) (now_of (took reply.past s) ∷ []) (λ k. unreceived k.1) (λ k. k) was
  flushed_at Marked at was = flushed_with (map stretch_of s.own.list) (now_of s ∷ received ∷ []) (now_of (took reply.past s) ∷ received ∷ []) (λ k. unreceived k.1) (λ k. k) was
  flushed_at Sent at was =
      let nothing : s.before ++ s.rest ≡ [] = ap (λ (l : List Event). l ++ s.rest) at.before ∙ at.rest in
      flushed_with (map stretch_of s.own.list) (received ∷ []) (now_of (took reply.past s) ∷ [])
      (λ k. (at.before, refl))
      (λ k. (subst FlushesEnd (sym nothing) tt, λ last. absurd (no_mark nothing last), tt))
      was
    where
      no_mark : {l : List Event} → l ≡ [] → last_or None l ≡ Some Flush → ⊥
      no_mark e k = let none = ap (last_or None) e in cc (none, k)

  flush_at : (f : Flushing) → IsFlushing s f → IsFlushing (took reply.past s) (flush_after_pull f)
  flush_at Closed at = tt
  flush_at Marked at = at
  flush_at Sent at = tt

  pub standing_took : IsStanding (took reply.past s)
  standing_took = record { running = running_took; flush = flush_at s.flush h.flush; flushed = flushed_at s.flush h.flush h.flushed }
