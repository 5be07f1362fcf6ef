-- A session whose next round becomes outstanding.
use Rattle.std.proofs.Common.{◌≡◌, refl, sym, ◌∙◌, ap, subst, List, [], ◌∷◌, ◌++◌, length, Some, None, Option, append-nil, append_assoc, arith, map}
use Rattle.std.specs.Prelude.{is_some, false, ◌<◌, ◌≤◌, ◌^◌, ◌+◌, ℕ}
use Rattle.std.specs.List.{AllByRecursion}
use Rattle.std.specs.Option.{option_to_list}
use Rattle.std.proofs.lemmas.List.Elements.{All-nil}
use Rattle.std.proofs.lemmas.List.{length-append, map-append}
use Rattle.cloud_base.specs.Answer.{answer}
use Rattle.cloud_base.specs.Shaped.{CreatedOnce, IsShaped}
use Rattle.cloud_base.specs.Values.{Id}
use Rattle.cloud_base.specs.declared.batch.Batch.{Batch}
use Rattle.cloud_base.specs.declared.batch.Stretch.{Stretch}
use Rattle.cloud_base.specs.declared.update.Update.{Update}
use Rattle.batch_history.specs.Batches.{of_client, last_seen, stretch_of}
use Rattle.batch_history.specs.Flushed.{BeginsReceived, FlushedStretches}
use Rattle.batch_history.specs.Right.{IsThatOf, RightEvents}
use Rattle.batch_joins.specs.Joins.{all_updates, FitsAlone}
use Rattle.packet_codec.specs.Pushes.{IsNext, MayPush}
use Rattle.packet_codec.specs.Replies.{Replied}
use Rattle.packet_codec.specs.Served.{IsWithin}
use Rattle.packet_codec.proofs.Bounded.{all_more, all_of_client, within_own}
use Rattle.packet_codec.proofs.Records.{next_may}
use Rattle.session_core.specs.declared.flushing.Flushing.{Flushing}
use Rattle.session_core.specs.declared.flushing.Flushing.TheVariants.{Closed, Marked, Sent}
use Rattle.session_core.specs.Standings.{Standing, IsRunning, IsStanding, IsFlushing, IsOutstanding, updates_now, updates_done, now_of, met, received, base_now}
use Rattle.session_core.specs.Sessions.{next_batch, begun, flush_after_push, MayBegin}
use Rattle.session_core.proofs.Flushes.{flushed_with}
use Rattle.session_core.proofs.Updates.{all_updates-last}

module _ (s : Standing) (h : IsStanding s) (none : s.sent ≡ None) (may : MayBegin s) where
  run : IsRunning s
  run = h.running

  -- its batches are those that it has seen joined
  pub own_joined : s.own.list ≡ of_client s.client s.past.list
  own_joined = run.own ∙ ap (λ (x : Option Batch). of_client s.client s.past.list ++ option_to_list x) none ∙ append-nil (of_client s.client s.past.list)

  done_grown : all_updates (s.own.list ++ next_batch s ∷ []) ≡ updates_done s
  done_grown = all_updates-last s.own.list (next_batch s)

  within : IsWithin (s.own.list ++ next_batch s ∷ [])
  within =
      let count : length (s.own.list ++ next_batch s ∷ []) ≡ length s.own.list + 1 = length-append s.own.list (next_batch s ∷ []) in
      let few : length s.own.list < 2 ^ 32 = may.rounds in
      within_own s.client (s.own.list ++ next_batch s ∷ []) run.client
      (all_more (λ (b : Batch). b.client ≡ s.client) s.own.list (next_batch s) (subst (λ (l : List Batch). AllByRecursion (λ (b : Batch). b.client ≡ s.client) l) (sym own_joined) (all_of_client s.client s.past.list)) refl)
      (subst (λ (n : ℕ). n ≤ 2 ^ 32) (sym count) (below few))
      (subst (λ (l : List Update). length l < 2 ^ 28) (sym done_grown) run.few)
    where
      below : {n m : ℕ} → n < m → n + 1 ≤ m
      below {n = n} {m = m} k = omega (arith, k)

  pub is_next : IsNext s.schema s.past.list (next_batch s)
  is_next = record {
    base = refl;
    alone = subst (λ (l : List Batch). FitsAlone l (next_batch s)) own_joined (record {
      round = refl;
      opens = λ first. ap length (run.opens (opening first)).0;
      first = λ first. ((run.opens (opening first)).1, may.opens (opening first));
      before = run.before none;
      rest = may.marks;
      mine = run.mine;
    });
    once = subst (λ (l : List Batch). CreatedOnce (all_updates l ++ updates_now s)) own_joined run.once;
    right = record {
      before = subst (λ (l : List Batch). RightEvents (IsThatOf (answer s.schema)) (last_seen s.past.list [] l) s.before) own_joined run.right_before;
      rest = run.right_rest;
    };
    shaped = run.shaped;
    within = subst (λ (l : List Batch). IsWithin (l ++ next_batch s ∷ [])) own_joined within;
  }
    where
      no_length : (l : List Batch) → length l + 1 ≡ 1 → l ≡ []
      no_length [] k = refl
      no_length (x ∷ l) k = absurd (omega (arith, k))

      opening : length s.own.list + 1 ≡ 1 → s.own.list ≡ []
      opening k = no_length s.own.list k

  pub may_push : MayPush s.schema s.past.list (s.own.list ++ next_batch s ∷ []) (next_batch s)
  may_push = subst (λ (l : List Batch). MayPush s.schema s.past.list (l ++ next_batch s ∷ []) (next_batch s)) (sym own_joined) (next_may s.schema s.past.list (next_batch s) run.served is_next)

  nothing_now : updates_done (begun s) ≡ updates_done s
  nothing_now = append-nil (all_updates (s.own.list ++ next_batch s ∷ [])) ∙ done_grown

  running_begun : IsRunning (begun s)
  running_begun = record {
    client = run.client;
    served = run.served;
    own = ap (λ (l : List Batch). l ++ next_batch s ∷ []) own_joined;
    sent = λ b k. subst (IsOutstanding s.schema s.client s.past.list (s.own.list ++ next_batch s ∷ []) []) (some_is k) (record {
      client = refl;
      base = refl;
      round = sym (length-append s.own.list (next_batch s ∷ []));
      may = may_push;
      unpulled = refl;
    });
    opens = λ k. absurd (no_last s.own.list (next_batch s) k);
    before = λ k. cc;
    right_before = tt;
    right_rest = tt;
    shaped = All-nil (IsShaped s.schema);
    mine = All-nil (λ (id : Id). id.client ≡ s.client);
    once = subst CreatedOnce (sym nothing_now) run.once;
    few = subst (λ (l : List Update). length l < 2 ^ 28) (sym nothing_now) run.few;
    rounds = within_rounds;
    reply = λ reply k. absurd (unkept reply k);
  }
    where
      some_is : {x y : Batch} → Some x ≡ Some y → x ≡ y
      some_is k = cc

      no_last : (l : List Batch) (b : Batch) → l ++ b ∷ [] ≡ [] → ⊥
      no_last [] b k = cc
      no_last (x ∷ l) b k = cc

      within_rounds : length (s.own.list ++ next_batch s ∷ []) ≤ 2 ^ 32
      within_rounds =
          let count : length (s.own.list ++ next_batch s ∷ []) ≡ length s.own.list + 1 = length-append s.own.list (next_batch s ∷ []) in
          let few : length s.own.list < 2 ^ 32 = may.rounds in
          subst (λ (n : ℕ). n ≤ 2 ^ 32) (sym count) (below few)
        where
          below : {n m : ℕ} → n < m → n + 1 ≤ m
          below {n = n} {m = m} k = omega (arith, k)

      unkept : (reply : Replied) → s.reply ≡ Some reply → ⊥
      unkept reply k =
          let waits = (run.reply reply k).waits in
          let idle : is_some s.sent ≡ false = ap is_some none in
          cc (waits, idle)

  -- ---- its flush

  stretches_grown : map stretch_of (s.own.list ++ next_batch s ∷ []) ≡ map stretch_of s.own.list ++ stretch_of (next_batch s) ∷ []
  stretches_grown = map-append stretch_of s.own.list (next_batch s ∷ [])

  pulled : now_of s ≡ stretch_of (next_batch s)
  pulled = ap (λ (o : Option Batch). record { base = base_now o s.past.list; before = s.before; rest = s.rest }) none

  -- the stretch is sent, and others come behind it
  sent_flushed : (behind more : List Stretch) → FlushedStretches (map stretch_of s.own.list ++ now_of s ∷ behind) → (BeginsReceived (stretch_of (next_batch s) ∷ behind) → BeginsReceived (stretch_of (next_batch s) ∷ more)) → (FlushedStretches (stretch_of (next_batch s) ∷ behind) → FlushedStretches (stretch_of (next_batch s) ∷ more)) → FlushedStretches (map stretch_of (s.own.list ++ next_batch s ∷ []) ++ more)
  sent_flushed behind more was begin rest =
      subst (λ (l : List Stretch). FlushedStretches (l ++ more)) (sym stretches_grown)
      (subst FlushedStretches (sym (append_assoc (map stretch_of s.own.list) (stretch_of (next_batch s) ∷ []) more))
      (flushed_with (map stretch_of s.own.list) (stretch_of (next_batch s) ∷ behind) (stretch_of (next_batch s) ∷ more) begin rest
      (subst (λ (t : Stretch). FlushedStretches (map stretch_of s.own.list ++ t ∷ behind)) pulled was)))

  flushed_at : (f : Flushing) → IsFlushing s f → FlushedStretches (map stretch_of s.own.list ++ met s f) → FlushedStretches (map stretch_of (s.own.list ++ next_batch s ∷ []) ++ met (begun s) (flush_after_push f))
  flushed_at Closed is was = sent_flushed [] (now_of (begun s) ∷ []) was (λ k. k) (λ k. (k.0, λ marked. absurd (k.1 marked), (tt, λ marked. cc, tt)))
  flushed_at Marked is was = sent_flushed (received ∷ []) (received ∷ []) was (λ k. k) (λ k. k)
  flushed_at Sent is was = absurd (let k = is.sent in cc (none, k))

  flush_at : (f : Flushing) → IsFlushing s f → IsFlushing (begun s) (flush_after_push f)
  flush_at Closed is = tt
  flush_at Marked is = record { batch = next_batch s; sent = refl; marked = is; before = refl; rest = refl }
  flush_at Sent is = absurd (let k = is.sent in cc (none, k))

  pub standing_begun : IsStanding (begun s)
  standing_begun = record { running = running_begun; flush = flush_at s.flush h.flush; flushed = flushed_at s.flush h.flush h.flushed }
