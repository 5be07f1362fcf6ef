-- The tail of a session that is over fits behind the record.
use Rattle.std.specs.Prelude.{◌≡◌, ◌≢◌, ◌↔◌, ◌⊎◌, refl, ℕ, ◌+◌, List, [], length, Option, Some, None}
use Rattle.std.proofs.Common.{sym, ap, ◌∙◌, inl, inr, arith}
use Rattle.std.specs.List.{last_or}
use Rattle.std.proofs.lemmas.Bool.{cases_eq}
use Rattle.cloud_base.specs.declared.batch.Batch.{Batch}
use Rattle.batch_history.specs.Batches.{of_client}
use Rattle.batch_history.specs.Sound.{FitsBehind, SoundTail}
use Rattle.batch_joins.proofs.Joined.{fits}
use Rattle.batch_joins.proofs.Prefixes.{prefix_length}
use Rattle.session_core.specs.Standings.{Standing, base_now, tail_of}
use Rattle.session_tails.proofs.Over.{IsOver, out, next_own, there_last, none, count, own_joined, own_seen}

waits_at : (o : Option Batch) (past : List Batch) → base_now o past ≡ None ↔ o ≢ None
waits_at None past = (λ e. absurd cc, λ e. absurd (e refl))
waits_at (Some b) past = (λ e k. cc, λ e. refl)

module _ (s : Standing) (batches : List Batch) (h : IsOver s batches) where
  -- an outstanding push that is of the next round fits behind the record
  pub sent_fits : (b : Batch) → s.sent ≡ Some b → b.round ≡ length (of_client s.client batches) + 1 → FitsBehind batches b
  sent_fits b is next =
      let sent = out s batches h b is in
      fits batches s.past.list s.own.list b h.served.sound h.past sent.may.follows (next_own s batches h b is next)

  sent_sound : (b : Batch) → s.sent ≡ Some b → (last_or None (of_client s.client batches) ≡ Some b) ⊎ ((b.client ≡ s.client) × FitsBehind batches b)
  sent_sound b is = elim (cases_eq b.round (length (of_client s.client batches) + 1)) [
    | inl next ↦ inr ((out s batches h b is).client, sent_fits b is next)
    | inr there ↦ inl (there_last s batches h b is there)
  ]

  unpulled_at : (o : Option Batch) → s.sent ≡ o → base_now o s.past.list ≡ None → s.rest ≡ []
  unpulled_at None is e = absurd cc
  unpulled_at (Some b) is e = (out s batches h b is).unpulled

  opens_at : (n : ℕ) → base_now s.sent s.past.list ≡ Some n → of_client s.client batches ≡ [] → (s.past.list ≡ []) × (s.before ≡ [])
  opens_at n pulled empty = h.running.opens (sym (own_joined s batches h n pulled) ∙ empty)

  pub tail_sound : SoundTail batches s.client (tail_of s)
  tail_sound = record {
    sent = sent_sound;
    waits = waits_at s.sent s.past.list;
    unpulled = unpulled_at s.sent refl;
    base = λ n pulled. omega (arith, count s batches h n pulled, prefix_length s.past.list batches h.past);
    known = own_seen s batches h;
    opens = λ n pulled empty. sym (count s batches h n pulled) ∙ ap length (opens_at n pulled empty).0;
    first = λ n pulled empty. (opens_at n pulled empty).1;
    before = λ n pulled. h.running.before (none s batches h n pulled);
    own = h.running.mine;
  }
