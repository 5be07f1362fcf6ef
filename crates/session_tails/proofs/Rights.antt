-- The answers in the tail of a session that is over are right.
use Rattle.std.specs.Prelude.{◌≡◌, refl, ℕ, ◌+◌, ◌≤◌, ◌==◌, List, [], ◌∷◌, ◌++◌, length, Contains, Option, Some, None}
use Rattle.std.proofs.Common.{sym, ap, subst, ◌∙◌, inl, inr, arith}
use Rattle.std.specs.Option.{option_to_list}
use Rattle.std.proofs.lemmas.Bool.{cases_eq}
use Rattle.std.proofs.lemmas.List.{append-nil, append_assoc, length-append}
use Rattle.std.proofs.lemmas.List.Elements.{Contains-append_cases}
use Rattle.cloud_base.specs.Answer.{answer}
use Rattle.cloud_base.specs.Events.{updates_of}
use Rattle.cloud_base.specs.declared.batch.Batch.{Batch}
use Rattle.cloud_base.specs.declared.update.Answer.{Answer}
use Rattle.cloud_base.specs.declared.update.Query.{Query}
use Rattle.cloud_base.specs.declared.update.Update.{Update}
use Rattle.cloud_base.proofs.SortedLemmas.{here, there, none_in, split_member, kept_member}
use Rattle.batch_history.specs.Batches.{updates_in, flat, of_client, seen_after, last_seen, unjoined}
use Rattle.batch_history.specs.Right.{IsThatOf, RightBehind, RightEvents, RightTail}
use Rattle.batch_history.specs.Sound.{EachFrom, FitsBehind}
use Rattle.batch_history.proofs.Fronts.{flat_front}
use Rattle.batch_joins.specs.Joins.{all_updates}
use Rattle.batch_joins.proofs.Joined.{right_batches}
use Rattle.session_core.specs.Standings.{Standing, base_now, tail_of}
use Rattle.session_tails.proofs.Over.{IsOver, out, next_own, unjoined_next, unjoined_there, count}

-- the last of a list, behind the others
last_of_each : {A : Type 0} (P : List A → A → Type 0) (before xs : List A) (x : A) → EachFrom P before (xs ++ x ∷ []) → P (before ++ xs) x
last_of_each P before [] x each = subst (λ (l : List _). P l x) (sym (append-nil before)) each.0
last_of_each P before (y ∷ xs) x each = subst (λ (l : List _). P l x) (append_assoc before (y ∷ []) xs) (last_of_each P (before ++ y ∷ []) xs x each.1)

-- a base is at most the place of its batch
base_within : (before rest : List Batch) (x : Batch) → EachFrom FitsBehind before rest → Contains rest x → x.base ≤ length before + length rest
base_within before [] x each m = absurd (none_in x m)
base_within before (b ∷ rest) x each m =
    let base : b.base ≤ length before = each.0.base in
    elim (split_member b x rest m) [
      | inl e ↦ let same : b.base ≡ x.base = ap (λ (y : Batch). y.base) e in omega arith
      | inr later ↦
          let further = base_within (before ++ b ∷ []) rest x each.1 later in
          let longer : length (before ++ b ∷ []) ≡ length before + 1 = length-append before (b ∷ []) in
          omega arith
    ]

-- what a client has seen is told by a front that has the bases of its batches
last_seen_front : (front more : List Batch) (log : List Update) (own : List Batch) → ((x : Batch) → Contains own x → x.base ≤ length front) → last_seen (front ++ more) log own ≡ last_seen front log own
last_seen_front front more log [] low = refl
last_seen_front front more log (b ∷ own) low =
    ap (λ (l : List Update). last_seen (front ++ more) (l ++ updates_in b) own) (flat_front front more b.base (low b (here b own)))
    ∙ last_seen_front front more (seen_after front b) own (λ x m. low x (there b x own m))

module _ (s : Standing) (batches : List Batch) (h : IsOver s batches) where
  abbrev is_answer : List Update → Query → Answer → Type 0
  is_answer = IsThatOf (answer s.schema)

  sent_right : (o : Option Batch) → s.sent ≡ o → (b : Batch) → unjoined (of_client s.client batches) o ≡ b ∷ [] → RightBehind is_answer batches b
  sent_right None is b e = absurd cc
  sent_right (Some sent) is b e = elim (cases_eq sent.round (length (of_client s.client batches) + 1)) [
    | inl next ↦
        let may = (out s batches h sent is).may in
        let same : sent ≡ b = cc (sym (unjoined_next (of_client s.client batches) sent next) ∙ e) in
        subst (RightBehind is_answer batches) same
        (last_of_each (RightBehind is_answer) [] batches sent
        (right_batches is_answer batches s.past.list s.own.list sent h.served.sound h.past may.follows (next_own s batches h sent is next) h.served.right may.right))
    | inr other ↦ absurd (cc (sym (unjoined_there (of_client s.client batches) sent other) ∙ e))
  ]

  -- ---- what ran since

  sent_base : (o : Option Batch) → s.sent ≡ o → (x : Batch) → Contains (option_to_list o) x → x.base ≤ length s.past.list
  sent_base None is x m = absurd (none_in x m)
  sent_base (Some b) is x m = elim (split_member b x [] m) [
    | inl e ↦ let same : b.base ≡ x.base = ap (λ (y : Batch). y.base) e in let base : b.base ≡ length s.past.list = (out s batches h b is).base in omega arith
    | inr later ↦ absurd (none_in x later)
  ]

  -- the bases of its batches are in what it has seen
  own_base : (x : Batch) → Contains s.own.list x → x.base ≤ length s.past.list
  own_base x m =
      let joined = of_client s.client s.past.list in
      elim (Contains-append_cases joined (option_to_list s.sent) x (subst (λ (l : List Batch). Contains l x) h.running.own m)) [
        | inl before ↦
            let low = base_within [] s.past.list x h.running.served.sound.each (kept_member (λ (b : Batch). b.client == s.client) s.past.list x before) in
            omega arith
        | inr sent ↦ sent_base s.sent refl x sent
      ]

  last_same : last_seen s.past.list [] s.own.list ≡ last_seen batches [] (of_client s.client batches ++ unjoined (of_client s.client batches) s.sent)
  last_same =
      sym (last_seen_front s.past.list h.past.0 [] s.own.list own_base)
      ∙ ap (λ (l : List Batch). last_seen l [] s.own.list) h.past.1
      ∙ ap (last_seen batches []) (sym h.own)

  module _ (n : ℕ) (pulled : base_now s.sent s.past.list ≡ Some n) where
    flat_same : all_updates s.past.list ≡ flat batches n
    flat_same =
        sym (flat_front s.past.list h.past.0 (length s.past.list) (omega arith))
        ∙ ap (λ (l : List Batch). flat l (length s.past.list)) h.past.1
        ∙ ap (flat batches) (count s batches h n pulled)

    rest_right : RightEvents is_answer (flat batches n ++ updates_of s.before) s.rest
    rest_right = subst (λ (l : List Update). RightEvents is_answer (l ++ updates_of s.before) s.rest) flat_same h.running.right_rest

  pub tail_right : RightTail is_answer batches s.client (tail_of s)
  tail_right = record {
    sent = sent_right s.sent refl;
    before = subst (λ (l : List Update). RightEvents is_answer l s.before) last_same h.running.right_before;
    rest = rest_right;
  }
