-- No id is created twice by a record and the tails of sessions that are over.
use Rattle.std.specs.Prelude.{◌≡◌, refl, ℕ, suc, ◌+◌, ◌≤◌, List, [], ◌∷◌, ◌++◌, length, All, Contains, Option, Some, None, slice_get}
use Rattle.std.proofs.Common.{sym, ap, subst, ◌∙◌, inl, inr, arith}
use Rattle.std.proofs.lemmas.Bool.{cases_eq}
use Rattle.std.proofs.lemmas.List.{append-nil, append_assoc}
use Rattle.std.proofs.lemmas.List.Elements.{All-nil, All-append, All-contains, Contains-append_cases}
use Rattle.cloud_base.specs.Events.{updates_of}
use Rattle.cloud_base.specs.Log.{created}
use Rattle.cloud_base.specs.Shaped.{CreatedOnce, Disjoint}
use Rattle.cloud_base.specs.Values.{Id}
use Rattle.cloud_base.specs.declared.batch.Batch.{Batch}
use Rattle.cloud_base.specs.declared.batch.Tail.{Tail}
use Rattle.cloud_base.specs.declared.update.Update.{Update}
use Rattle.cloud_base.proofs.LogLemmas.{created_parts, created_once_parts, parts_created_once}
use Rattle.cloud_base.proofs.SortedLemmas.{none_in}
use Rattle.batch_history.specs.Batches.{updates_in, of_client, unjoined}
use Rattle.batch_history.specs.Sound.{CreatedBy, updates_sent, updates_left}
use Rattle.batch_history.proofs.Fronts.{flat_all}
use Rattle.batch_joins.specs.Joins.{all_updates}
use Rattle.batch_joins.proofs.Own.{joined_once}
use Rattle.session_core.specs.Standings.{Standing, tail_of, updates_now}
use Rattle.session_tails.proofs.Over.{IsOver, out, unjoined_next, unjoined_there}
use Rattle.session_tails.proofs.Tails.{sent_fits}

-- the updates of a tail that the record doesn't have
abbrev pub left_of : List Batch → ℕ → Tail → List Update
left_of batches c tail = updates_sent (unjoined (of_client c batches) tail.sent) ++ (updates_of tail.now.before ++ updates_of tail.now.rest)

-- they create ids of their client, each once and none of the record
pub record IsNew (batches : List Batch) (c : ℕ) (tail : Tail) : Type 0 where
  pub mine : CreatedBy c (left_of batches c tail)
  pub once : CreatedOnce (all_updates batches ++ left_of batches c tail)

created_by_parts : (c : ℕ) (log more : List Update) → CreatedBy c log → CreatedBy c more → CreatedBy c (log ++ more)
created_by_parts c log more h k =
    subst (All (λ (id : Id). id.client ≡ c)) (sym (created_parts log more)) (All-append (λ (id : Id). id.client ≡ c) (created log) (created more) h k)

sent_all : (own : List Batch) → updates_sent own ≡ all_updates own
sent_all [] = refl
sent_all (b ∷ own) = ap (λ (l : List Update). updates_in b ++ l) (sent_all own)

module _ (s : Standing) (batches : List Batch) (h : IsOver s batches) where
  abbrev joined : List Batch
  joined = of_client s.client batches

  sent_mine : (o : Option Batch) → s.sent ≡ o → CreatedBy s.client (updates_sent (unjoined joined o))
  sent_mine None is = All-nil (λ (id : Id). id.client ≡ s.client)
  sent_mine (Some b) is =
      let Mine : List Batch → Type 0 = λ (own : List Batch). CreatedBy s.client (updates_sent own) in
      elim (cases_eq b.round (length joined + 1)) [
        | inl next ↦
            subst Mine (sym (unjoined_next joined b next))
            (subst (CreatedBy s.client) (sym (append-nil (updates_in b)))
            (subst (λ (k : ℕ). CreatedBy k (updates_in b)) (out s batches h b is).client (sent_fits s batches h b is next).own))
        | inr there ↦ subst Mine (sym (unjoined_there joined b there)) (All-nil (λ (id : Id). id.client ≡ s.client))
      ]

  left_mine : CreatedBy s.client (left_of batches s.client (tail_of s))
  left_mine = created_by_parts s.client (updates_sent (unjoined joined s.sent)) (updates_now s) (sent_mine s.sent refl) h.running.mine

  -- its own updates are those of its batches, and what is left
  done_parts : all_updates s.own.list ++ updates_now s ≡ all_updates joined ++ left_of batches s.client (tail_of s)
  done_parts =
      let more = unjoined joined s.sent in
      ap (λ (l : List Update). l ++ updates_now s)
      (ap all_updates (sym h.own) ∙ flat_all joined more ∙ ap (λ (l : List Update). all_updates joined ++ l) (sym (sent_all more)))
      ∙ append_assoc (all_updates joined) (updates_sent more) (updates_now s)

  pub left_new : IsNew batches s.client (tail_of s)
  left_new = record {
    mine = left_mine;
    once = joined_once s.client batches (left_of batches s.client (tail_of s)) h.served.sound left_mine (subst CreatedOnce done_parts h.running.once);
  }

-- ---- all tails from client c on

module _ (batches : List Batch) where
  abbrev pub AreNew : ℕ → List Tail → Type 0
  AreNew c tails = (k i : ℕ) (tail : Tail) → k ≡ c + i → slice_get tails i ≡ Some tail → IsNew batches k tail

  first_new : (c : ℕ) (tail : Tail) (tails : List Tail) → AreNew c (tail ∷ tails) → IsNew batches c tail
  first_new c tail tails new = new c 0 tail (omega arith) refl

  later_new : (c : ℕ) (tail : Tail) (tails : List Tail) → AreNew c (tail ∷ tails) → AreNew (c + 1) tails
  later_new c tail tails new k i t e at = new k (suc i) t (omega (arith, e)) at

  -- they create ids of these clients alone
  of_later : (c : ℕ) (tails : List Tail) → AreNew c tails → (id : Id) → Contains (created (updates_left batches c tails)) id → c ≤ id.client
  of_later c [] new id m = absurd (none_in id m)
  of_later c (tail ∷ tails) new id m =
      let first = left_of batches c tail in
      let more = updates_left batches (c + 1) tails in
      elim (Contains-append_cases (created first) (created more) id (subst (λ (ids : List Id). Contains ids id) (created_parts first more) m)) [
        | inl here ↦
            let mine : id.client ≡ c = All-contains (λ (x : Id). x.client ≡ c) (created first) id (first_new c tail tails new).mine here in
            omega arith
        | inr later ↦
            let further : c + 1 ≤ id.client = of_later (c + 1) tails (later_new c tail tails new) id later in
            omega arith
      ]

  pub all_once : (c : ℕ) (tails : List Tail) → CreatedOnce (all_updates batches) → AreNew c tails → CreatedOnce (all_updates batches ++ updates_left batches c tails)
  all_once c [] once new = subst CreatedOnce (sym (append-nil (all_updates batches))) once
  all_once c (tail ∷ tails) once new =
      let all = all_updates batches in
      let first = left_of batches c tail in
      let more = updates_left batches (c + 1) tails in
      let one : IsNew batches c tail = first_new c tail tails new in
      let others = created_once_parts all more (all_once (c + 1) tails once (later_new c tail tails new)) in
      let apart : Disjoint (created (all ++ first)) (created more) = λ id m k.
      elim (Contains-append_cases (created all) (created first) id (subst (λ (ids : List Id). Contains ids id) (created_parts all first) m)) [
        | inl before ↦ others.2 id before k
        | inr here ↦
            let mine : id.client ≡ c = All-contains (λ (x : Id). x.client ≡ c) (created first) id one.mine here in
            let later : c + 1 ≤ id.client = of_later (c + 1) tails (later_new c tail tails new) id k in
            absurd (omega arith)
      ] in
      subst CreatedOnce (append_assoc all first more) (parts_created_once (all ++ first) more one.once others.1 apart)
