-- A session that is over, what it saw and what is outstanding, by the record.
use Rattle.std.specs.Prelude.{◌≡◌, ◌≢◌, refl, ℕ, ◌+◌, Bool, cond, List, [], ◌∷◌, ◌++◌, length, take, Option, Some, None}
use Rattle.std.proofs.Common.{sym, ap, subst, ◌∙◌}
use Rattle.std.specs.List.{last_or}
use Rattle.std.specs.Option.{option_to_list}
use Rattle.std.proofs.lemmas.Bool.{ne_eqb, eq-eqb}
use Rattle.std.proofs.lemmas.List.{append-nil, take_at}
use mathlib.Core.List.{IsPrefix}
use Rattle.cloud_base.specs.declared.batch.Batch.{Batch}
use Rattle.cloud_base.specs.declared.batch.Tail.{Tail}
use Rattle.cloud_base.specs.declared.schema.Schema.{Schema}
use Rattle.batch_history.specs.Batches.{of_client, unjoined}
use Rattle.packet_codec.specs.Served.{IsServed}
use Rattle.played_record.specs.Clients.{own_batches}
use Rattle.session_core.specs.Standings.{Standing, IsRunning, IsOutstanding, base_now, tail_of}
use Rattle.session_tails.specs.Left.{IsLeftBy}

-- what holds of a session that is over, by a record that has its batches
pub record IsOver (s : Standing) (batches : List Batch) : Type 0 where
  pub running : IsRunning s
  pub served : IsServed s.schema batches
  pub past : IsPrefix s.past.list batches
  pub own : own_batches s.client batches (tail_of s) ≡ s.own.list

module _ (schema : Schema) (c : ℕ) (batches : List Batch) (tail : Tail) (l : IsLeftBy schema c batches tail) where
  pub over : IsServed schema batches → IsOver l.stands batches
  over served = record {
    running = l.standing.running;
    served = subst (λ (x : Schema). IsServed x batches) (sym l.of_schema) served;
    past = l.past;
    own = ap (λ (k : ℕ). own_batches k batches (tail_of l.stands)) l.client ∙ ap (own_batches c batches) (sym l.tail_is) ∙ l.own;
  }

  -- what holds of what its session left holds of the tail
  pub of_tail : (P : Schema → ℕ → Tail → Type 0) → P l.stands.schema l.stands.client (tail_of l.stands) → P schema c tail
  of_tail P h =
      subst (λ (x : Schema). P x c tail) l.of_schema
      (subst (λ (k : ℕ). P l.stands.schema k tail) l.client (subst (P l.stands.schema l.stands.client) (sym l.tail_is) h))

-- ---- an outstanding push

pub unjoined_next : (own : List Batch) (b : Batch) → b.round ≡ length own + 1 → unjoined own (Some b) ≡ b ∷ []
unjoined_next own b e = ap (λ (t : Bool). cond t (b ∷ []) []) (eq-eqb b.round (length own + 1) e)

pub unjoined_there : (own : List Batch) (b : Batch) → b.round ≢ length own + 1 → unjoined own (Some b) ≡ []
unjoined_there own b e = ap (λ (t : Bool). cond t (b ∷ []) []) (ne_eqb b.round (length own + 1) e)

last_or_last : {A : Type 0} (o : Option A) (xs : List A) (x : A) → last_or o (xs ++ x ∷ []) ≡ Some x
last_or_last o [] x = refl
last_or_last o (y ∷ xs) x = last_or_last (Some y) xs x

module _ (s : Standing) (batches : List Batch) (h : IsOver s batches) (b : Batch) (is : s.sent ≡ Some b) where
  pub out : IsOutstanding s.schema s.client s.past.list s.own.list s.rest b
  out = h.running.sent b is

  -- its round is the next one of its own client
  pub next_own : b.round ≡ length (of_client s.client batches) + 1 → b.round ≡ length (of_client b.client batches) + 1
  next_own next = next ∙ ap (λ (k : ℕ). length (of_client k batches) + 1) (sym out.client)

  -- else it was joined, and is the last of its client's
  pub there_last : b.round ≢ length (of_client s.client batches) + 1 → last_or None (of_client s.client batches) ≡ Some b
  there_last there =
      let joined = of_client s.client batches in
      let all : joined ≡ s.own.list =
      sym (append-nil joined)
      ∙ ap (λ (l : List Batch). joined ++ l) (sym (unjoined_there joined b there))
      ∙ ap (λ (o : Option Batch). joined ++ unjoined joined o) (sym is)
      ∙ h.own in
      ap (last_or None) (all ∙ h.running.own ∙ ap (λ (o : Option Batch). of_client s.client s.past.list ++ option_to_list o) is)
      ∙ last_or_last None (of_client s.client s.past.list) b

-- ---- a pull that is the last

pulled_of : (o : Option Batch) (past : List Batch) (n : ℕ) → base_now o past ≡ Some n → (o ≡ None) × (length past ≡ n)
pulled_of None past n e = (refl, cc)
pulled_of (Some b) past n e = absurd cc

module _ (s : Standing) (batches : List Batch) (h : IsOver s batches) (n : ℕ) (pulled : base_now s.sent s.past.list ≡ Some n) where
  pub none : s.sent ≡ None
  none = (pulled_of s.sent s.past.list n pulled).0

  -- all that was seen was joined then
  pub count : length s.past.list ≡ n
  count = (pulled_of s.sent s.past.list n pulled).1

  front : take n batches ≡ s.past.list
  front = ap (take n) (sym h.past.1) ∙ take_at s.past.list h.past.0 n count

  -- and all the client's batches were
  pub own_joined : of_client s.client batches ≡ s.own.list
  own_joined =
      sym (append-nil (of_client s.client batches))
      ∙ ap (λ (o : Option Batch). of_client s.client batches ++ unjoined (of_client s.client batches) o) (sym none)
      ∙ h.own

  pub own_seen : of_client s.client (take n batches) ≡ of_client s.client batches
  own_seen =
      ap (of_client s.client) front
      ∙ sym (append-nil (of_client s.client s.past.list))
      ∙ ap (λ (o : Option Batch). of_client s.client s.past.list ++ option_to_list o) (sym none)
      ∙ sym h.running.own
      ∙ sym own_joined
