-- Trades with boxes that are told.
use Rattle.std.proofs.Common.{◌≡◌, refl, ap, sym, subst, ◌∙◌, ℕ, Option, Some, None, inl, inr}
use Rattle.std.specs.Prelude.{◌≢◌, Result, Ok, Err}
use Rattle.std.proofs.lemmas.Bool.{cases_eq}
use Rattle.slot_hub.specs.Boxes.{Boxes, Seen}
use Rattle.slot_hub.specs.Trades.{Told, SwapsIn, SwapsOut}
use Rattle.slot_hub.specs.declared.traits.Busy.{Busy}
use Rattle.packet_codec.specs.Pushes.{Pushed}
use Rattle.packet_codec.specs.Replies.{Replied}
use Rattle.server_core.specs.Stations.{TakesOut, PutsIn}

module _ {S : Type 0} where
  -- what is on its way for others than client c stays, and so do the rounds of the replies that were taken
  pub record Stays (c : ℕ) (boxes boxes' : Boxes S Pushed Replied) (taken taken' : ℕ → ℕ) : Type 0 where
    pub outboxes : (k : ℕ) → k ≢ c → boxes'.outbox k ≡ boxes.outbox k
    pub inboxes : (k : ℕ) → k ≢ c → boxes'.inbox k ≡ boxes.inbox k
    pub rounds : (k : ℕ) → taken' k ≡ taken k

  pub stays_then : (c : ℕ) (a b d : Boxes S Pushed Replied) (x y z : ℕ → ℕ) → Stays c a b x y → Stays c b d y z → Stays c a d x z
  stays_then c a b d x y z p q = record {
    outboxes = λ k other. q.outboxes k other ∙ p.outboxes k other;
    inboxes = λ k other. q.inboxes k other ∙ p.inboxes k other;
    rounds = λ k. q.rounds k ∙ p.rounds k;
  }

  -- boxes that are told are told again
  pub record Changed (Changes : Boxes S Pushed Replied → Boxes S Pushed Replied → Type 0) (boxes : Boxes S Pushed Replied)
      (after : Option (Boxes S Pushed Replied)) : Type 0 where
    pub boxes' : Boxes S Pushed Replied
    pub told : after ≡ Some boxes'
    pub changes : Changes boxes boxes'

  pub changed_told : (Changes : Boxes S Pushed Replied → Boxes S Pushed Replied → Type 0)
      (before after : Option (Boxes S Pushed Replied)) (boxes : Boxes S Pushed Replied)
      → Told Changes before after → before ≡ Some boxes → Changed Changes boxes after
  changed_told Changes None after boxes t e = absurd (cc (e))
  changed_told Changes (Some a) None boxes t e = absurd t
  changed_told Changes (Some a) (Some b) boxes t e =
      let same : a ≡ boxes = cc (e) in
      record { boxes' = b; told = refl; changes = subst (λ (x : Boxes S Pushed Replied). Changes x b) same t }

  -- a reply that is put in
  pub record IsPut (c : ℕ) (reply : Replied) (boxes : Boxes S Pushed Replied) (taken : ℕ → ℕ)
      (new : Seen S Pushed Replied) : Type 0 where
    pub boxes' : Boxes S Pushed Replied
    pub told : new.boxes ≡ Some boxes'
    pub inbox : boxes'.inbox c ≡ Some reply
    pub outbox : boxes'.outbox ≡ boxes.outbox
    pub stays : Stays c boxes boxes' taken new.taken

  round_stays : (c : ℕ) (reply : Replied) (got : Option Replied) (old new : Seen S Pushed Replied)
      → PutsIn c reply (Ok got) old new → (k : ℕ) → new.taken k ≡ old.taken k
  round_stays c reply got old new put k = elim (cases_eq k c) [
    | inl here ↦ ap new.taken here ∙ put.taken ∙ ap old.taken (sym here)
    | inr other ↦ put.others k other
  ]

  pub is_put : (c : ℕ) (reply : Replied) (result : Result (Option Replied) (Busy (Option Replied)))
      (old new : Seen S Pushed Replied) (boxes : Boxes S Pushed Replied) → PutsIn c reply result old new
      → old.boxes ≡ Some boxes → IsPut c reply boxes old.taken new
  is_put c reply (Ok got) old new boxes put told =
      let h = changed_told (SwapsIn c (Some reply) got) old.boxes new.boxes boxes put.told told in
      record {
        boxes' = h.boxes';
        told = h.told;
        inbox = h.changes.here;
        outbox = h.changes.outbox;
        stays = record {
          outboxes = λ k other. ap (λ (f : ℕ → Option Pushed). f k) h.changes.outbox;
          inboxes = h.changes.elsewhere;
          rounds = round_stays c reply got old new put;
        };
      }
  is_put c reply (Err busy) old new boxes put told = let none : old.boxes ≡ None = put.busy.untold in absurd (cc (none, told))

  -- an outbox that is emptied
  pub record IsTaken (c : ℕ) (got : Option Pushed) (boxes : Boxes S Pushed Replied) (taken : ℕ → ℕ)
      (new : Seen S Pushed Replied) : Type 0 where
    pub boxes' : Boxes S Pushed Replied
    pub told : new.boxes ≡ Some boxes'
    pub was : got ≡ boxes.outbox c
    pub here : boxes'.outbox c ≡ None
    pub inbox : boxes'.inbox ≡ boxes.inbox
    pub stays : Stays c boxes boxes' taken new.taken

  pub is_taken : (c : ℕ) (got : Option Pushed) (old new : Seen S Pushed Replied) (boxes : Boxes S Pushed Replied)
      → TakesOut c (Ok got) old new → old.boxes ≡ Some boxes → IsTaken c got boxes old.taken new
  is_taken c got old new boxes takes told =
      let h = changed_told (SwapsOut c None got) old.boxes new.boxes boxes takes.told told in
      record {
        boxes' = h.boxes';
        told = h.told;
        was = h.changes.was;
        here = h.changes.here;
        inbox = h.changes.inbox;
        stays = record {
          outboxes = h.changes.elsewhere;
          inboxes = λ k other. ap (λ (f : ℕ → Option Replied). f k) h.changes.inbox;
          rounds = λ k. ap (λ (f : ℕ → ℕ). f k) takes.taken;
        };
      }

  pub never_busy : (c : ℕ) (busy : Busy (Option Pushed)) (old new : Seen S Pushed Replied) (boxes : Boxes S Pushed Replied)
      → TakesOut c (Err busy) old new → old.boxes ≡ Some boxes → ⊥
  never_busy c busy old new boxes takes told = let none : old.boxes ≡ None = takes.busy.untold in cc (none, told)
