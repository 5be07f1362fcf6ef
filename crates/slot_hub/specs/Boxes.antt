-- What a hub holds, and what is known of that.
use Rattle.std.specs.Prelude.{ℕ, Bool, Option}
use Rattle.slot_hub.specs.Runs.{Named}

-- a client's outbox, its inbox, or the place of the server
pub data Slot : Type 0 where
  outbox : ℕ → Slot
  inbox : ℕ → Slot
  home : Slot

-- what lies in each box, by its client, and the server where it is at home
pub record Boxes (S P R : Type 0) : Type 0 where
  pub outbox : ℕ → Option P
  pub inbox : ℕ → Option R
  pub home : Option S

-- What a hub tells: its run; its boxes, or none of them; the trades with each slot that found it free, where the boxes
-- aren't told; the tries that found it busy; the round of the last reply that each client took; and whether the server was
-- taken from here and not given back.
pub record Seen (S P R : Type 0) : Type 0 where
  pub run : Named
  pub boxes : Option (Boxes S P R)
  pub looks : Slot → ℕ
  pub busies : Slot → ℕ
  pub taken : ℕ → ℕ
  pub took : Bool
