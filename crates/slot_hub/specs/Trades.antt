-- What each call of a hub does.
use Rattle.std.specs.Prelude.{◌≡◌, ◌≢◌, refl, ℕ, ◌<◌, ◌≤◌, true, false, Option, Some, None, is_some, Result, IfOk, IfErr, OnOk, OnErr}
use Rattle.std.specs.Option.{ForSome}
use Rattle.slot_hub.specs.Runs.{Named, Carries}
use Rattle.slot_hub.specs.Boxes.{Slot, outbox, inbox, home, Boxes, Seen}
use Rattle.slot_hub.specs.declared.traits.Busy.{Busy}

-- a count rose at one slot, and stands at the others
pub record Rises (slot : Slot) (old new : Slot → ℕ) : Type 0 where
  pub here : old slot < new slot
  pub elsewhere : (other : Slot) → other ≢ slot → new other ≡ old other

-- the round of the last reply that a client took, after one more trade with its inbox
abbrev pub taken_round : {R : Type 0} → (R → ℕ) → Option R → Option R → ℕ → ℕ
taken_round round_of (Some new) got before = before
taken_round round_of None None before = before
taken_round round_of None (Some reply) before = round_of reply

-- where the boxes are told they change so, and they are told again
abbrev pub Told : {S P R : Type 0} → (Boxes S P R → Boxes S P R → Type 0) → Option (Boxes S P R) → Option (Boxes S P R) → Type 0
Told Changes None after = after ≡ None
Told Changes (Some boxes) None = ⊥
Told Changes (Some boxes) (Some boxes') = Changes boxes boxes'

module _ {S P R : Type 0} where
  -- no call changes the run or whether the boxes are told, and no count falls
  pub record Keeps (old new : Seen S P R) : Type 0 where
    pub run : new.run ≡ old.run
    pub told : is_some new.boxes ≡ is_some old.boxes
    pub looks : (slot : Slot) → old.looks slot ≤ new.looks slot
    pub busies : (slot : Slot) → old.busies slot ≤ new.busies slot

  -- one outbox gives what it held for what is put in, and nothing else changes
  pub record SwapsOut (c : ℕ) (new got : Option P) (old now : Boxes S P R) : Type 0 where
    pub was : got ≡ old.outbox c
    pub here : now.outbox c ≡ new
    pub elsewhere : (k : ℕ) → k ≢ c → now.outbox k ≡ old.outbox k
    pub inbox : now.inbox ≡ old.inbox
    pub home : now.home ≡ old.home

  -- one inbox gives what it held for what is put in, and nothing else changes
  pub record SwapsIn (c : ℕ) (new got : Option R) (old now : Boxes S P R) : Type 0 where
    pub was : got ≡ old.inbox c
    pub here : now.inbox c ≡ new
    pub elsewhere : (k : ℕ) → k ≢ c → now.inbox k ≡ old.inbox k
    pub outbox : now.outbox ≡ old.outbox
    pub home : now.home ≡ old.home

  -- the place of the server held one thing and holds another, and nothing else changes
  pub record Moves (before after : Option S) (old now : Boxes S P R) : Type 0 where
    pub was : old.home ≡ before
    pub here : now.home ≡ after
    pub outbox : now.outbox ≡ old.outbox
    pub inbox : now.inbox ≡ old.inbox

  -- a slot was busy, which comes only where the boxes aren't told: what was handed in comes back
  pub record IsBusy {T : Type 0} (slot : Slot) (handed : T) (busy : Busy T) (old new : Seen S P R) : Type 0 where
    pub back : busy.back ≡ handed
    pub holder : busy.holder ≢ 0
    pub untold : old.boxes ≡ None
    pub busies : Rises slot old.busies new.busies
    pub looks : new.looks ≡ old.looks

  -- a slot was free, which is counted where the boxes aren't told
  pub record FindsFree (slot : Slot) (old new : Seen S P R) : Type 0 where
    pub looks : old.boxes ≡ None → Rises slot old.looks new.looks
    pub busies : new.busies ≡ old.busies

  -- A trade with a client's outbox. What comes out is that client's and of the run; where the boxes are told it is what lay
  -- there.
  pub record TradesOut (client_of : P → ℕ) (of_run : P → Named → Type 0) (c : ℕ) (new : Option P)
      (result : Result (Option P) (Busy (Option P))) (old now : Seen S P R) : Type 0 where
    pub keeps : Keeps old now
    pub took : now.took ≡ old.took
    pub taken : now.taken ≡ old.taken
    pub got : IfOk result (λ got. ForSome got (Carries client_of of_run old.run c))
    pub told : IfOk result (λ got. Told (SwapsOut c new got) old.boxes now.boxes)
    pub free : OnOk result (FindsFree (outbox c) old now)
    pub busy : IfErr result (λ busy. IsBusy (outbox c) new busy old now)

  -- A trade with a client's inbox. The round of a reply that comes out for nothing counts as taken.
  pub record TradesIn (client_of round_of : R → ℕ) (of_run : R → Named → Type 0) (c : ℕ) (new : Option R)
      (result : Result (Option R) (Busy (Option R))) (old now : Seen S P R) : Type 0 where
    pub keeps : Keeps old now
    pub took : now.took ≡ old.took
    pub taken : IfOk result (λ got. now.taken c ≡ taken_round round_of new got (old.taken c))
    pub untaken : OnErr result (now.taken ≡ old.taken)
    pub others : (k : ℕ) → k ≢ c → now.taken k ≡ old.taken k
    pub got : IfOk result (λ got. ForSome got (Carries client_of of_run old.run c))
    pub told : IfOk result (λ got. Told (SwapsIn c new got) old.boxes now.boxes)
    pub free : OnOk result (FindsFree (inbox c) old now)
    pub busy : IfErr result (λ busy. IsBusy (inbox c) new busy old now)

  -- The server is taken, which is of the run. That counts as no look at a box.
  pub record TakesServer (of_run : S → Named → Type 0) (result : Result S (Busy Unit)) (old now : Seen S P R) : Type 0 where
    pub keeps : Keeps old now
    pub taken : now.taken ≡ old.taken
    pub took : OnOk result (now.took ≡ true)
    pub untaken : OnErr result (now.took ≡ false)
    pub server : IfOk result (λ server. of_run server old.run)
    pub told : IfOk result (λ server. Told (Moves (Some server) None) old.boxes now.boxes)
    pub free : OnOk result (now.busies ≡ old.busies)
    pub looks : (slot : Slot) → slot ≢ home → now.looks slot ≡ old.looks slot
    pub busy : IfErr result (λ busy. IsBusy home tt busy old now)

  -- The server is given back. That counts as no look at all.
  pub record GivesServer (server : S) (old now : Seen S P R) : Type 0 where
    pub keeps : Keeps old now
    pub taken : now.taken ≡ old.taken
    pub took : now.took ≡ false
    pub told : Told (Moves None (Some server)) old.boxes now.boxes
    pub free : now.busies ≡ old.busies
    pub looks : now.looks ≡ old.looks

-- a reply that is put in isn't taken, one that comes out for nothing is, and an empty inbox leaves the round
pub example_rounds : (taken_round {R = ℕ} (λ r. r) (Some 5) (Some 4) 3 ≡ 3) × (taken_round {R = ℕ} (λ r. r) None (Some 4) 3 ≡ 4)
    × (taken_round {R = ℕ} (λ r. r) None None 3 ≡ 3)
example_rounds = (refl, refl, refl)
