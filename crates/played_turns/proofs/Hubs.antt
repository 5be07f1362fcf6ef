-- What a client's trade with a box that is told leaves.
use Rattle.std.proofs.Common.{◌≡◌, refl, ap, sym, ◌∙◌, subst, ℕ, Bool, Option, Some, None}
use Rattle.std.specs.Prelude.{◌≢◌, Ok, if◌then◌else◌}
use Rattle.std.specs.Option.{ForSome, option_map}
use Rattle.std.proofs.lemmas.Bool.{eq-eqb, ne_eqb}
use Rattle.cloud_base.specs.declared.batch.Batch.{Batch}
use Rattle.slot_hub.specs.Boxes.{Boxes, Seen}
use Rattle.slot_hub.specs.Trades.{SwapsIn, SwapsOut, Told, taken_round}
use Rattle.packet_codec.specs.Pushes.{Pushed}
use Rattle.packet_codec.specs.Replies.{Replied}
use Rattle.server_core.specs.Stations.{Holding}
use Rattle.session_core.specs.declared.turns.Pull.{Pull}
use Rattle.session_core.specs.declared.turns.Pull.TheVariants as pull
use Rattle.session_core.specs.declared.turns.PushOut.{PushOut}
use Rattle.session_core.specs.declared.turns.PushOut.TheVariants as out
use Rattle.session_core.specs.Meetings.{Fetches, FindsFor, HandsOut, LooksIn, PutsOut}
use Rattle.played_record.specs.Clients.{fetched, round_sent}
use Rattle.played_moments.specs.Moments.{Mail, mail_of, reply_of}

-- ---- mail

-- what lay in the inbox is gone, and its round counts as taken
pub record Looks (mail mail' : Mail) : Type 0 where
  pub out : mail'.out ≡ mail.out
  pub inbox : mail'.inbox ≡ None
  pub held : mail'.held ≡ mail.held
  pub taken : mail'.taken ≡ taken_round (λ (r : Replied). r.round) None mail.inbox mail.taken

-- a push lies in the outbox
pub record Puts (push : Pushed) (mail mail' : Mail) : Type 0 where
  pub out : mail'.out ≡ Some push
  pub inbox : mail'.inbox ≡ mail.inbox
  pub held : mail'.held ≡ mail.held
  pub taken : mail'.taken ≡ mail.taken

-- of what lay in the inbox a pull got the reply to the outstanding round
pub record Gets (sent : Option Batch) (found got : Option Replied) : Type 0 where
  pub is : fetched sent (option_map reply_of found) ≡ option_map reply_of got
  pub from : ForSome got (λ (r : Replied). found ≡ Some r)
  pub round : ForSome got (λ (r : Replied). round_sent sent ≡ Some r.round)

gets_reply : (b : Batch) (found got : Option Replied) (reply : Replied) → got ≡ Some reply → reply.round ≡ b.round
    → found ≡ Some reply
    → Gets (Some b) found got
gets_reply b found got reply got_is round found_is =
    let took : fetched (Some b) (Some (reply_of reply)) ≡ Some (reply_of reply) =
    ap (λ (t : Bool). if t then Some (reply_of reply) else None) (eq-eqb reply.round b.round round) in
    record {
      is = ap (λ (f : Option Replied). fetched (Some b) (option_map reply_of f)) found_is ∙ took
          ∙ sym (ap (option_map reply_of) got_is);
      from = λ r e. found_is ∙ sym got_is ∙ e;
      round = λ r e. let same : reply ≡ r = cc (got_is, e) in
          ap (λ (n : ℕ). Some n) (sym round ∙ ap (λ (r : Replied). r.round) same);
    }

dropped : (b : Batch) (found : Option Replied) → ForSome found (λ (r : Replied). r.round ≢ b.round)
    → fetched (Some b) (option_map reply_of found) ≡ None
dropped b None other = refl
dropped b (Some r) other = ap (λ (t : Bool). if t then Some (reply_of r) else None) (ne_eqb r.round b.round (other r refl))

gets_nothing : (b : Batch) (found got : Option Replied) → got ≡ None → ForSome found (λ (r : Replied). r.round ≢ b.round)
    → Gets (Some b) found got
gets_nothing b found got none other = record {
  is = dropped b found other ∙ sym (ap (option_map reply_of) none);
  from = λ r e. absurd (cc (none, e));
  round = λ r e. absurd (cc (none, e));
}

-- ---- boxes that are told

module _ {S : Type 0} where
  told_by : (Changes : Boxes S Pushed Replied → Boxes S Pushed Replied → Type 0)
      (before after : Option (Boxes S Pushed Replied)) (boxes : Boxes S Pushed Replied)
      → before ≡ Some boxes → Told Changes before after
      → (boxes' : Boxes S Pushed Replied) × (after ≡ Some boxes') × Changes boxes boxes'
  told_by Changes None after boxes is h = absurd (cc (is))
  told_by Changes (Some old) None boxes is h = absurd h
  told_by Changes (Some old) (Some now) boxes is h =
      let same : old ≡ boxes = cc (is) in
      (now, refl, subst (λ (b : Boxes S Pushed Replied). Changes b now) same h)

module _ {S : Type 0} (c : ℕ) (holding : Holding) (boxes : Boxes S Pushed Replied) where
  -- the boxes are told again, and what is on its way for others stays
  pub record Leaves (hub hub' : Seen S Pushed Replied) : Type 0 where
    pub boxes' : Boxes S Pushed Replied
    pub told : hub'.boxes ≡ Some boxes'
    pub others : (k : ℕ) → k ≢ c → mail_of k boxes' holding hub'.taken ≡ mail_of k boxes holding hub.taken

  pub record Looked (found : Option Replied) (hub hub' : Seen S Pushed Replied) : Type 0 where
    pub leaves : Leaves hub hub'
    pub looks : Looks (mail_of c boxes holding hub.taken) (mail_of c leaves.boxes' holding hub'.taken)
    pub was : found ≡ boxes.inbox c

  looked : (found : Option Replied) (hub hub' : Seen S Pushed Replied) → hub.boxes ≡ Some boxes → LooksIn c (Ok found) hub hub'
      → Looked found hub hub'
  looked found hub hub' told h =
      let by = told_by (SwapsIn c None found) hub.boxes hub'.boxes boxes told h.told in
      let swaps = by.2 in
      record {
        leaves = record {
          boxes' = by.0;
          told = by.1;
          others = λ k other.
              let out : by.0.outbox k ≡ boxes.outbox k = ap (λ (f : ℕ → Option Pushed). f k) swaps.outbox in
              let inbox : by.0.inbox k ≡ boxes.inbox k = swaps.elsewhere k other in
              let taken : hub'.taken k ≡ hub.taken k = h.others k other in
              cc (out, inbox, taken);
        };
        looks = record {
          out = ap (λ (f : ℕ → Option Pushed). f c) swaps.outbox;
          inbox = swaps.here;
          held = refl;
          taken = h.taken ∙ ap (λ (f : Option Replied). taken_round (λ (r : Replied). r.round) None f (hub.taken c)) swaps.was;
        };
        was = swaps.was;
      }

  -- where nothing is looked for the inbox was empty
  idle : (hub : Seen S Pushed Replied) → hub.boxes ≡ Some boxes → boxes.inbox c ≡ None → Looked None hub hub
  idle hub told none = record {
    leaves = record { boxes' = boxes; told = told; others = λ k other. refl };
    looks = record {
      out = refl;
      inbox = none;
      held = refl;
      taken = ap (λ (f : Option Replied). taken_round (λ (r : Replied). r.round) None f (hub.taken c)) (sym none);
    };
    was = sym none;
  }

  -- ---- a pull's look

  pub record Found (sent : Option Batch) (got : Option Replied) (hub hub' : Seen S Pushed Replied) : Type 0 where
    pub leaves : Leaves hub hub'
    pub looks : Looks (mail_of c boxes holding hub.taken) (mail_of c leaves.boxes' holding hub'.taken)
    pub gets : Gets sent (boxes.inbox c) got

  found_for : (b : Batch) (result : Pull) (got : Option Replied) (hub hub' : Seen S Pushed Replied) → hub.boxes ≡ Some boxes
      → FindsFor c b.round result got hub hub' → Found (Some b) got hub hub'
  found_for b pull.Idle got hub hub' told h = absurd h
  found_for b (pull.Took number) got hub hub' told h =
      let it = looked (Some h.1.reply) hub hub' told h.1.looks in
      record { leaves = it.leaves; looks = it.looks; gets = gets_reply b (boxes.inbox c) got h.1.reply h.1.got_is h.1.answers (sym it.was) }
  found_for b (pull.Nothing taken) got hub hub' told h =
      let it = looked h.found hub hub' told h.looks in
      record {
        leaves = it.leaves;
        looks = it.looks;
        gets = gets_nothing b (boxes.inbox c) got h.got_is
            (subst (λ (f : Option Replied). ForSome f (λ (r : Replied). r.round ≢ b.round)) it.was h.other);
      }
  found_for b (pull.Busy holder) got hub hub' told h = let none = h.looks.busy.untold in absurd (cc (none, told))

  found_at : (sent : Option Batch) (kept : Option Replied) (result : Pull) (got : Option Replied)
      (hub hub' : Seen S Pushed Replied) → hub.boxes ≡ Some boxes
      → kept ≡ None → (sent ≡ None → boxes.inbox c ≡ None) → Fetches c sent kept result got hub hub' → Found sent got hub hub'
  found_at None kept result got hub hub' told unkept quiet h =
      let it = idle hub told (quiet refl) in
      let none = h.1 in
      subst (Found None got hub) (sym h.2) (record {
        leaves = it.leaves;
        looks = it.looks;
        gets = record {
          is = sym (ap (option_map reply_of) none);
          from = λ r e. absurd (cc (none, e));
          round = λ r e. absurd (cc (none, e));
        };
      })
  found_at (Some b) (Some reply) result got hub hub' told unkept quiet h = absurd (cc (unkept))
  found_at (Some b) None result got hub hub' told unkept quiet h = found_for b result got hub hub' told h

  pub fetches_found : (k : ℕ) (sent : Option Batch) (kept : Option Replied) (result : Pull) (got : Option Replied)
      (hub hub' : Seen S Pushed Replied) → k ≡ c
      → hub.boxes ≡ Some boxes → kept ≡ None → (sent ≡ None → boxes.inbox c ≡ None) → Fetches k sent kept result got hub hub'
      → Found sent got hub hub'
  fetches_found k sent kept result got hub hub' same told unkept quiet h =
      found_at sent kept result got hub hub' told unkept quiet (subst (λ (k : ℕ). Fetches k sent kept result got hub hub') same h)

  -- ---- a push

  pub record HandedOut (push : Pushed) (hub hub' : Seen S Pushed Replied) : Type 0 where
    pub leaves : Leaves hub hub'
    pub puts : Puts push (mail_of c boxes holding hub.taken) (mail_of c leaves.boxes' holding hub'.taken)

  put : (push : Pushed) (found : Option Pushed) (hub hub' : Seen S Pushed Replied) → hub.boxes ≡ Some boxes
      → PutsOut c push (Ok found) hub hub' → HandedOut push hub hub'
  put push found hub hub' told h =
      let by = told_by (SwapsOut c (Some push) found) hub.boxes hub'.boxes boxes told h.told in
      let swaps = by.2 in
      record {
        leaves = record {
          boxes' = by.0;
          told = by.1;
          others = λ k other.
              let out : by.0.outbox k ≡ boxes.outbox k = swaps.elsewhere k other in
              let inbox : by.0.inbox k ≡ boxes.inbox k = ap (λ (f : ℕ → Option Replied). f k) swaps.inbox in
              let taken : hub'.taken k ≡ hub.taken k = ap (λ (f : ℕ → ℕ). f k) h.taken in
              cc (out, inbox, taken);
        };
        puts = record {
          out = swaps.here;
          inbox = ap (λ (f : ℕ → Option Replied). f c) swaps.inbox;
          held = refl;
          taken = ap (λ (f : ℕ → ℕ). f c) h.taken;
        };
      }

  at_c : (push : Pushed) (result : _) (hub hub' : Seen S Pushed Replied) → push.batch.client ≡ c
      → PutsOut push.batch.client push result hub hub' → PutsOut c push result hub hub'
  at_c push result hub hub' same h = subst (λ (k : ℕ). PutsOut k push result hub hub') same h

  pub handed_out : (push : Pushed) (again : Bool) (result : PushOut) (hub hub' : Seen S Pushed Replied) → push.batch.client ≡ c
      → hub.boxes ≡ Some boxes
      → HandsOut push again result hub hub' → HandedOut push hub hub'
  handed_out push again (out.New round) hub hub' same told h =
      put push h.1.found hub hub' told (at_c push (Ok h.1.found) hub hub' same h.1.puts)
  handed_out push again (out.Again round) hub hub' same told h =
      put push h.1.found hub hub' told (at_c push (Ok h.1.found) hub hub' same h.1.puts)
  handed_out push again (out.Busy holder) hub hub' same told h = let none = h.puts.busy.untold in absurd (cc (none, told))
