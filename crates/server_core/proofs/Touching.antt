-- What serves leave of a hub, and that records grow.
use Rattle.std.proofs.Common.{◌≡◌, ◌⊎◌, ℕ, ◌+◌, List, [], ◌∷◌, ◌++◌, refl, ap, sym, subst, ◌∙◌, arith, inl, inr, append-nil, append_assoc, ◌<◌, below_more}
use Rattle.std.specs.Prelude.{Option, Some, None, is_some, Result, Ok, Err, true, false, ◌==◌, if◌then◌else◌}
use Rattle.std.proofs.lemmas.Bool.{cases_eq}
use mathlib.Core.List.{IsPrefix}
use Rattle.cloud_base.specs.declared.batch.Batch.{Batch}
use Rattle.slot_hub.specs.Boxes.{Boxes, Seen, outbox}
use Rattle.slot_hub.specs.Trades.{Keeps, Told, SwapsIn, SwapsOut}
use Rattle.slot_hub.specs.declared.traits.Busy.{Busy}
use Rattle.packet_codec.specs.Pushes.{Pushed}
use Rattle.packet_codec.specs.Replies.{Replied}
use Rattle.server_core.specs.Servers.{Serving, after_push, joined_with, last_of}
use Rattle.server_core.specs.Stations.{OthersStay, Leaves, LooksAt, Touches, TakesOut, PutsIn}

pub prefix_same : (xs : List Batch) → IsPrefix xs xs
prefix_same xs = ([], append-nil xs)

pub prefix_both : (xs ys zs : List Batch) → IsPrefix xs ys → IsPrefix ys zs → IsPrefix xs zs
prefix_both xs ys zs p q = (p.0 ++ q.0, sym (append_assoc xs p.0 q.0) ∙ ap (λ (l : List Batch). l ++ q.0) p.1 ∙ q.1)

-- a record goes on
pub after_grows : (push : Pushed) (server : Serving) → IsPrefix server.joined.list (after_push push server).joined.list
after_grows push server = elim (push.batch.round == last_of push server + 1) as (λ b. IsPrefix server.joined.list (if b then joined_with push server else server).joined.list) [
  | true ↦ (push.batch ∷ [], refl)
  | false ↦ prefix_same server.joined.list
]

module _ {S : Type 0} where
  stay_same : (c : ℕ) (boxes : Boxes S Pushed Replied) → OthersStay c boxes boxes
  stay_same c boxes = record { outboxes = λ k other. refl; inboxes = λ k other. refl; home = refl }

  stay_both : (c : ℕ) (a b d : Boxes S Pushed Replied) → OthersStay c a b → OthersStay c b d → OthersStay c a d
  stay_both c a b d p q = record {
    outboxes = λ k other. q.outboxes k other ∙ p.outboxes k other;
    inboxes = λ k other. q.inboxes k other ∙ p.inboxes k other;
    home = q.home ∙ p.home;
  }

  told_same : (c : ℕ) (o : Option (Boxes S Pushed Replied)) → Told (OthersStay c) o o
  told_same c None = refl
  told_same c (Some boxes) = stay_same c boxes

  told_both : (c : ℕ) (a b d : Option (Boxes S Pushed Replied)) → Told (OthersStay c) a b → Told (OthersStay c) b d → Told (OthersStay c) a d
  told_both c None None d p q = q
  told_both c None (Some b) d p q = absurd (cc (p))
  told_both c (Some a) None d p q = absurd p
  told_both c (Some a) (Some b) None p q = absurd q
  told_both c (Some a) (Some b) (Some d) p q = stay_both c a b d p q

  told_in : (c : ℕ) (new got : Option Replied) (a b : Option (Boxes S Pushed Replied)) → Told (SwapsIn c new got) a b → Told (OthersStay c) a b
  told_in c new got None b p = p
  told_in c new got (Some a) None p = absurd p
  told_in c new got (Some a) (Some b) p = record { outboxes = λ k other. ap (λ (f : ℕ → Option Pushed). f k) p.outbox; inboxes = p.elsewhere; home = p.home }

  told_out : (c : ℕ) (new got : Option Pushed) (a b : Option (Boxes S Pushed Replied)) → Told (SwapsOut c new got) a b → Told (OthersStay c) a b
  told_out c new got None b p = p
  told_out c new got (Some a) None p = absurd p
  told_out c new got (Some a) (Some b) p = record { outboxes = p.elsewhere; inboxes = λ k other. ap (λ (f : ℕ → Option Replied). f k) p.inbox; home = p.home }

  untold : (c : ℕ) (a b : Option (Boxes S Pushed Replied)) → a ≡ None → is_some b ≡ is_some a → Told (OthersStay c) a b
  untold c None None e same = refl
  untold c None (Some b) e same = absurd (cc (same))
  untold c (Some a) b e same = absurd (cc (e))

  keeps_same : (seen : Seen S Pushed Replied) → Keeps seen seen
  keeps_same seen = record { run = refl; told = refl; looks = λ slot. omega arith; busies = λ slot. omega arith }

  keeps_both : (a b d : Seen S Pushed Replied) → Keeps a b → Keeps b d → Keeps a d
  keeps_both a b d p q = record {
    run = q.run ∙ p.run;
    told = q.told ∙ p.told;
    looks = λ slot. let first = p.looks slot in let second = q.looks slot in omega arith;
    busies = λ slot. let first = p.busies slot in let second = q.busies slot in omega arith;
  }

  pub leaves_same : (seen : Seen S Pushed Replied) → Leaves seen seen
  leaves_same seen = record { keeps = keeps_same seen; took = refl; taken = λ k. refl }

  pub leaves_both : (a b d : Seen S Pushed Replied) → Leaves a b → Leaves b d → Leaves a d
  leaves_both a b d p q = record {
    keeps = keeps_both a b d p.keeps q.keeps;
    took = q.took ∙ p.took;
    taken = λ k. q.taken k ∙ p.taken k;
  }

  pub touches_same : (c : ℕ) (seen : Seen S Pushed Replied) → Touches c seen seen
  touches_same c seen = record { leaves = leaves_same seen; told = told_same c seen.boxes }

  pub touches_both : (c : ℕ) (a b d : Seen S Pushed Replied) → Touches c a b → Touches c b d → Touches c a d
  touches_both c a b d p q = record {
    leaves = leaves_both a b d p.leaves q.leaves;
    told = told_both c a.boxes b.boxes d.boxes p.told q.told;
  }

  pub touches_in : (c : ℕ) (reply : Replied) (result : Result (Option Replied) (Busy (Option Replied))) (old new : Seen S Pushed Replied) → PutsIn c reply result old new → Touches c old new
  touches_in c reply (Ok got) old new put = record {
    leaves = record {
      keeps = put.keeps;
      took = put.took;
      taken = λ k. elim (cases_eq k c) [
        | inl here ↦ ap new.taken here ∙ put.taken ∙ ap old.taken (sym here)
        | inr other ↦ put.others k other
      ];
    };
    told = told_in c (Some reply) got old.boxes new.boxes put.told;
  }
  touches_in c reply (Err busy) old new put = record {
    leaves = record { keeps = put.keeps; took = put.took; taken = λ k. ap (λ (f : ℕ → ℕ). f k) put.untaken };
    told = untold c old.boxes new.boxes put.busy.untold put.keeps.told;
  }

  pub touches_out : (c : ℕ) (result : Result (Option Pushed) (Busy (Option Pushed))) (old new : Seen S Pushed Replied) → TakesOut c result old new → Touches c old new
  touches_out c (Ok got) old new put = record {
    leaves = record { keeps = put.keeps; took = put.took; taken = λ k. ap (λ (f : ℕ → ℕ). f k) put.taken };
    told = told_out c None got old.boxes new.boxes put.told;
  }
  touches_out c (Err busy) old new put = record {
    leaves = record { keeps = put.keeps; took = put.took; taken = λ k. ap (λ (f : ℕ → ℕ). f k) put.taken };
    told = untold c old.boxes new.boxes put.busy.untold put.keeps.told;
  }

  -- ---- the trades that are counted

  pub looked_at : (c : ℕ) (result : Result (Option Pushed) (Busy (Option Pushed))) (old new : Seen S Pushed Replied) → TakesOut c result old new → LooksAt c old new
  looked_at c (Ok got) old new takes none = inl (takes.free.looks none).here
  looked_at c (Err busy) old new takes none = inr takes.busy.busies.here

  looked_on : (c : ℕ) (a b d : Seen S Pushed Replied) → Keeps b d → LooksAt c a b → LooksAt c a d
  looked_on c a b d keeps looked none = elim (looked none) [
    | inl less ↦ let more = keeps.looks (outbox c) in inl (omega arith)
    | inr less ↦ let more = keeps.busies (outbox c) in inr (omega arith)
  ]

  pub looked_out : (c : ℕ) (result : Result (Option Pushed) (Busy (Option Pushed))) (a b d : Seen S Pushed Replied) → TakesOut c result a b → Keeps b d → LooksAt c a d
  looked_out c result a b d takes keeps = looked_on c a b d keeps (looked_at c result a b takes)

  none_told : (a b : Option (Boxes S Pushed Replied)) → is_some b ≡ is_some a → a ≡ None → b ≡ None
  none_told a None same none = refl
  none_told None (Some b) same none = absurd (cc (same))
  none_told (Some a) (Some b) same none = absurd (cc (none))

  looked_since : (c : ℕ) (a b d : Seen S Pushed Replied) → Keeps a b → LooksAt c b d → LooksAt c a d
  looked_since c a b d keeps looked none = elim (looked (none_told a.boxes b.boxes keeps.told none)) [
    | inl less ↦ let more = keeps.looks (outbox c) in inl (omega arith)
    | inr less ↦ let more = keeps.busies (outbox c) in inr (omega arith)
  ]

  -- one client more was looked at
  pub looked_more : (n : ℕ) (a b d : Seen S Pushed Replied) → Keeps a b → Keeps b d → ((c : ℕ) → c < n → LooksAt c a b) → LooksAt n b d → (c : ℕ) → c < n + 1 → LooksAt c a d
  looked_more n a b d first second before here = below_more (λ (c : ℕ). LooksAt c a d) n
      (λ c less. looked_on c a b d second (before c less)) (looked_since n a b d first here)

-- a server that took a push, or stayed as it was for want of memory
pub took_grows : (push : Pushed) (server after : Serving) → (after ≡ server) ⊎ (after ≡ after_push push server) → IsPrefix server.joined.list after.joined.list
took_grows push server after (inl same) = subst (λ (s : Serving). IsPrefix server.joined.list s.joined.list) (sym same) (prefix_same server.joined.list)
took_grows push server after (inr is) = subst (λ (s : Serving). IsPrefix server.joined.list s.joined.list) (sym is) (after_grows push server)
