-- What a hub of one thread holds.
use Rattle.std.specs.Prelude.{◌≡◌, ℕ, List, length, Option, Some, None, is_none, slice_get, slice_index_or}
use Rattle.std.specs.Option.{ForSome}
use Rattle.slot_hub.specs.Runs.{Named, clients_of, Carries}
use Rattle.slot_hub.specs.Boxes.{Boxes, Seen}

-- each client's box and the round that it took last, in the clients' order, and the server where it is at home
pub record Held (S P R : Type 0) : Type 0 where
  pub outboxes : List (Option P)
  pub inboxes : List (Option R)
  pub rounds : List ℕ
  pub server : Option S

abbrev pub boxes_of : {S P R : Type 0} → Held S P R → Boxes S P R
boxes_of held = record {
  outbox = λ k. slice_index_or held.outboxes k None;
  inbox = λ k. slice_index_or held.inboxes k None;
  home = held.server;
}

-- it tells its boxes, and is never busy
abbrev pub seen_of : {S P R : Type 0} → Named → Held S P R → Seen S P R
seen_of run held = record {
  run = run;
  boxes = Some (boxes_of held);
  looks = λ slot. 0;
  busies = λ slot. 0;
  taken = λ k. slice_index_or held.rounds k 0;
  took = is_none held.server;
}

-- each client has its boxes, which hold what is its own, and all is of the run
pub record HeldOf {S P R : Type 0} (client_of : P → ℕ) (of_run : P → Named → Type 0) (reply_client_of : R → ℕ)
    (reply_of_run : R → Named → Type 0) (home : S → Named → Type 0) (run : Named) (held : Held S P R) : Type 0 where
  pub outboxes_count : length held.outboxes ≡ clients_of run
  pub inboxes_count : length held.inboxes ≡ clients_of run
  pub rounds_count : length held.rounds ≡ clients_of run
  pub out : (k : ℕ) (packet : Option P) → slice_get held.outboxes k ≡ Some packet → ForSome packet (Carries client_of of_run run k)
  pub into : (k : ℕ) (packet : Option R) → slice_get held.inboxes k ≡ Some packet → ForSome packet (Carries reply_client_of reply_of_run run k)
  pub server : ForSome held.server (λ server. home server run)
