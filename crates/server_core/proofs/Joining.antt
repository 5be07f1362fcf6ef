-- A server's record with a push's batch.
use Rattle.std.proofs.Common.{◌≡◌, ℕ, ◌+◌, ◌≤◌, ◌<◌, List, [], ◌∷◌, ◌++◌, length, ap, sym, subst, ◌∙◌, arith, inl, inr, append-nil}
use Rattle.std.specs.Prelude.{Option, Some, None, slice_get, slice_set, replicate, true, false, ◌==◌, if◌then◌else◌}
use Rattle.std.specs.List.{AllByRecursion}
use Rattle.std.proofs.lemmas.Bool.{cases_eq, cases_lt}
use Rattle.std.proofs.lemmas.List.{length-append, length-set, length-replicate, get_or-set_same, get_or-set_other, get_or-replicate, get_or_past}
use Rattle.cloud_base.specs.declared.batch.Batch.{Batch}
use Rattle.cloud_base.specs.declared.schema.Schema.{Schema}
use Rattle.cloud_base.specs.declared.update.Update.{Update}
use Rattle.batch_history.specs.Batches.{updates_in, of_client}
use Rattle.batch_history.proofs.Fronts.{flat_all}
use Rattle.batch_history.proofs.Clients.{of_client-last, of_client-other}
use Rattle.batch_joins.specs.Joins.{all_updates, Follows}
use Rattle.batch_joins.proofs.Joined.{alone}
use Rattle.schema_fj.specs.Held.{Held}
use Rattle.schema_fj.specs.States.{StateStands}
use Rattle.front_table.specs.TokenView.{TokenView}
use Rattle.packet_codec.specs.Served.{IsServed}
use Rattle.packet_codec.specs.Pushes.{Pushed}
use Rattle.packet_codec.specs.Replies.{Replied}
use Rattle.packet_codec.specs.Runs.{push_of_run, reply_of_run}
use Rattle.slot_hub.specs.Runs.{Named, clients_of}
use Rattle.cloud_base.specs.Values.{most_clients}
use Rattle.server_core.specs.Servers.{Serving, IsRecord, IsServing, StandsFor, IsFor, IsServerOf, Answers, own_front, own_batches, joined_with, after_push, last_of}

each_more : {A : Type 0} (P : A → Type 0) (xs : List A) (x : A) → AllByRecursion P xs → P x → AllByRecursion P (xs ++ x ∷ [])
each_more P [] x h p = (p, tt)
each_more P (y ∷ xs) x h p = (h.0, each_more P xs x h.1 p)

each_weaker : {A : Type 0} (P Q : A → Type 0) (xs : List A) → ((x : A) → P x → Q x) → AllByRecursion P xs → AllByRecursion Q xs
each_weaker P Q [] f h = tt
each_weaker P Q (x ∷ xs) f h = (f x h.0, each_weaker P Q xs f h.1)

-- the updates of a record with one more batch
pub updates_joined : (batches : List Batch) (b : Batch) → all_updates (batches ++ b ∷ []) ≡ all_updates batches ++ updates_in b
updates_joined batches b = flat_all batches (b ∷ []) ∙ ap (λ (l : List Update). all_updates batches ++ l) (append-nil (updates_in b))

-- what is kept of each client is its batches again
own_joined : (batches : List Batch) (owns : List (Option (TokenView Batch))) (front : TokenView Batch) (b : Batch) → b.client < length owns → of_client b.client (batches ++ b ∷ []) ≡ front.list → ((c : ℕ) → own_batches (own_front c owns) ≡ of_client c batches) → (c : ℕ) → own_batches (own_front c (slice_set owns b.client (Some front))) ≡ of_client c (batches ++ b ∷ [])
own_joined batches owns front b there mine own c =
    elim (cases_eq c b.client) [
      | inl here ↦
          ap (λ (k : ℕ). own_batches (own_front k (slice_set owns b.client (Some front)))) here
          ∙ ap own_batches (get_or-set_same owns b.client (Some front) None there)
          ∙ sym mine ∙ ap (λ (k : ℕ). of_client k (batches ++ b ∷ [])) (sym here)
      | inr other ↦
          ap own_batches (get_or-set_other owns b.client c (Some front) None other)
          ∙ own c ∙ sym (of_client-other c batches b (λ e. other (sym e)))
    ]

pub joined_record : (schema : Schema) (batches : List Batch) (owns : List (Option (TokenView Batch))) (front : TokenView Batch) (b : Batch) → IsRecord schema batches owns → b.client < length owns → IsServed schema (batches ++ b ∷ []) → of_client b.client (batches ++ b ∷ []) ≡ front.list → IsRecord schema (batches ++ b ∷ []) (slice_set owns b.client (Some front))
joined_record schema batches owns front b kept there served mine =
    let same : length (slice_set owns b.client (Some front)) ≡ length owns = length-set owns b.client (Some front) in
    record {
      some = let few = kept.some in omega arith;
      most = let few = kept.most in omega arith;
      clients = each_weaker (λ (x : Batch). x.client < length owns) (λ (x : Batch). x.client < length (slice_set owns b.client (Some front))) (batches ++ b ∷ []) (λ x h. omega arith) (each_more (λ (x : Batch). x.client < length owns) batches b kept.clients there);
      served = served;
      own = own_joined batches owns front b there mine kept.own;
    }

-- what each server keeps, at the beginning
pub opened_record : (schema : Schema) (clients : ℕ) → 1 ≤ clients → clients ≤ most_clients → IsServed schema [] → IsRecord schema [] (replicate clients None)
opened_record schema clients some most served =
    let same : length (replicate {A = Option (TokenView Batch)} clients None) ≡ clients = length-replicate clients None in
    record {
      some = omega arith;
      most = omega arith;
      clients = tt;
      served = served;
      own = λ c. ap own_batches (none_there clients c);
    }
  where
    none_there : (n c : ℕ) → own_front c (replicate n None) ≡ None
    none_there n c = elim (cases_lt c n) [
      | inl less ↦ get_or-replicate n c None None less
      | inr more ↦ get_or_past (replicate n None) c None (omega (arith, length-replicate {A = Option (TokenView Batch)} n None))
    ]

-- a server of a run stays of it with a push of the run
pub joined_of_run : (push : Pushed) (server : Serving) (run : Named) → push.batch.client < length server.owns → IsServerOf server run → push_of_run push run → IsServerOf (joined_with push server) run
joined_of_run push server run there home of = record {
  schema = home.schema;
  joined = home.joined;
  clients = length-set server.owns push.batch.client (Some push.own) ∙ home.clients;
  own = λ c front e. elim (cases_eq c push.batch.client) [
    | inl here ↦
        let lies : own_front c (slice_set server.owns push.batch.client (Some push.own)) ≡ Some push.own = ap (λ (k : ℕ). own_front k (slice_set server.owns push.batch.client (Some push.own))) here ∙ get_or-set_same server.owns push.batch.client (Some push.own) None there in
        let same : push.own ≡ front = cc (lies, e) in
        ap (λ (k : ℕ). slice_get run.tables (k + 1)) here ∙ of.client ∙ ap (λ (f : TokenView Batch). Some f.chronicle) same
    | inr other ↦ home.own c front (sym (get_or-set_other server.owns push.batch.client c (Some push.own) None other) ∙ e)
  ];
}

pub after_of_run : (push : Pushed) (server : Serving) (run : Named) → push.batch.client < length server.owns → IsServerOf server run → push_of_run push run → IsServerOf (after_push push server) run
after_of_run push server run there home of =
    elim (push.batch.round == last_of push server + 1) as (λ b. IsServerOf (if b then joined_with push server else server) run) [
      | true ↦ joined_of_run push server run there home of
      | false ↦ home
    ]

-- a reply of a server of a run is of the run
pub answer_of_run : (client round : ℕ) (server : Serving) (reply : Replied) (run : Named) → IsServerOf server run → Answers client round server reply → reply_of_run reply run
answer_of_run client round server reply run home answers = record {
  schema = answers.schema ∙ home.schema;
  server = home.joined ∙ ap (λ (f : TokenView Batch). Some f.chronicle) (sym answers.past);
  client = ap (λ (c : ℕ). slice_get run.tables (c + 1)) answers.of ∙ home.own client reply.own (sym answers.own);
}

-- a push of a server's run, of one of its clients, is for the server
pub of_one_run : (push : Pushed) (server : Serving) (run : Named) → IsServerOf server run → push_of_run push run → push.batch.client < clients_of run → IsFor push server
of_one_run push server run home of there = record {
  schema = of.schema ∙ sym home.schema;
  past = let same : Some push.past.chronicle ≡ Some server.joined.chronicle = sym of.server ∙ home.joined in cc;
  client = let same = home.clients in omega arith;
}

-- the last round of a client whose next batch was joined
pub last_joined : (push : Pushed) (server : Serving) → last_of push (joined_with push server) ≡ last_of push server + 1
last_joined push server = ap length (of_client-last server.joined.list push.batch) ∙ length-append (of_client push.batch.client server.joined.list) (push.batch ∷ [])

-- rounds are counted from 1
pub begun_round : (past own : List Batch) (b : Batch) → Follows past own b → 1 ≤ b.round
begun_round past own b follows = let round = (alone past own b follows).round in omega arith

-- what is kept of a server with the push's batch
pub joined_kept : (push : Pushed) (server : Serving) (state : Held) → IsServing server → IsFor push server → IsServed server.schema (server.joined.list ++ push.batch ∷ []) → of_client push.batch.client (server.joined.list ++ push.batch ∷ []) ≡ push.own.list → StateStands server.schema state (all_updates server.joined.list ++ updates_in push.batch) [] → (list : List Batch) → list ≡ server.joined.list ++ push.batch ∷ [] → IsRecord server.schema list (slice_set server.owns push.batch.client (Some push.own)) × StandsFor server.schema list state
joined_kept push server state kept of served mine stands list is =
    let record_ = joined_record server.schema server.joined.list server.owns push.own push.batch kept of.client served mine in
    let state_ : StandsFor server.schema (server.joined.list ++ push.batch ∷ []) state = subst (λ (l : List Update). StateStands server.schema state l []) (sym (updates_joined server.joined.list push.batch)) stands in
    subst (λ (l : List Batch). IsRecord server.schema l (slice_set server.owns push.batch.client (Some push.own)) × StandsFor server.schema l state) (sym is) (record_, state_)
