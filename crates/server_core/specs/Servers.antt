-- What a server stands for, and what it does with a push.
use Rattle.std.specs.Prelude.{◌≡◌, refl, ℕ, zero, suc, ◌+◌, ◌==◌, ◌≤◌, ◌<◌, List, [], ◌∷◌, ◌++◌, length, Option, Some, None, slice_get, slice_index_or, slice_set, if◌then◌else◌}
use Rattle.std.proofs.Common.{ap, lit<}
use Rattle.std.specs.List.{AllByRecursion}
use Rattle.cloud_base.specs.Alike.{IsPart}
use Rattle.cloud_base.specs.Shaped.{Fit}
use Rattle.cloud_base.specs.Values.{most_clients}
use Rattle.cloud_base.specs.declared.batch.Batch.{Batch}
use Rattle.cloud_base.specs.declared.schema.Schema.{Schema}
use Rattle.cloud_base.specs.declared.update.Event.TheVariants.{Yield}
use Rattle.cloud_base.specs.declared.update.Update.{Update}
use Rattle.batch_history.specs.Batches.{of_client, updates_in, flat}
use Rattle.batch_joins.specs.Joins.{all_updates}
use Rattle.front_table.specs.TokenView.{TokenView}
use Rattle.schema_fj.specs.Held.{Held}
use Rattle.schema_fj.specs.States.{StateStands}
use Rattle.slot_hub.specs.Runs.{Named, clients_of, nowhere, two_clients}
use Rattle.packet_codec.specs.Served.{IsServed}
use Rattle.packet_codec.specs.Pushes.{Pushed}
use Rattle.packet_codec.specs.Replies.{Replied}

-- A server: its schema, its record, which is the list of its chronicle, and each client's own
-- batches, where it has some.
pub record Serving : Type 0 where
  pub schema : Schema
  pub joined : TokenView Batch
  pub owns : List (Option (TokenView Batch))

-- the batches of a front, none where there is no front
abbrev pub own_batches : Option (TokenView Batch) → List Batch
own_batches None = []
own_batches (Some front) = front.list

-- what a server has of client c
abbrev pub own_front : ℕ → List (Option (TokenView Batch)) → Option (TokenView Batch)
own_front c owns = slice_index_or owns c None

-- what each server keeps of its record
pub record IsRecord (schema : Schema) (batches : List Batch) (owns : List (Option (TokenView Batch))) : Type 0 where
  -- there are some clients, and no more than there may be
  pub some : 1 ≤ length owns
  pub most : length owns ≤ most_clients
  -- each batch is of one of them
  pub clients : AllByRecursion (λ (b : Batch). b.client < length owns) batches
  -- the record is sound, answered right, of the schema and within its bounds
  pub served : IsServed schema batches
  -- and what is kept of a client is just its batches
  pub own : (c : ℕ) → own_batches (own_front c owns) ≡ of_client c batches

abbrev pub IsServing : Serving → Type 0
IsServing server = IsRecord server.schema server.joined.list server.owns

-- the state of a server is that of its record
abbrev pub StandsFor : Schema → List Batch → Held → Type 0
StandsFor schema batches state = StateStands schema state (all_updates batches) []

-- a state of a log goes on by what a push did, where the push had seen part of the log and what it did fits behind
abbrev pub GoesOn : Pushed → Held → Held → Type 0
GoesOn push old new = (log : List Update) → StateStands push.schema old log [] → IsPart (flat push.past.list push.batch.base) log
    → Fit push.schema (log ++ updates_in push.batch) → StateStands push.schema new (log ++ updates_in push.batch) []

-- the round of a client's last batch in a record, 0 where there is none
abbrev pub last_round : ℕ → List Batch → ℕ
last_round c batches = length (of_client c batches)

abbrev pub last_of : Pushed → Serving → ℕ
last_of push server = last_round push.batch.client server.joined.list

-- a server that joined a push: the batch is the last of the record, and what it has of the client are the push's own batches
abbrev pub joined_with : Pushed → Serving → Serving
joined_with push server = record {
  schema = server.schema;
  joined = record { chronicle = server.joined.chronicle; list = server.joined.list ++ push.batch ∷ [] };
  owns = slice_set server.owns push.batch.client (Some push.own);
}

-- a server joins a push of a client's next round, and stays as it is at any other
abbrev pub after_push : Pushed → Serving → Serving
after_push push server = if push.batch.round == last_of push server + 1 then joined_with push server else server

-- a reply to a client's round tells of the whole record, and of all that the record has of the client
pub record Answers (client round : ℕ) (server : Serving) (reply : Replied) : Type 0 where
  pub schema : reply.schema ≡ server.schema
  pub of : reply.client ≡ client
  pub number : reply.round ≡ round
  pub past : reply.past ≡ server.joined
  pub own : Some reply.own ≡ own_front client server.owns

-- a push that a server may take: it is of the server's schema, its front is of the server's record, and its client is there
pub record IsFor (push : Pushed) (server : Serving) : Type 0 where
  pub schema : push.schema ≡ server.schema
  pub past : push.past.chronicle ≡ server.joined.chronicle
  pub client : push.batch.client < length server.owns

-- A server is of a run: its schema is the run's, its record is the server's chronicle there, it has as many clients, and what it
-- has of each is of that client's chronicle.
pub record IsServerOf (server : Serving) (run : Named) : Type 0 where
  pub schema : server.schema ≡ run.schema
  pub joined : slice_get run.tables 0 ≡ Some server.joined.chronicle
  pub clients : length server.owns ≡ clients_of run
  pub own : (c : ℕ) (front : TokenView Batch) → own_front c server.owns ≡ Some front → slice_get run.tables (c + 1) ≡ Some front.chronicle

module _ where
  abbrev batch : Batch
  batch = record { client = 1; round = 1; base = 0; before = []; rest = Yield ∷ [] }

  abbrev none_yet : TokenView Batch
  none_yet = record { chronicle = nowhere; list = [] }

  abbrev own : TokenView Batch
  own = record { chronicle = nowhere; list = batch ∷ [] }

  abbrev opened : Serving
  opened = record { schema = two_clients.schema; joined = none_yet; owns = None ∷ None ∷ [] }

  abbrev push : Pushed
  push = record { schema = two_clients.schema; wire = []; batch = batch; past = none_yet; own = own }

  -- a client's first push is joined
  pub example_joined : after_push push opened ≡ record { schema = two_clients.schema; joined = own; owns = None ∷ Some own ∷ [] }
  example_joined = refl

  -- and not again when it comes a second time
  pub example_again : (last_of push (after_push push opened) ≡ 1) × (after_push push (after_push push opened) ≡ after_push push opened)
  example_again = (refl, refl)

  -- it is for the server, and the server is of a run of two clients before and after
  pub example_for : IsFor push opened
  example_for = record { schema = refl; past = refl; client = lit< tt }

  pub example_of_run : IsServerOf (after_push push opened) two_clients
  example_of_run = record { schema = refl; joined = refl; clients = refl; own = whose }
    where
      whose : (c : ℕ) (front : TokenView Batch) → own_front c (None ∷ Some own ∷ []) ≡ Some front → slice_get (nowhere ∷ nowhere ∷ nowhere ∷ []) (c + 1) ≡ Some front.chronicle
      whose zero front e = absurd (cc (e))
      whose (suc zero) front e = let same : own ≡ front = cc (e) in ap (λ (f : TokenView Batch). Some f.chronicle) same
      whose (suc (suc c)) front e = absurd (cc (e))
