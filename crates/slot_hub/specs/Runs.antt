-- A run, as plain data, and what belongs to it.
use Rattle.std.specs.Prelude.{◌≡◌, refl, ℕ, List, [], ◌∷◌, length}
use Rattle.atomic_table.specs.Seated.{TableId}
use Rattle.cloud_base.specs.declared.schema.Schema.{Schema}

-- its schema, and the tables of its chronicles: the server's first, and then each client's
pub record Named : Type 0 where
  pub schema : Schema
  pub tables : List TableId

abbrev pub clients_among : List TableId → ℕ
clients_among [] = 0
clients_among (server ∷ clients) = length clients

-- how many clients a run has
abbrev pub clients_of : Named → ℕ
clients_of run = clients_among run.tables

abbrev pub no_run : Named
no_run = record { schema = record { properties = []; entities = [] }; tables = [] }

-- a packet is a client's, and of a run
pub record Carries {T : Type 0} (client_of : T → ℕ) (of_run : T → Named → Type 0) (run : Named) (c : ℕ) (packet : T) : Type 0 where
  pub client : client_of packet ≡ c
  pub of : of_run packet run

module _ where
  -- a table that no memory holds
  abbrev pub nowhere : TableId
  nowhere = record { words = 0; slots = 0; views_name = 0; atom = 0; block = 0; offset = 0; slot_names = [] }

  -- a run of two clients that share nothing
  abbrev pub two_clients : Named
  two_clients = record { schema = record { properties = []; entities = [] }; tables = nowhere ∷ nowhere ∷ nowhere ∷ [] }

  -- a run has a chronicle more than it has clients
  pub example_clients : (clients_of no_run ≡ 0) × (clients_of two_clients ≡ 2)
  example_clients = (refl, refl)
