-- The listing of a program.
use Rattle.std.specs.Prelude.{◌≡◌, ℕ, List, [], ◌∷◌, ◌++◌, Some, codes, slice_get}
use Rattle.cloud_base.specs.declared.schema.Schema.{Schema}
use Rattle.plain_vm.specs.Listing.{listing}
use Rattle.typed_program.specs.declared.program.Parts.{Parts}
use Rattle.typed_program.specs.declared.statement.Statement.{Statement}
use Rattle.code_gen.specs.Compile.{code_of}

-- the line of a client's name, and the lines of its code
abbrev pub client_text : Schema → List ℕ → List Statement → List ℕ
client_text schema name body = codes "client " ++ name ++ codes "\n" ++ listing (code_of schema body)

-- names and bodies side by side
abbrev pub clients_text : Schema → List (List ℕ) → List (List Statement) → List ℕ
clients_text schema [] bodies = []
clients_text schema (name ∷ names) [] = []
clients_text schema (name ∷ names) (body ∷ bodies) = client_text schema name body ++ clients_text schema names bodies

-- for each client in order
abbrev pub listing_of : Parts → List ℕ
listing_of p = clients_text p.schema p.names p.bodies

-- behind a text stands what is listed of a client
pub record IsListed (p : Parts) (client : ℕ) (old new : List ℕ) : Type 0 where
  pub name : List ℕ
  pub body : List Statement
  pub named : slice_get p.names client ≡ Some name
  pub of_client : slice_get p.bodies client ≡ Some body
  pub text : new ≡ old ++ client_text p.schema name body
