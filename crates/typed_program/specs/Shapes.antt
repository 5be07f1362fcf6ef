-- What a well-kinded body does where its queries are answered in shape.
use Rattle.std.specs.Prelude.{◌≡◌, ℕ, zero, suc, ◌≤◌, ⊤, List, [], ◌∷◌, ◌++◌, All, FitsSigned}
use Rattle.std.specs.Int.{w64}
use Rattle.cloud_base.specs.Values.{Id, IsText}
use Rattle.cloud_base.specs.Log.{created}
use Rattle.cloud_base.specs.Events.{Outcome, ended, asks, updates_of}
use Rattle.cloud_base.specs.Shaped.{IsId, IsShapedQuery, IsShapedAnswer, IsShapedEvent}
use Rattle.cloud_base.specs.declared.end.End.TheVariants.{Done, Spent, Trap}
use Rattle.cloud_base.specs.declared.schema.Schema.{Schema}
use Rattle.cloud_base.specs.declared.update.Answer.{Answer}
use Rattle.cloud_base.specs.declared.update.Answer.TheVariants as answer
use Rattle.cloud_base.specs.declared.update.Event.{Event}
use Rattle.cloud_base.specs.declared.update.Event.TheVariants as event
use Rattle.typed_program.specs.declared.expression.Kind.{Kind}
use Rattle.typed_program.specs.declared.expression.Kind.TheVariants.{Int, Text, Truth, Id as IdKind}
use Rattle.typed_program.specs.Kinds.{IsLine}
use Rattle.typed_program.specs.Trace.{budget}

-- a value of a kind. Which entity an id is of, the log tells
abbrev pub IsOf : Kind → Answer → Type 0
IsOf Int (answer.Int n) = FitsSigned w64 n
IsOf Text (answer.Text bytes) = IsText bytes
IsOf Truth (answer.Truth b) = ⊤
IsOf (IdKind entity) (answer.Id id) = IsId id
IsOf kind value = ⊥

-- a query that the event asks is answered in its shape
abbrev pub IsAnswered : Schema → Event → Type 0
IsAnswered schema (event.Ask query a) = IsShapedAnswer schema query a
IsAnswered schema (event.Do update) = ⊤
IsAnswered schema (event.Say value) = ⊤
IsAnswered schema event.Yield = ⊤
IsAnswered schema event.Flush = ⊤

-- an end at a line of a source, or a query of the schema's shape
abbrev pub IsShapedOutcome : Schema → Outcome → Type 0
IsShapedOutcome schema (ended Done) = ⊤
IsShapedOutcome schema (ended Spent) = ⊤
IsShapedOutcome schema (ended (Trap line)) = IsLine line
IsShapedOutcome schema (asks query) = IsShapedQuery schema query

-- the ids of a client's first creations
abbrev pub first_ids : ℕ → ℕ → List Id
first_ids client zero = []
first_ids client (suc n) = first_ids client n ++ record { client = client; serial = n } ∷ []

-- the events and the outcome are of the schema's shape, so no list is said, and the ids that the client
-- created are its first ones, at most one for each turn
pub record IsShapedTrace (schema : Schema) (client : ℕ) (trace : List Event × Outcome) : Type 0 where
  pub events : All (IsShapedEvent schema) trace.0
  pub outcome : IsShapedOutcome schema trace.1
  pub creations : (n : ℕ) × (n ≤ budget) × (created (updates_of trace.0) ≡ first_ids client n)
