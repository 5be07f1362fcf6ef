-- What the shape at a place tells of a machine that stands there, and what becomes of it.
use Rattle.std.specs.Prelude.{◌≡◌, ℕ, ◌<◌, pos, ⊤, List, [], ◌∷◌, length, map, All, Option, None, Some, slice_get, slice_index_or}
use Rattle.cloud_base.specs.Values.{most_clients}
use Rattle.cloud_base.specs.Shaped.{IsId, IsShapedEvent}
use Rattle.cloud_base.specs.declared.schema.Schema.{Schema}
use Rattle.cloud_base.specs.declared.update.Answer.{Answer}
use Rattle.cloud_base.specs.declared.update.Answer.TheVariants as answer
use Rattle.typed_program.specs.declared.expression.Kind.{Kind}
use Rattle.typed_program.specs.declared.expression.Kind.TheVariants.{Id}
use Rattle.typed_program.specs.Does.{World, Run, goes, ends}
use Rattle.typed_program.specs.Kinds.{most_slots}
use Rattle.typed_program.specs.Shapes.{IsOf, IsShapedOutcome}
use Rattle.typed_program.specs.Trace.{value_of}
use Rattle.typed_program.proofs.Slots.{AreOf}
use Rattle.plain_vm.specs.Exec.{Standing}
use Rattle.plain_vm.specs.Valid.{Shape}

-- the parts of each item of a listing have these kinds
abbrev pub IsListing : List Kind → Answer → Type 0
IsListing kinds (answer.Ids ids) = (entity : ℕ) × (kinds ≡ Id entity ∷ []) × All IsId ids
IsListing kinds (answer.Tuples tuples) = All (λ keys. AreOf kinds (map value_of keys)) tuples
IsListing kinds other = ⊥

abbrev pub AreListings : List (List Kind) → List Answer → Type 0
AreListings [] [] = ⊤
AreListings [] (listing ∷ listings) = ⊥
AreListings (kinds ∷ shape) [] = ⊥
AreListings (kinds ∷ shape) (listing ∷ listings) = IsListing kinds listing × AreListings shape listings

-- a stack, open listings and a world are as a shape tells
pub record Fits (schema : Schema) (shape : Shape) (stack listings : List Answer) (w : World) : Type 0 where
  pub stacked : AreOf shape.stack stack
  pub stored : (n : ℕ) (kind : Kind) → shape.slots n ≡ Some kind → n < most_slots → IsOf kind (slice_index_or w.slots n (answer.Int (pos 0)))
  pub listed : AreListings shape.listings listings
  pub many : length w.slots ≡ most_slots
  pub client_below : w.client < most_clients
  pub events : All (IsShapedEvent schema) w.events

-- it isn't stuck: it stands where the shape fits, or its end or its query is of the schema's shape
abbrev pub ComesWell : Schema → List Shape → Run (Option Standing) → Type 0
ComesWell schema shapes (goes None w) = ⊥
ComesWell schema shapes (goes (Some s) w) = (shape : Shape) × (slice_get shapes s.place ≡ Some shape) × Fits schema shape s.stack s.listings w
ComesWell schema shapes (ends outcome events) = IsShapedOutcome schema outcome × All (IsShapedEvent schema) events
