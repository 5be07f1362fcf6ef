-- Sets of ids, and the types of properties by number.
use Rattle.std.specs.Prelude.{◌≡◌, refl, ℕ, Bool, true, false, List, [], ◌∷◌, slice_get, unwrap_or}
use Rattle.std.specs.List.{list_any}
use Rattle.cloud_base.specs.Values.{Id}
use Rattle.cloud_base.specs.Order.{same_id}
use Rattle.cloud_base.specs.declared.schema.CellType.{CellType}
use Rattle.cloud_base.specs.declared.schema.CellType.TheVariants as cell

-- an id was put into a set where it wasn't, or the set has stayed
abbrev pub WasAdded : Bool → Id → List Id → List Id → Type 0
WasAdded true id was now = list_any (same_id id) was ≡ false
WasAdded false id was now = now ≡ was

-- the type of a property's cells; a number without a property counts as one of integer cells
abbrev pub type_at : List CellType → ℕ → CellType
type_at types property = unwrap_or (slice_get types property) cell.Int

module _ where
  abbrev order : Id
  order = record { client = 1; serial = 2 }

  pub example_sets : WasAdded true order [] (order ∷ []) × WasAdded false order (order ∷ []) (order ∷ []) × (type_at (cell.Text ∷ []) 0 ≡ cell.Text) × (type_at [] 0 ≡ cell.Int)
  example_sets = (refl, refl, refl, refl)
