-- What a change and an image hold: three lists in order, of what isn't idle.
use Rattle.std.specs.Prelude.{◌≡◌, ◌≢◌, ⊤, refl, pos, ℤ, ℕ, List, [], ◌∷◌, All}
use Rattle.std.specs.declared.cmp.Ordering.{Ordering}
use Rattle.std.specs.declared.cmp.Ordering.TheVariants.{Less, Equal}
use Rattle.std.specs.List.Sorted.{IsStrictlySortedBy}
use Rattle.cloud_base.specs.Values.{Id}
use Rattle.cloud_base.specs.Order.{id_order}
use Rattle.cloud_base.specs.declared.key.Key.TheVariants.{Int as IntKey}
use Rattle.fj_core.specs.declared.effect.Effect.{Effect}
use Rattle.fj_core.specs.declared.effect.Effect.TheVariants.{Add, SetInt, SetText, IfEmpty}
use Rattle.fj_array.specs.declared.cell.Cell.{Cell}
use Rattle.fj_array.specs.declared.effect.CellEffect.{CellEffect}
use Rattle.fj_array.specs.Cells.{cell_order}
use Rattle.fj_array.specs.Effects.{effect_order}
use Rattle.fj_entity.specs.declared.created.Created.{Created}
use Rattle.fj_entity.specs.Rosters.{created_order}
use Rattle.change_lists.specs.declared.value.Content.{Content}
use Rattle.change_lists.specs.declared.value.Content.TheVariants as content
use Rattle.change_lists.specs.declared.value.CellValue.{CellValue}

-- the created ids that live, the ids that died, and what was done to cells
pub record ChangeLists : Type 0 where
  pub created : List Created
  pub dead : List Id
  pub cells : List CellEffect

-- the created ids that live, the dead ids, and what cells hold
pub record ImageLists : Type 0 where
  pub created : List Created
  pub dead : List Id
  pub cells : List CellValue

abbrev pub place_of : CellValue → Cell
place_of it = record { property = it.property; keys = it.keys }

-- values by their cells: by property, and then by keys
abbrev pub value_order : CellValue → CellValue → Ordering
value_order a b = cell_order (place_of a) (place_of b)

-- an effect that does something: no add of 0, and no set-if-empty to the empty text
abbrev pub IsEffective : Effect → Type 0
IsEffective (Add n) = n ≢ pos 0
IsEffective (SetInt n) = ⊤
IsEffective (SetText text) = ⊤
IsEffective (IfEmpty text) = text ≢ []

-- what a cell holds other than its default, which is 0 or the empty text
abbrev pub IsFilled : Content → Type 0
IsFilled (content.Int n) = n ≢ pos 0
IsFilled (content.Text text) = text ≢ []

-- each list ascends without repeats, and each effect does something
pub record IsChangeLists (lists : ChangeLists) : Type 0 where
  pub created : IsStrictlySortedBy created_order lists.created
  pub dead : IsStrictlySortedBy id_order lists.dead
  pub cells : IsStrictlySortedBy effect_order lists.cells
  pub effects : All (λ it. IsEffective it.effect) lists.cells

-- each list ascends without repeats, and no cell has its default
pub record IsImageLists (lists : ImageLists) : Type 0 where
  pub created : IsStrictlySortedBy created_order lists.created
  pub dead : IsStrictlySortedBy id_order lists.dead
  pub cells : IsStrictlySortedBy value_order lists.cells
  pub values : All (λ it. IsFilled it.value) lists.cells

module _ where
  abbrev stock : CellValue
  stock = record { property = 1; keys = IntKey (pos 2) ∷ []; value = content.Int (pos 5) }

  -- by property, then by keys, and not by what is held
  pub example_order : (value_order stock record stock { property = 2; keys = [] } ≡ Less) × (value_order stock record stock { keys = IntKey (pos 3) ∷ [] } ≡ Less) × (value_order stock record stock { value = content.Text [] } ≡ Equal)
  example_order = (refl, refl, refl)

  -- an add of 0 does nothing, a set to 0 does; 0 is the default
  pub example_idle : (¬ IsEffective (Add (pos 0))) × IsEffective (SetInt (pos 0)) × (¬ IsFilled (content.Int (pos 0))) × (¬ IsFilled (content.Text []))
  example_idle = (λ h. h refl, tt, λ h. h refl, λ h. h refl)
