-- The changes that a list of values stands for.
use Rattle.std.specs.Prelude.{◌≡◌, refl, ℕ, ℤ, pos, Bool, true, ◌&&◌, List, [], ◌∷◌, ◌++◌, Option, Some, None, is_some, Contains, filter}
use Rattle.std.specs.List.{list_any}
use Rattle.cloud_base.specs.declared.schema.CellType.{CellType}
use Rattle.cloud_base.specs.declared.schema.CellType.TheVariants as cell
use Rattle.fj_core.specs.declared.effect.Effect.{Effect}
use Rattle.fj_core.specs.IntCells.{int_plain, int_effect, IntStands}
use Rattle.fj_core.specs.TextCells.{text_plain, text_effect, TextStands}
use Rattle.fj_array.specs.declared.cell.Cell.{Cell}
use Rattle.fj_array.specs.Cells.{At, of_cell, same_cell}
use Rattle.fj_array.specs.Grids.{GridStands}
use Rattle.change_lists.specs.declared.value.Content.{Content}
use Rattle.change_lists.specs.declared.value.Content.TheVariants as content
use Rattle.change_lists.specs.declared.value.CellValue.{CellValue}
use Rattle.change_lists.specs.Lists.{place_of}
use Rattle.schema_fj.specs.Held.{Held}
use Rattle.schema_fj.specs.Joined.{SameButCells}
use Rattle.schema_fj.specs.Sets.{type_at}
use Rattle.schema_fj.specs.States.{same_type}

-- the number or the text that is held, where it is one
abbrev pub number_in : Content → Option ℤ
number_in (content.Int n) = Some n
number_in (content.Text text) = None

abbrev pub text_in : Content → Option (List ℕ)
text_in (content.Int n) = None
text_in (content.Text text) = Some text

-- a value of a type, of a property of that type
abbrev pub counts : {V : Type 0} → List CellType → CellType → (Content → Option V) → CellValue → Bool
counts types type part it = same_type (type_at types it.property) type && is_some (part it.value)

-- whether a cell is that of one of the values that count
abbrev pub is_place : (CellValue → Bool) → List CellValue → Cell → Bool
is_place live items cell = list_any (λ it. live it && same_cell (place_of it) cell) items

-- the changes of these cells
abbrev pub placed : {C : Type 0} → (CellValue → Bool) → List CellValue → List (At C) → List (At C)
placed live items log = filter (λ u. is_place live items u.cell) log

-- where the old grid stands for what a log does to the cells of some values, untouched since, the new one does so for
-- these values too, if each is what its cell's changes make
abbrev pub PutsAll : {S C V : Type 0} → (List C → V) → (List C → Option Effect) → (S → List C → List C → Type 0) → (Content → Option V) → (CellValue → Bool) → List CellValue → List (Cell × S) → List (Cell × S) → Type 0
PutsAll {C = C} plain effect_of stands part live items old new =
    (done : List CellValue) (log : List (At C)) → ((it : CellValue) → Contains items it → live it ≡ true → Some (plain (of_cell (place_of it) log)) ≡ part it.value)
    → GridStands plain effect_of stands old (placed live done log) [] → GridStands plain effect_of stands new (placed live (done ++ items) log) []

-- the same for one value, where it is one of the grid's type
abbrev pub PutsOne : {S C V : Type 0} → (List C → V) → (List C → Option Effect) → (S → List C → List C → Type 0) → Option V → CellValue → List (Cell × S) → List (Cell × S) → Type 0
PutsOne plain effect_of stands value it old new = (live : CellValue → Bool) → live it ≡ is_some value → PutsAll plain effect_of stands (λ x. value) live (it ∷ []) old new

-- each grid has the values of its type, and nothing else is touched
pub record PutsCells (items : List CellValue) (old new : Held) : Type 0 where
  pub kept : SameButCells old new
  pub numbers : PutsAll int_plain int_effect IntStands number_in (counts old.types cell.Int number_in) items old.numbers new.numbers
  pub texts : PutsAll text_plain text_effect TextStands text_in (counts old.types cell.Text text_in) items old.texts new.texts

module _ where
  abbrev first : CellValue
  first = record { property = 0; keys = []; value = content.Int (pos 5) }

  abbrev sample : List (At ℕ)
  sample = record { cell = record { property = 0; keys = [] }; change = 10 } ∷ record { cell = record { property = 1; keys = [] }; change = 20 } ∷ []

  -- the changes of a cell that has a value, and none of the other; a number of a text's cell doesn't count
  pub example_placed : (placed (counts (cell.Int ∷ []) cell.Int number_in) (first ∷ []) sample ≡ record { cell = record { property = 0; keys = [] }; change = 10 } ∷ []) × (placed (counts (cell.Text ∷ []) cell.Text text_in) (first ∷ []) sample ≡ [])
  example_placed = (refl, refl)
