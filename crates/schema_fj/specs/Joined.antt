-- The changes that a list of effects stands for.
use Rattle.std.specs.Prelude.{◌≡◌, ◌⊎◌, refl, ℕ, pos, Bool, true, false, List, [], ◌∷◌, ◌++◌, Option, Some, Contains, filter, not, ◌&&◌, if◌then◌else◌}
use Rattle.std.specs.List.Sorted.{IsStrictlySortedBy}
use Rattle.cloud_base.specs.Values.{Id}
use Rattle.cloud_base.specs.Sorted.{Lists}
use Rattle.cloud_base.specs.declared.schema.CellType.{CellType}
use Rattle.cloud_base.specs.declared.schema.CellType.TheVariants as cell
use Rattle.fj_core.specs.declared.effect.Effect.{Effect}
use Rattle.fj_core.specs.declared.effect.Effect.TheVariants.{Add, SetInt, SetText, IfEmpty}
use Rattle.fj_core.specs.IntCells.{int_plain, int_effect, IntStands}
use Rattle.fj_core.specs.TextCells.{text_plain, text_effect, TextStands}
use Rattle.fj_array.specs.declared.cell.Cell.{Cell}
use Rattle.fj_array.specs.declared.effect.CellEffect.{CellEffect}
use Rattle.fj_array.specs.Cells.{At, of_cell, same_cell}
use Rattle.fj_array.specs.Effects.{cell_of, effect_order}
use Rattle.fj_array.specs.Grids.{GridStands}
use Rattle.fj_entity.specs.Fates.{Fate, Dead, has_gone}
use Rattle.cloud_base.specs.declared.key.Key.TheVariants.{Ref}
use Rattle.schema_fj.specs.Held.{Held}
use Rattle.schema_fj.specs.Sets.{type_at}
use Rattle.schema_fj.specs.States.{same_type}

-- the changes of one cell alone
abbrev pub only : {C : Type 0} → Cell → List (At C) → List (At C)
only cell log = filter (λ u. same_cell u.cell cell) log

-- of each item that lives, the changes of its cell
abbrev pub joined : {C : Type 0} → (CellEffect → Bool) → List (At C) → List CellEffect → List (At C)
joined live log [] = []
joined live log (it ∷ items) = (if live it then only (cell_of it) log else []) ++ joined live log items

-- whether an effect is one of cells of a type
abbrev pub is_of : CellType → Effect → Bool
is_of cell.Int (Add n) = true
is_of cell.Int (SetInt n) = true
is_of cell.Int (SetText text) = false
is_of cell.Int (IfEmpty text) = false
is_of cell.Text (Add n) = false
is_of cell.Text (SetInt n) = false
is_of cell.Text (SetText text) = true
is_of cell.Text (IfEmpty text) = true

-- no key is kept as dead, and the property and the effect are of a type
abbrev pub lives : List CellType → List (Id × Fate) → CellType → CellEffect → Bool
lives types fates type it = not (has_gone fates it.keys) && same_type (type_at types it.property) type && is_of type it.effect

-- the new grid has done, of any log with these effects, what lives
abbrev pub JoinsAll : {S C V : Type 0} → (List C → V) → (List C → Option Effect) → (S → List C → List C → Type 0) → (CellEffect → Bool) → List CellEffect → List (Cell × S) → List (Cell × S) → Type 0
JoinsAll {C = C} plain effect_of stands live items old new =
    (base delta log : List (At C)) → ((it : CellEffect) → Contains items it → live it ≡ true → effect_of (of_cell (cell_of it) log) ≡ Some it.effect)
    → GridStands plain effect_of stands old base delta → GridStands plain effect_of stands new base (delta ++ joined live log items)

-- all but the cells is as it was
pub record SameButCells (old new : Held) : Type 0 where
  pub types : new.types ≡ old.types
  pub fates : new.fates ≡ old.fates
  pub born : new.born ≡ old.born
  pub died : new.died ≡ old.died

-- each grid has done what lives of the effects that are of its type, and nothing else is touched
pub record JoinsCells (items : List CellEffect) (old new : Held) : Type 0 where
  pub kept : SameButCells old new
  pub numbers : JoinsAll int_plain int_effect IntStands (lives old.types old.fates cell.Int) items old.numbers new.numbers
  pub texts : JoinsAll text_plain text_effect TextStands (lives old.types old.fates cell.Text) items old.texts new.texts

-- two ascending lists of effects without a cell in common are one ascending list
abbrev pub IsMerge : List CellEffect → List CellEffect → List CellEffect → Type 0
IsMerge first second list =
    IsStrictlySortedBy effect_order first → IsStrictlySortedBy effect_order second → ((a b : CellEffect) → Contains first a → Contains second b → same_cell (cell_of a) (cell_of b) ≡ false)
    → Lists effect_order list (λ it. Contains first it ⊎ Contains second it)

module _ where
  abbrev first : Cell
  first = record { property = 0; keys = [] }

  abbrev sample : List (At ℕ)
  sample = record { cell = first; change = 10 } ∷ record { cell = record { property = 1; keys = [] }; change = 20 } ∷ []

  -- the changes of a cell whose effect is listed, and none of the other
  pub example_joined : joined (λ it. true) sample (record { property = 0; keys = []; effect = SetText [] } ∷ []) ≡ record { cell = first; change = 10 } ∷ []
  example_joined = refl

  abbrev customer : Id
  customer = record { client = 0; serial = 0 }

  abbrev renamed : CellEffect
  renamed = record { property = 0; keys = Ref customer ∷ []; effect = SetText [] }

  -- a text is no number, and lives until its customer is dead
  pub example_lives : (lives (cell.Text ∷ []) [] cell.Text renamed ≡ true) × (lives (cell.Text ∷ []) [] cell.Int renamed ≡ false) × (lives (cell.Text ∷ []) ((customer, Dead) ∷ []) cell.Text renamed ≡ false) × (is_of cell.Int (Add (pos 2)) ≡ true)
  example_lives = (refl, refl, refl, refl)
