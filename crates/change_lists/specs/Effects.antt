-- What was done in a log after a log, as the three lists of a change.
use Rattle.std.specs.Prelude.{◌≡◌, refl, pos, negsuc, ℕ, Bool, true, false, ◌==◌, List, [], ◌∷◌, ◌++◌, Option, Some, None, Contains}
use Rattle.std.specs.List.{flat_map}
use Rattle.std.specs.Int.{int_wrap}
use Rattle.std.proofs.Common.{lit<}
use Rattle.cloud_base.specs.Values.{Id}
use Rattle.cloud_base.specs.Order.{id_order}
use Rattle.cloud_base.specs.PlainCell.{plain_int, plain_text}
use Rattle.cloud_base.specs.Log.{of_cell, creation}
use Rattle.cloud_base.specs.Dead.{is_dead, has_dead}
use Rattle.cloud_base.specs.Shaped.{cell_type}
use Rattle.cloud_base.specs.Sorted.{Lists}
use Rattle.cloud_base.specs.declared.schema.CellType.{CellType}
use Rattle.cloud_base.specs.declared.schema.CellType.TheVariants as cell
use Rattle.cloud_base.specs.declared.schema.Owner.TheVariants.{Global}
use Rattle.cloud_base.specs.declared.schema.Schema.{Schema}
use Rattle.cloud_base.specs.declared.update.CellChange.{CellChange}
use Rattle.cloud_base.specs.declared.update.CellChange.TheVariants as change
use Rattle.cloud_base.specs.declared.update.Update.{Update}
use Rattle.cloud_base.specs.declared.update.Update.TheVariants.{Cell, Create, Delete}
use Rattle.fj_core.specs.Changes.{ints, texts}
use Rattle.fj_core.specs.IntCells.{int_effect}
use Rattle.fj_core.specs.TextCells.{text_effect}
use Rattle.fj_core.specs.declared.effect.Effect.{Effect}
use Rattle.fj_core.specs.declared.effect.Effect.TheVariants.{Add, SetText, IfEmpty}
use Rattle.fj_array.specs.declared.effect.CellEffect.{CellEffect}
use Rattle.fj_array.specs.Effects.{effect_order}
use Rattle.fj_entity.specs.declared.created.Created.{Created}
use Rattle.fj_entity.specs.Rosters.{created_order, IsNewlyDead}
use Rattle.change_lists.specs.Lists.{ChangeLists}

-- What changes of a cell come to. Of a number: a set to the plain value where something was set,
-- else an add of the sum of the adds, and nothing where that is 0. Of a text: a set to the plain
-- value where something was set, else the first text of a set-if-empty that isn't empty, else
-- nothing
abbrev pub effect_of : CellType → List CellChange → Option Effect
effect_of cell.Int changes = int_effect (flat_map ints changes)
effect_of cell.Text changes = text_effect (flat_map texts changes)

-- created in delta, with this entity and these keys, and not dead after it
abbrev pub IsBorn : List Update → List Update → Created → Type 0
IsBorn base delta c =
    (creation c.id delta ≡ Some (record { entity = c.entity; keys = c.keys }))
    × (is_dead (base ++ delta) c.id ≡ false)

-- what delta does to a cell that has no dead key after it
abbrev pub IsDone : Schema → List Update → List Update → CellEffect → Type 0
IsDone schema base delta it =
    (has_dead (base ++ delta) it.keys ≡ false)
    × (effect_of (cell_type schema it.property) (of_cell it.property it.keys delta) ≡ Some it.effect)

-- What was done in delta after base: the ids created in delta that aren't dead, the ids that are
-- dead and weren't after base, and what was done to each cell that has no dead key, where that is
-- something. Each list ascends without repeats
pub record IsEffect (schema : Schema) (base delta : List Update) (change : ChangeLists) : Type 0 where
  pub created : Lists created_order change.created (IsBorn base delta)
  pub dead : Lists id_order change.dead (IsNewlyDead base (base ++ delta))
  pub cells : Lists effect_order change.cells (IsDone schema base delta)

-- adds that cancel come to nothing; of two sets-if-empty the first counts, and none after a set to
-- a letter
pub example_effects : (effect_of cell.Int (change.Add (pos 2) ∷ change.Add (negsuc 1) ∷ []) ≡ None) × (effect_of cell.Int (change.Add (pos 2) ∷ change.Add (pos 1) ∷ []) ≡ Some (Add (pos 3))) × (effect_of cell.Text (change.SetIfEmpty (97 ∷ []) ∷ change.SetIfEmpty (98 ∷ []) ∷ []) ≡ Some (IfEmpty (97 ∷ []))) × (effect_of cell.Text (change.SetText (97 ∷ []) ∷ change.SetIfEmpty (98 ∷ []) ∷ []) ≡ Some (SetText (97 ∷ [])))
unfolding plain_int plain_text int_wrap
example_effects = (refl, refl, refl, refl)

module _ where
  -- one global number
  abbrev stock : Schema
  stock = record { properties = record { name = 110 ∷ []; owner = Global; cell = cell.Int; keys = [] } ∷ []; entities = [] }

  abbrev customer : Id
  customer = record { client = 0; serial = 0 }

  abbrev born_and_dead : List Update
  born_and_dead = Create customer 0 [] ∷ Delete customer ∷ []

  -- an id that is created and then deleted is among the dead alone
  pub example_born : (told : ChangeLists) → IsEffect stock [] born_and_dead told → (¬ Contains told.created (record { id = customer; entity = 0; keys = [] })) × Contains told.dead customer
  unfolding is_dead
  example_born told effect = (λ h. apart (effect.created.only (record { id = customer; entity = 0; keys = [] }) h).1, effect.dead.every customer (refl, refl))
    where
      apart : true ≡ false → ⊥
      apart e = cc

  -- what died before isn't told again
  pub example_told_once : ¬ IsEffect stock (Delete customer ∷ []) (Delete customer ∷ []) (record { created = []; dead = customer ∷ []; cells = [] })
  unfolding is_dead
  example_told_once = λ h. apart (h.dead.only customer (0, lit< tt, refl)).1
    where
      apart : true ≡ false → ⊥
      apart e = cc

  -- two adds to one cell are one effect
  pub example_summed : (told : ChangeLists) → IsEffect stock [] (Cell 0 [] (change.Add (pos 2)) ∷ Cell 0 [] (change.Add (pos 1)) ∷ []) told → Contains told.cells (record { property = 0; keys = []; effect = Add (pos 3) })
  unfolding plain_int int_wrap is_dead
  example_summed told effect = effect.cells.every (record { property = 0; keys = []; effect = Add (pos 3) }) (refl, refl)
