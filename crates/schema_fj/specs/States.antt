-- What a state stands for.
use Rattle.std.specs.Prelude.{◌≡◌, refl, pos, ℕ, Bool, true, false, not, ◌||◌, List, [], ◌∷◌, ◌++◌, map, if◌then◌else◌}
use Rattle.cloud_base.specs.Values.{Id}
use Rattle.cloud_base.specs.Order.{id_order}
use Rattle.cloud_base.specs.Log.{is_created}
use Rattle.cloud_base.specs.Dead.{is_dead, has_dead}
use Rattle.cloud_base.specs.Shaped.{Fit, cell_type}
use Rattle.cloud_base.specs.Sorted.{Lists}
use Rattle.cloud_base.specs.declared.key.Key.{Key}
use Rattle.cloud_base.specs.declared.key.Key.TheVariants.{Ref}
use Rattle.cloud_base.specs.declared.schema.Schema.{Schema}
use Rattle.cloud_base.specs.declared.schema.CellType.{CellType}
use Rattle.cloud_base.specs.declared.schema.CellType.TheVariants as cell
use Rattle.cloud_base.specs.declared.schema.Owner.TheVariants.{Array}
use Rattle.cloud_base.specs.declared.schema.KeyType.TheVariants.{Id as IdType}
use Rattle.cloud_base.specs.declared.update.CellChange.{CellChange}
use Rattle.cloud_base.specs.declared.update.CellChange.TheVariants as change
use Rattle.cloud_base.specs.declared.update.Update.{Update}
use Rattle.cloud_base.specs.declared.update.Update.TheVariants as update
use Rattle.fj_core.specs.Changes.{ints, texts}
use Rattle.fj_core.specs.IntCells.{int_plain, int_effect, IntStands}
use Rattle.fj_core.specs.TextCells.{text_plain, text_effect, TextStands}
use Rattle.fj_core.specs.declared.int_cell.IntChange.TheVariants as int
use Rattle.fj_array.specs.Cells.{At}
use Rattle.fj_array.specs.Grids.{GridStands}
use Rattle.fj_entity.specs.Rosters.{RosterStands}
use Rattle.schema_fj.specs.Held.{Held}

abbrev pub same_type : CellType → CellType → Bool
same_type cell.Int cell.Int = true
same_type cell.Text cell.Text = true
same_type _ _ = false

-- whether a cell is left out: its property is of another type, or one of its keys is dead in the whole log
abbrev pub left_out : Schema → CellType → List Update → ℕ → List Key → Bool
left_out schema type whole p ks = not (same_type (cell_type schema p) type) || has_dead whole ks

-- the changes of the cells of one type in a log, none of whose keys is dead in the whole log
abbrev pub changes_in : {C : Type 0} → Schema → CellType → (CellChange → List C) → List Update → List Update → List (At C)
changes_in schema type of whole [] = []
changes_in schema type of whole (update.Cell p ks c ∷ log) = (if left_out schema type whole p ks then [] else map (λ x. record { cell = record { property = p; keys = ks }; change = x }) (of c)) ++ changes_in schema type of whole log
changes_in schema type of whole (update.Create id e ks ∷ log) = changes_in schema type of whole log
changes_in schema type of whole (update.Delete id ∷ log) = changes_in schema type of whole log

-- each grid stands for the changes of its cells that have no dead key, the roster for the whole log, and the lists
-- for the ids that were created in the second log and live, and for those that are dead and weren't in the first
pub record StateHolds (schema : Schema) (s : Held) (base delta : List Update) : Type 0 where
  pub types : s.types ≡ map (λ p. p.cell) schema.properties
  pub numbers : GridStands int_plain int_effect IntStands s.numbers (changes_in schema cell.Int ints (base ++ delta) base) (changes_in schema cell.Int ints (base ++ delta) delta)
  pub texts : GridStands text_plain text_effect TextStands s.texts (changes_in schema cell.Text texts (base ++ delta) base) (changes_in schema cell.Text texts (base ++ delta) delta)
  pub roster : RosterStands s.fates (base ++ delta)
  pub born : Lists id_order s.born (λ id. (is_created id delta ≡ true) × (is_dead (base ++ delta) id ≡ false))
  pub died : Lists id_order s.died (λ id. (is_dead (base ++ delta) id ≡ true) × (is_dead base id ≡ false))

-- A state stands for a log after a log where they are fit together and it holds what they come to.
pub record StateStands (schema : Schema) (s : Held) (base delta : List Update) : Type 0 where
  pub fit : Fit schema (base ++ delta)
  pub holds : StateHolds schema s base delta

module _ where
  abbrev customer : Id
  customer = record { client = 0; serial = 0 }

  abbrev stock : Schema
  stock = record { properties = record { name = 110 ∷ []; owner = Array (78 ∷ []); cell = cell.Int; keys = IdType 0 ∷ [] } ∷ []; entities = [] }

  abbrev log : List Update
  log = update.Cell 0 (Ref customer ∷ []) (change.Add (pos 2)) ∷ update.Delete customer ∷ []

  -- a change of a cell is there until its key is dead, and is none of a text
  pub example_changes : (changes_in stock cell.Int ints [] log ≡ record { cell = record { property = 0; keys = Ref customer ∷ [] }; change = int.Add (pos 2) } ∷ []) × (changes_in stock cell.Int ints log log ≡ []) × (changes_in stock cell.Text texts [] log ≡ [])
  unfolding is_dead
  example_changes = (refl, refl, refl)
