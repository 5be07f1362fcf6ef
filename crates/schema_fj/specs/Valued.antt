-- The values of the cells of a log, property by property.
use Rattle.std.specs.Prelude.{◌≡◌, refl, ℕ, zero, suc, pos, List, [], ◌∷◌, ◌++◌, map}
use Rattle.std.specs.Int.{int_wrap}
use Rattle.cloud_base.specs.PlainCell.{plain_int, plain_text, plain_value}
use Rattle.cloud_base.specs.Dead.{is_dead}
use Rattle.cloud_base.specs.Answer.{answer, entries}
use Rattle.cloud_base.specs.declared.key.Key.{Key}
use Rattle.cloud_base.specs.declared.key.Key.TheVariants.{Int as IntKey}
use Rattle.cloud_base.specs.declared.schema.CellType.TheVariants as cell
use Rattle.cloud_base.specs.declared.schema.KeyType.TheVariants.{Int as IntType}
use Rattle.cloud_base.specs.declared.schema.Owner.TheVariants.{Array}
use Rattle.cloud_base.specs.declared.schema.Schema.{Schema}
use Rattle.cloud_base.specs.declared.update.Answer.{Answer}
use Rattle.cloud_base.specs.declared.update.Answer.TheVariants.{Int, Text}
use Rattle.cloud_base.specs.declared.update.CellChange.TheVariants.{Add}
use Rattle.cloud_base.specs.declared.update.Query.TheVariants.{Get}
use Rattle.cloud_base.specs.declared.update.Update.{Update}
use Rattle.cloud_base.specs.declared.update.Update.TheVariants.{Cell}
use Rattle.change_lists.specs.declared.value.Content.{Content}
use Rattle.change_lists.specs.declared.value.Content.TheVariants as content
use Rattle.change_lists.specs.declared.value.CellValue.{CellValue}

-- what a cell holds, by what is answered of it; an answer that is no cell's counts as 0
abbrev pub content_of : Answer → Content
content_of (Int n) = content.Int n
content_of (Text text) = content.Text text
content_of _ = content.Int (pos 0)

-- a cell with what the log answers of it
abbrev pub value_in : Schema → List Update → ℕ → List Key → CellValue
value_in schema log property keys = record { property = property; keys = keys; value = content_of (answer schema log (Get property keys)) }

-- the values of a property's cells, by keys
abbrev pub values_of : Schema → List Update → ℕ → List CellValue
values_of schema log property = map (value_in schema log property) (entries schema log property)

-- the values of the cells of the properties below a number
abbrev pub values_below : Schema → List Update → ℕ → List CellValue
values_below schema log zero = []
values_below schema log (suc property) = values_below schema log property ++ values_of schema log property

module _ where
  -- a number by each number, twice
  abbrev stock : Schema
  stock = record {
    properties =
        record { name = 110 ∷ []; owner = Array (78 ∷ []); cell = cell.Int; keys = IntType ∷ [] }
        ∷ record { name = 109 ∷ []; owner = Array (77 ∷ []); cell = cell.Int; keys = IntType ∷ [] } ∷ [];
    entities = [];
  }

  abbrev counted : List Update
  counted = Cell 1 (IntKey (pos 4) ∷ []) (Add (pos 2)) ∷ Cell 0 (IntKey (pos 9) ∷ []) (Add (pos 3)) ∷ []

  -- by property, and none of a property that is left out
  pub example_values : (values_below stock counted 2 ≡ record { property = 0; keys = IntKey (pos 9) ∷ []; value = content.Int (pos 3) } ∷ record { property = 1; keys = IntKey (pos 4) ∷ []; value = content.Int (pos 2) } ∷ []) × (values_below stock counted 0 ≡ [])
  unfolding answer entries plain_value plain_int plain_text int_wrap is_dead
  example_values = (refl, refl)
