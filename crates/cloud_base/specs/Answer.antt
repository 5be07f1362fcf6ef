-- What a log answers to a query.
use Rattle.std.specs.Prelude.{◌≡◌, refl, ℕ, Bool, true, false, not, ◌&&◌, if◌then◌else◌, List, [], ◌∷◌, filter, pos, negsuc}
use Rattle.cloud_base.specs.Values.{Id}
use Rattle.cloud_base.specs.Order.{id_order, keys_order}
use Rattle.std.specs.Int.{int_wrap}
use Rattle.cloud_base.specs.PlainCell.{plain_value, plain_int, plain_text, default_of, is_default}
use Rattle.cloud_base.specs.Log.{of_cell, touched, created, creation, is_of}
use Rattle.cloud_base.specs.Dead.{is_dead, has_dead, is_alive}
use Rattle.cloud_base.specs.Shaped.{cell_type}
use Rattle.cloud_base.specs.Sorted.{ascending}
use Rattle.cloud_base.specs.declared.key.Key.{Key}
use Rattle.cloud_base.specs.declared.key.Key.TheVariants.{Text as TextKey, Ref}
use Rattle.cloud_base.specs.declared.schema.Schema.{Schema}
use Rattle.cloud_base.specs.declared.schema.CellType.TheVariants.{Int as IntCell, Text as TextCell}
use Rattle.cloud_base.specs.declared.schema.KeyType.TheVariants.{Int as IntType, Text as TextType, Id as IdType}
use Rattle.cloud_base.specs.declared.schema.Owner.TheVariants.{Array}
use Rattle.cloud_base.specs.declared.update.Update.{Update}
use Rattle.cloud_base.specs.declared.update.Update.TheVariants.{Cell, Create, Delete}
use Rattle.cloud_base.specs.declared.update.CellChange.TheVariants.{Add}
use Rattle.cloud_base.specs.declared.update.Query.{Query}
use Rattle.cloud_base.specs.declared.update.Query.TheVariants.{Get, All, Entries, Alive}
use Rattle.cloud_base.specs.declared.update.Answer.{Answer}
use Rattle.cloud_base.specs.declared.update.Answer.TheVariants.{Int, Truth, Ids, Tuples}

-- the value of a cell: the default where some key is dead, else the plain value over its changes
abbrev pub cell_value : Schema → List Update → ℕ → List Key → Answer
cell_value schema log property keys = if has_dead log keys then default_of (cell_type schema property) else plain_value (cell_type schema property) (of_cell property keys log)

-- whether an id was created for an entity and isn't dead
abbrev pub is_listed : List Update → ℕ → Id → Bool
is_listed log entity id = is_of entity (creation id log) && not (is_dead log id)

-- whether no key is dead and the value isn't the default
abbrev pub is_entry : Schema → List Update → ℕ → List Key → Bool
is_entry schema log property keys = not (has_dead log keys) && not (is_default (cell_value schema log property keys))

-- the ids created for an entity and not dead, ascending
unfoldable pub all_ids : List Update → ℕ → List Id
all_ids log entity = ascending id_order (filter (is_listed log entity) (created log))

-- the key lists of a property's cells that the log changes, no key of which is dead and whose value isn't the default, ascending
unfoldable pub entries : Schema → List Update → ℕ → List (List Key)
entries schema log property = ascending keys_order (filter (is_entry schema log property) (touched property log))

-- what a log answers to a query
unfoldable pub answer : Schema → List Update → Query → Answer
answer schema log (Get property keys) = cell_value schema log property keys
answer schema log (All entity) = Ids (all_ids log entity)
answer schema log (Entries property) = Tuples (entries schema log property)
answer schema log (Alive id) = Truth (is_alive log id)

module _ where
  abbrev milk : List Key
  milk = TextKey (109 ∷ []) ∷ []

  abbrev eggs : List Key
  eggs = TextKey (101 ∷ []) ∷ []

  abbrev customer : Id
  customer = record { client = 0; serial = 0 }

  abbrev order : Id
  order = record { client = 0; serial = 1 }

  -- an array of integers by text, an array of texts by integer, and an array of integers by order
  abbrev shop : Schema
  shop = record {
    properties =
        record { name = 113 ∷ []; owner = Array (71 ∷ []); cell = IntCell; keys = TextType ∷ [] }
        ∷ record { name = 119 ∷ []; owner = Array (83 ∷ []); cell = TextCell; keys = IntType ∷ [] }
        ∷ record { name = 110 ∷ []; owner = Array (78 ∷ []); cell = IntCell; keys = IdType 1 ∷ [] }
        ∷ [];
    entities =
        record { name = 67 ∷ []; keys = [] }
        ∷ record { name = 79 ∷ []; keys = IdType 0 ∷ [] }
        ∷ [];
  }

  abbrev groceries : List Update
  groceries = Cell 0 milk (Add (pos 2)) ∷ Cell 0 milk (Add (pos 1)) ∷ Cell 0 eggs (Add (pos 12)) ∷ []

  pub example_groceries : (answer shop groceries (Get 0 milk) ≡ Int (pos 3)) × (answer shop groceries (Entries 0) ≡ Tuples (eggs ∷ milk ∷ []))
  unfolding answer entries plain_value plain_int plain_text int_wrap is_dead
  example_groceries = (refl, refl)

  -- a cell whose adds cancel is no entry
  pub example_cancelled : answer shop (Cell 0 milk (Add (pos 2)) ∷ Cell 0 milk (Add (negsuc 1)) ∷ []) (Entries 0) ≡ Tuples []
  unfolding answer entries plain_value plain_int plain_text int_wrap is_dead
  example_cancelled = refl

  abbrev ordered : List Update
  ordered = Create customer 0 [] ∷ Create order 1 (Ref customer ∷ []) ∷ Cell 2 (Ref order ∷ []) (Add (pos 1)) ∷ []

  pub example_order : (answer shop ordered (All 1) ≡ Ids (order ∷ [])) × (answer shop ordered (Get 2 (Ref order ∷ [])) ≡ Int (pos 1)) × (answer shop ordered (Alive order) ≡ Truth true)
  unfolding answer all_ids plain_value plain_int plain_text int_wrap is_dead
  example_order = (refl, refl, refl)

  -- an order dies with its customer, and with it what is kept by order
  pub example_order_of_the_dead : (answer shop (Delete customer ∷ ordered) (All 1) ≡ Ids []) × (answer shop (Delete customer ∷ ordered) (Get 2 (Ref order ∷ [])) ≡ Int (pos 0)) × (answer shop (Delete customer ∷ ordered) (Entries 2) ≡ Tuples []) × (answer shop (Delete customer ∷ ordered) (Alive order) ≡ Truth false)
  unfolding answer all_ids entries plain_value plain_int plain_text int_wrap is_dead
  example_order_of_the_dead = (refl, refl, refl, refl)
