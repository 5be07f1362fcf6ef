-- What a log holds: the changes of one cell, the creations and the deletions.
use Rattle.std.specs.Prelude.{◌≡◌, refl, pos, ℕ, Bool, true, false, ◌&&◌, ◌||◌, ◌==◌, if◌then◌else◌, Option, Some, None, is_some, List, [], ◌∷◌}
use Rattle.cloud_base.specs.Values.{Id}
use Rattle.cloud_base.specs.Order.{same_id, same_keys}
use Rattle.cloud_base.specs.declared.key.Key.{Key}
use Rattle.cloud_base.specs.declared.key.Key.TheVariants.{Int, Text, Ref}
use Rattle.cloud_base.specs.declared.update.CellChange.{CellChange}
use Rattle.cloud_base.specs.declared.update.CellChange.TheVariants.{Add, SetInt}
use Rattle.cloud_base.specs.declared.update.Update.{Update}
use Rattle.cloud_base.specs.declared.update.Update.TheVariants.{Cell, Create, Delete}

-- the changes of the cell of a property at keys
abbrev pub of_cell : ℕ → List Key → List Update → List CellChange
of_cell property keys [] = []
of_cell property keys (Cell p ks change ∷ log) = if (p == property) && same_keys ks keys then change ∷ of_cell property keys log else of_cell property keys log
of_cell property keys (Create id entity ks ∷ log) = of_cell property keys log
of_cell property keys (Delete id ∷ log) = of_cell property keys log

-- the key lists of the cells of a property that the log changes, one for each change
abbrev pub touched : ℕ → List Update → List (List Key)
touched property [] = []
touched property (Cell p ks change ∷ log) = if p == property then ks ∷ touched property log else touched property log
touched property (Create id entity ks ∷ log) = touched property log
touched property (Delete id ∷ log) = touched property log

-- an id's creation: its entity and its keys
pub record Creation : Type 0 where
  pub entity : ℕ
  pub keys : List Key

-- the first creation of an id
abbrev pub creation : Id → List Update → Option Creation
creation id [] = None
creation id (Cell p ks change ∷ log) = creation id log
creation id (Create other e ks ∷ log) = if same_id other id then Some (record { entity = e; keys = ks }) else creation id log
creation id (Delete other ∷ log) = creation id log

abbrev pub is_created : Id → List Update → Bool
is_created id log = is_some (creation id log)

-- whether the first creation of an id is one of an entity
abbrev pub is_of : ℕ → Option Creation → Bool
is_of entity None = false
is_of entity (Some c) = c.entity == entity

-- the ids that the log creates, one for each creation
abbrev pub created : List Update → List Id
created [] = []
created (Cell p ks change ∷ log) = created log
created (Create id e ks ∷ log) = id ∷ created log
created (Delete id ∷ log) = created log

abbrev pub is_deleted : Id → List Update → Bool
is_deleted id [] = false
is_deleted id (Cell p ks change ∷ log) = is_deleted id log
is_deleted id (Create other e ks ∷ log) = is_deleted id log
is_deleted id (Delete other ∷ log) = same_id other id || is_deleted id log

-- the ids among keys
abbrev pub ids_of : List Key → List Id
ids_of [] = []
ids_of (Int n ∷ keys) = ids_of keys
ids_of (Text t ∷ keys) = ids_of keys
ids_of (Ref id ∷ keys) = id ∷ ids_of keys

-- the ids among the keys of a creation
abbrev pub parents_of : Option Creation → List Id
parents_of None = []
parents_of (Some c) = ids_of c.keys

-- the ids among the keys that an id was first created with
abbrev pub parents : List Update → Id → List Id
parents log id = parents_of (creation id log)

module _ where
  abbrev first : Id
  first = record { client = 0; serial = 0 }

  abbrev sample : List Update
  sample = Cell 0 (Int (pos 1) ∷ []) (Add (pos 5)) ∷ Create first 3 (Int (pos 2) ∷ []) ∷ Cell 1 (Int (pos 1) ∷ []) (Add (pos 6)) ∷ Cell 0 (Int (pos 1) ∷ []) (SetInt (pos 7)) ∷ Create first 4 [] ∷ []

  -- the changes of other properties are no changes of the cell
  pub example_changes : (of_cell 0 (Int (pos 1) ∷ []) sample ≡ Add (pos 5) ∷ SetInt (pos 7) ∷ []) × (of_cell 0 (Int (pos 2) ∷ []) sample ≡ [])
  example_changes = (refl, refl)

  -- the first creation counts
  pub example_created_twice : creation first sample ≡ Some (record { entity = 3; keys = Int (pos 2) ∷ [] })
  example_created_twice = refl

  abbrev second : Id
  second = record { client = 1; serial = 0 }

  -- each change names its keys, and each creation its id, also where it was there before
  pub example_lists : (touched 0 sample ≡ (Int (pos 1) ∷ []) ∷ (Int (pos 1) ∷ []) ∷ []) × (created sample ≡ first ∷ first ∷ [])
  example_lists = (refl, refl)

  abbrev owned : List Update
  owned = Create second 3 (Int (pos 2) ∷ Ref first ∷ []) ∷ Delete second ∷ []

  -- a parent need not be created, and with the id its parent isn't deleted
  pub example_parents : (parents owned second ≡ first ∷ []) × (is_created first owned ≡ false) × (is_deleted second owned ≡ true) × (is_deleted first owned ≡ false) × (is_of 3 (creation second owned) ≡ true)
  example_parents = (refl, refl, refl, refl, refl)
