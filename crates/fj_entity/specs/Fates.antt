-- What becomes of an id in a log, and what a roster keeps of it.
use Rattle.std.specs.Prelude.{◌≡◌, refl, ℕ, pos, Bool, true, false, ◌==◌, if◌then◌else◌, List, [], ◌∷◌, Option, Some, None}
use Rattle.std.specs.List.{list_any}
use Rattle.std.specs.Option.{option_map}
use Rattle.std.specs.Map.{lookup}
use Rattle.std.specs.BTreeMap.{is_at}
use Rattle.cloud_base.specs.Values.{Id}
use Rattle.cloud_base.specs.Order.{id_order, same_id}
use Rattle.cloud_base.specs.Log.{Creation, creation}
use Rattle.cloud_base.specs.Dead.{is_dead}
use Rattle.cloud_base.specs.declared.key.Key.{Key}
use Rattle.cloud_base.specs.declared.key.Key.TheVariants.{Int, Text, Ref}
use Rattle.cloud_base.specs.declared.update.Update.{Update}
use Rattle.cloud_base.specs.declared.update.Update.TheVariants.{Create, Delete}
use Rattle.fj_entity.specs.declared.created.Created.{Created}

-- what became of an id: it lives, with the entity and the keys that it was created with, or is dead; a dead id need not be created
pub data Fate : Type 0 where
  Living : ℕ → List Key → Fate
  Dead : Fate

-- an id that lives has what its first creation gave it
abbrev pub living : Creation → Fate
living c = Living c.entity c.keys

-- what becomes of an id in a log: it is dead, or lives, or isn't there
abbrev pub fate_in : List Update → Id → Option Fate
fate_in log id = if is_dead log id then Some Dead else option_map living (creation id log)

-- what is kept of an id
abbrev pub fate_at : List (Id × Fate) → Id → Option Fate
fate_at fates id = lookup (is_at (id_order id)) fates

-- the tests of what is kept
abbrev pub is_gone : Option Fate → Bool
is_gone (Some Dead) = true
is_gone (Some (Living entity keys)) = false
is_gone None = false

abbrev pub is_living : Option Fate → Bool
is_living (Some Dead) = false
is_living (Some (Living entity keys)) = true
is_living None = false

-- whether an id lives and is of an entity
abbrev pub is_member : ℕ → Option Fate → Bool
is_member entity (Some Dead) = false
is_member entity (Some (Living e keys)) = e == entity
is_member entity None = false

-- an id with what it was created with, where it lives
abbrev pub created_at : Id → Option Fate → Option Created
created_at id None = None
created_at id (Some Dead) = None
created_at id (Some (Living entity keys)) = Some (record { id = id; entity = entity; keys = keys })

-- what an id that lives was created with
abbrev pub found : List (Id × Fate) → Id → Option Created
found fates id = created_at id (fate_at fates id)

-- what is kept of an id that is to die: it is dead, unless something is kept already
abbrev pub marked : Bool → Option Fate → Option Fate
marked false o = o
marked true None = Some Dead
marked true (Some fate) = Some fate

-- what is kept of an id that dies, where it is kept
abbrev pub buried : Bool → Option Fate → Option Fate
buried false o = o
buried true None = None
buried true (Some fate) = Some Dead

abbrev pub is_among : Id → List Id → Bool
is_among id ids = list_any (λ other. same_id other id) ids

-- whether a key is an id that is kept as dead
abbrev pub is_gone_key : List (Id × Fate) → Key → Bool
is_gone_key fates (Int n) = false
is_gone_key fates (Text t) = false
is_gone_key fates (Ref id) = is_gone (fate_at fates id)

abbrev pub has_gone : List (Id × Fate) → List Key → Bool
has_gone fates keys = list_any (is_gone_key fates) keys

-- whether an id is one of the keys
abbrev pub is_ref : Id → Key → Bool
is_ref id (Int n) = false
is_ref id (Text t) = false
is_ref id (Ref other) = same_id other id

abbrev pub has_ref : Id → List Key → Bool
has_ref id keys = list_any (is_ref id) keys

-- whether an id lives and has another among its keys
abbrev pub is_child_by : Id → Option Fate → Bool
is_child_by parent (Some (Living entity keys)) = has_ref parent keys
is_child_by parent (Some Dead) = false
is_child_by parent None = false

module _ where
  abbrev customer : Id
  customer = record { client = 0; serial = 0 }

  abbrev order : Id
  order = record { client = 0; serial = 1 }

  abbrev shop : List Update
  shop = Create customer 0 [] ∷ Create order 1 (Ref customer ∷ []) ∷ []

  -- an order lives with its keys until its customer dies
  pub example_fates : (fate_in shop order ≡ Some (Living 1 (Ref customer ∷ []))) × (fate_in (Delete customer ∷ shop) order ≡ Some Dead) × (fate_in [] order ≡ None)
  unfolding is_dead
  example_fates = (refl, refl, refl)

  -- an order is a child of its customer while it lives
  pub example_kept : (is_child_by customer (fate_in shop order) ≡ true) × (has_gone ((customer, Dead) ∷ []) (Int (pos 4) ∷ Ref customer ∷ []) ≡ true) × (has_gone ((customer, Dead) ∷ []) (Ref order ∷ []) ≡ false)
  unfolding is_dead
  example_kept = (refl, refl, refl)

  -- an id that is to die and isn't kept is dead at once, and one that lives when it is buried
  pub example_dying : (marked true None ≡ Some Dead) × (marked true (Some (Living 1 [])) ≡ Some (Living 1 [])) × (buried true (Some (Living 1 [])) ≡ Some Dead)
  example_dying = (refl, refl, refl)
