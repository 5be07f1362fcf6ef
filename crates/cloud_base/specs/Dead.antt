-- Which ids of a log are dead.
use Rattle.std.specs.Prelude.{◌≡◌, refl, ℕ, zero, suc, ◌≤◌, Bool, true, false, not, ◌&&◌, ◌||◌, List, [], ◌∷◌, length, pos, IsTrue, Contains}
use Rattle.std.specs.List.{list_any}
use Rattle.std.proofs.Common.{lit<, lit≤}
use Rattle.cloud_base.specs.Values.{Id}
use Rattle.cloud_base.specs.Log.{created, is_deleted, is_created, parents, ids_of}
use Rattle.cloud_base.specs.declared.key.Key.{Key}
use Rattle.cloud_base.specs.declared.key.Key.TheVariants.{Int, Ref}
use Rattle.cloud_base.specs.declared.update.Update.{Update}
use Rattle.cloud_base.specs.declared.update.Update.TheVariants.{Create, Delete}

-- a chain of n links from an id to one that the log deletes: each next id is a key of the first creation of the one before
abbrev pub Chain : List Update → ℕ → Id → Type 0
Chain log zero id = IsTrue (is_deleted id log)
Chain log (suc n) id = (next : Id) × Contains (parents log id) next × Chain log n next

-- an id is dead where such a chain begins with it, of at most one link for each creation in the log
abbrev pub Dead : List Update → Id → Type 0
Dead log id = (n : ℕ) × (n ≤ length (created log)) × Chain log n id

-- whether a chain of at most n links begins with the id
abbrev pub dead_within : ℕ → List Update → Id → Bool
dead_within zero log id = is_deleted id log
dead_within (suc n) log id = is_deleted id log || list_any (dead_within n log) (parents log id)

-- whether an id is dead, as `Dead` says it
unfoldable pub is_dead : List Update → Id → Bool
is_dead log id = dead_within (length (created log)) log id

-- whether some key is a dead id
abbrev pub has_dead : List Update → List Key → Bool
has_dead log keys = list_any (is_dead log) (ids_of keys)

-- whether an id was created and isn't dead
abbrev pub is_alive : List Update → Id → Bool
is_alive log id = is_created id log && not (is_dead log id)

module _ where
  abbrev customer : Id
  customer = record { client = 0; serial = 0 }

  abbrev order : Id
  order = record { client = 0; serial = 1 }

  abbrev line : Id
  line = record { client = 1; serial = 0 }

  abbrev shop : List Update
  shop = Create customer 0 [] ∷ Create order 1 (Ref customer ∷ []) ∷ Create line 2 (Int (pos 4) ∷ Ref order ∷ []) ∷ []

  -- the chain from a line over its order to a deleted customer
  pub example_chain : Dead (Delete customer ∷ shop) line
  example_chain = (2, lit≤ tt, (order, (0, lit< tt, refl), (customer, (0, lit< tt, refl), refl)))

  -- with a customer its order dies, and the line of the order
  pub example_three_deep : is_dead (Delete customer ∷ shop) line ≡ true
  unfolding is_dead
  example_three_deep = refl

  pub example_keys_live_on : (is_dead (Delete line ∷ shop) order ≡ false) × (is_dead shop line ≡ false)
  unfolding is_dead
  example_keys_live_on = (refl, refl)

  -- an id that was created nowhere is dead only by its own deletion, and is never alive
  pub example_created_nowhere : (is_dead (Delete customer ∷ []) customer ≡ true) × (is_dead (Delete customer ∷ []) order ≡ false) × (is_alive (Delete customer ∷ []) order ≡ false)
  unfolding is_dead
  example_created_nowhere = (refl, refl, refl)

  -- what is kept by an order goes with its customer, what is kept by a number doesn't
  pub example_keys : (has_dead (Delete customer ∷ shop) (Int (pos 4) ∷ Ref order ∷ []) ≡ true) × (has_dead (Delete customer ∷ shop) (Int (pos 4) ∷ []) ≡ false) × (is_alive shop order ≡ true)
  unfolding is_dead
  example_keys = (refl, refl, refl)
