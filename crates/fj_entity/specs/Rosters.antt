-- What a roster stands for.
use Rattle.std.specs.Prelude.{◌≡◌, ◌⊎◌, refl, true, false, List, [], ◌∷◌, ◌++◌, Some}
use Rattle.std.specs.declared.cmp.Ordering.{Ordering}
use Rattle.std.specs.declared.cmp.Ordering.TheVariants.{Less}
use Rattle.std.specs.List.Sorted.{IsStrictlySortedBy}
use Rattle.std.specs.Map.{keys_of}
use Rattle.cloud_base.specs.Values.{Id}
use Rattle.cloud_base.specs.Order.{id_order}
use Rattle.cloud_base.specs.Log.{creation}
use Rattle.cloud_base.specs.Dead.{is_dead}
use Rattle.cloud_base.specs.Leads.{Leads}
use Rattle.cloud_base.specs.declared.key.Key.TheVariants.{Ref}
use Rattle.cloud_base.specs.declared.update.Update.{Update}
use Rattle.cloud_base.specs.declared.update.Update.TheVariants.{Create, Delete}
use Rattle.std.proofs.lemmas.Bool.{false≢true}
use Rattle.fj_entity.specs.declared.created.Created.{Created}
use Rattle.fj_entity.specs.Fates.{Fate, fate_at, fate_in}

-- a roster stands for a log where it keeps of each id what becomes of it in the log
pub record RosterStands (fates : List (Id × Fate)) (log : List Update) : Type 0 where
  pub kept : (id : Id) → fate_at fates id ≡ fate_in log id

-- what is kept is in the order of ids
abbrev pub Ascends : List (Id × Fate) → Type 0
Ascends fates = IsStrictlySortedBy id_order (keys_of fates)

-- dead after and not before
abbrev pub IsNewlyDead : List Update → List Update → Id → Type 0
IsNewlyDead before after id = (is_dead after id ≡ true) × (is_dead before id ≡ false)

-- created with this entity and these keys, and not dead
abbrev pub IsLiving : List Update → Created → Type 0
IsLiving log c = (creation c.id log ≡ Some (record { entity = c.entity; keys = c.keys })) × (is_dead log c.id ≡ false)

-- created ids by id
abbrev pub created_order : Created → Created → Ordering
created_order a b = id_order a.id b.id

-- dies with the root: it leads there and isn't dead yet
abbrev pub IsDoomed : List Update → Id → Id → Type 0
IsDoomed log root id = Leads log id root × (is_dead log id ≡ false)

-- What is dead after is what was dead before and what leads to the root. What lives was created as before.
pub record Kills (log after : List Update) (root : Id) : Type 0 where
  pub were : (id : Id) → is_dead log id ≡ true → is_dead after id ≡ true
  pub led : (id : Id) → Leads log id root → is_dead after id ≡ true
  pub only : (id : Id) → is_dead after id ≡ true → (is_dead log id ≡ true) ⊎ Leads log id root
  pub made : (id : Id) → is_dead after id ≡ false → creation id after ≡ creation id log

module _ where
  abbrev first : Created
  first = record { id = record { client = 0; serial = 4 }; entity = 2; keys = [] }

  pub example_order : created_order first record first { id = record { client = 1; serial = 0 } } ≡ Less
  example_order = refl

  abbrev customer : Id
  customer = record { client = 0; serial = 0 }

  abbrev order : Id
  order = record { client = 0; serial = 1 }

  abbrev shop : List Update
  shop = Create customer 0 [] ∷ Create order 1 (Ref customer ∷ []) ∷ []

  -- an order dies with its customer, and no sooner
  pub example_newly_dead : IsNewlyDead shop (shop ++ Delete customer ∷ []) order × ¬ IsNewlyDead [] shop order
  unfolding is_dead
  example_newly_dead = ((refl, refl), λ h. false≢true h.0)

  -- it lives with its customer among its keys
  pub example_living : IsLiving shop (record { id = order; entity = 1; keys = Ref customer ∷ [] })
  unfolding is_dead
  example_living = (refl, refl)
