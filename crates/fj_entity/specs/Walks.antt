-- A walk from an id to its children.
use Rattle.std.specs.Prelude.{◌≡◌, refl, ◌⊎◌, ℕ, ◌+◌, ◌≤◌, true, not, List, [], ◌∷◌, length, filter, Contains}
use Rattle.std.specs.List.{list_any}
use Rattle.cloud_base.specs.Values.{Id}
use Rattle.cloud_base.specs.Order.{same_id}
use Rattle.cloud_base.specs.declared.key.Key.TheVariants.{Ref}
use Rattle.fj_entity.specs.Fates.{Fate, Living, fate_at, is_child_by}

-- the second id lives and has the first among its keys
abbrev pub IsChild : List (Id × Fate) → Id → Id → Type 0
IsChild fates parent id = is_child_by parent (fate_at fates id) ≡ true

-- how many are kept that aren't among the dying
abbrev pub others : List Id → List (Id × Fate) → ℕ
others dying fates = length (filter (λ e. not (list_any (same_id e.0) dying)) fates)

-- The children of an id that were seen are among the dying, and each that wasn't there is pending.
pub record Reaches (fates : List (Id × Fate)) (id : Id) (Seen : Id → Type 0) (dying pending dying' pending' : List Id) : Type 0 where
  pub dying_stay : (x : Id) → Contains dying x → Contains dying' x
  pub pending_stay : (x : Id) → Contains pending x → Contains pending' x
  pub only : (x : Id) → Contains dying' x → Contains dying x ⊎ (IsChild fates id x × Contains pending' x)
  pub pends : (x : Id) → Contains pending' x → Contains pending x ⊎ Contains dying' x
  pub every : (x : Id) → Seen x → IsChild fates id x → Contains dying' x
  pub smaller : others dying' fates + length pending' ≤ others dying fates + length pending

module _ where
  abbrev customer : Id
  customer = record { client = 0; serial = 0 }

  abbrev order : Id
  order = record { client = 0; serial = 1 }

  abbrev shop : List (Id × Fate)
  shop = (customer, Living 0 []) ∷ (order, Living 1 (Ref customer ∷ [])) ∷ []

  pub example_child : IsChild shop customer order × (others (customer ∷ []) shop ≡ 1)
  example_child = (refl, refl)
