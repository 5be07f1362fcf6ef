-- A map as a shelf of entries, which maps share, flags for those that are gone from it, and entries of the map's own.
use Rattle.std.specs.Prelude.{◌≡◌, refl, ℕ, ◌≤◌, drop, Bool, true, false, cond, List, [], ◌∷◌, map, length, Option, Some, None, Vec}
use Rattle.std.specs.List.Sorted.{IsStrictlySortedBy}
use Rattle.std.specs.Map.{keys_of}
use Rattle.std.specs.Ordering.{nat_cmp}
use Rattle.std.specs.declared.cmp.Ordering.{Ordering}
use Rattle.std.specs.declared.sync.Arc.{Arc}
use Rattle.std.specs.Arc.{arc_value}
use Rattle.shared_map.specs.Entries.{with_entry}

module _ {E Z : Type 0} where
  -- what pointers point to
  abbrev pub pointed : List (Arc E Z) → List E
  pointed pointers = map arc_value pointers

  -- the entries of a shelf; where there is none, there are none
  abbrev pub on_shelf : {Y X : Type 0} → Option (Arc (Vec (Arc E Z) Y) X) → List E
  on_shelf None = []
  on_shelf (Some shelf) = pointed (arc_value shelf).items

-- the entries of a shelf that have no flag
abbrev pub unflagged : {E : Type 0} → List Bool → List E → List E
unflagged gone [] = []
unflagged [] (e ∷ entries) = e ∷ unflagged [] entries
unflagged (flag ∷ gone) (e ∷ entries) = cond flag (unflagged gone entries) (e ∷ unflagged gone entries)

module _ {K V : Type 0} (cmp : K → K → Ordering) where
  -- entries laid over those of a shelf: where both have a key, theirs counts
  abbrev pub laid_over : List (K × V) → List (K × V) → List (K × V)
  laid_over [] shelf = shelf
  laid_over (e ∷ own) shelf = with_entry cmp (laid_over own shelf) e

  -- the keys of the shelf ascend, as the map's own do, and each entry of the shelf has a flag
  pub record IsShelved (own shelf : List (K × V)) (gone : List Bool) : Type 0 where
    pub flags : length gone ≡ length shelf
    pub shelf_sorted : IsStrictlySortedBy cmp (keys_of shelf)
    pub own_sorted : IsStrictlySortedBy cmp (keys_of own)

pub example_laid : laid_over {V = ℕ} nat_cmp ((3, 30) ∷ (5, 55) ∷ []) (unflagged (true ∷ false ∷ false ∷ []) ((2, 20) ∷ (4, 40) ∷ (5, 50) ∷ [])) ≡ (3, 30) ∷ (4, 40) ∷ (5, 55) ∷ []
example_laid = refl

module _ {K V : Type 0} (cmp : K → K → Ordering) where
  -- the entries that a walk has before it: the map's own from a place on, laid over the shelf's from a place on
  abbrev pub to_walk : List (K × V) → List (K × V) → List Bool → ℕ → ℕ → List (K × V)
  to_walk own shelf gone own_at shelf_at = laid_over cmp (drop own_at own) (unflagged (drop shelf_at gone) (drop shelf_at shelf))

  pub record IsWalk (own shelf : List (K × V)) (gone : List Bool) (own_at shelf_at : ℕ) : Type 0 where
    pub shelved : IsShelved cmp own shelf gone
    pub own_within : own_at ≤ length own
    pub shelf_within : shelf_at ≤ length shelf
