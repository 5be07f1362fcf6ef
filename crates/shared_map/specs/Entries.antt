-- The entries of a map, in the order of their keys.
use Rattle.std.specs.Prelude.{◌≡◌, refl, ℕ, false, not, List, [], ◌∷◌, Option, Some, None}
use Rattle.std.specs.List.{filter}
use Rattle.std.specs.Map.{lookup}
use Rattle.std.specs.BTreeMap.{is_at}
use Rattle.std.specs.Ordering.{match_ordering, is_lt, nat_cmp}
use Rattle.std.specs.declared.cmp.Ordering.{Ordering}

module _ {K V : Type 0} (cmp : K → K → Ordering) where
  -- the value at a key
  abbrev pub value_at : List (K × V) → K → Option V
  value_at entries key = lookup (is_at (cmp key)) entries

  -- the entries with one more: in the place of the one with an equal key, else where its key belongs
  abbrev pub with_entry : List (K × V) → K × V → List (K × V)
  with_entry [] entry = entry ∷ []
  with_entry (e ∷ entries) entry =
      match_ordering (cmp entry.0 e.0) (entry ∷ e ∷ entries) (entry ∷ entries) (e ∷ with_entry entries entry)

  -- the entries but those with this key
  abbrev pub without_key : List (K × V) → K → List (K × V)
  without_key entries key = filter (λ e. not (is_at (cmp key) e.0)) entries

  -- the entries whose keys aren't below this one
  abbrev pub entries_from : List (K × V) → K → List (K × V)
  entries_from entries key = filter (λ e. not (is_lt (cmp e.0 key))) entries

  -- at this key a look-up finds this value in the new entries, and elsewhere what it found in the old ones
  pub record Updates (old new : List (K × V)) (key : K) (value : Option V) : Type 0 where
    pub here : value_at new key ≡ value
    pub elsewhere : (q : K) → is_at (cmp key) q ≡ false → value_at new q ≡ value_at old q

module _ where
  abbrev sample : List (ℕ × ℕ)
  sample = (2, 20) ∷ (5, 50) ∷ []

  pub example_with : (with_entry nat_cmp sample (3, 30) ≡ (2, 20) ∷ (3, 30) ∷ (5, 50) ∷ []) × (with_entry nat_cmp sample (5, 55) ≡ (2, 20) ∷ (5, 55) ∷ [])
  example_with = (refl, refl)

  pub example_without : (without_key nat_cmp sample 2 ≡ (5, 50) ∷ []) × (without_key nat_cmp sample 3 ≡ sample)
  example_without = (refl, refl)

  pub example_from : (entries_from nat_cmp sample 3 ≡ (5, 50) ∷ []) × (entries_from nat_cmp sample 2 ≡ sample)
  example_from = (refl, refl)

  pub example_value : (value_at nat_cmp sample 5 ≡ Some 50) × (value_at nat_cmp sample 3 ≡ None)
  example_value = (refl, refl)
