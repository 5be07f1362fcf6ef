-- Where a key is among entries in order, and where it would go.
use Rattle.std.specs.Prelude.{◌≡◌, false, true, ℕ, ◌<◌, ◌≤◌, List, length, slice_index_or}
use Rattle.std.specs.Ordering.{is_lt}
use Rattle.std.specs.declared.cmp.Ordering.{Ordering}
use Rattle.std.specs.declared.cmp.Ordering.TheVariants.{Less, Equal, Greater}

module _ {K V : Type 0} (cmp : K → K → Ordering) (entries : List (K × V)) (key : K) where
  -- the key is here, those before are below it, and those after are above it
  pub record IsPlaceOf (at : ℕ) : Type 0 where
    pub within : at < length entries
    pub here : (d : K × V) → cmp key (slice_index_or entries at d).0 ≡ Equal
    pub before : (k : ℕ) (d : K × V) → k < at → cmp key (slice_index_or entries k d).0 ≡ Greater
    pub after : (k : ℕ) (d : K × V) → at < k → k < length entries → cmp key (slice_index_or entries k d).0 ≡ Less

  -- the keys before are below it, and the others above it
  pub record IsGapFor (at : ℕ) : Type 0 where
    pub within : at ≤ length entries
    pub before : (k : ℕ) (d : K × V) → k < at → cmp key (slice_index_or entries k d).0 ≡ Greater
    pub after : (k : ℕ) (d : K × V) → at ≤ k → k < length entries → cmp key (slice_index_or entries k d).0 ≡ Less

  -- the keys before are below it, and the others aren't
  pub record IsStartOf (at : ℕ) : Type 0 where
    pub within : at ≤ length entries
    pub before : (k : ℕ) (d : K × V) → k < at → is_lt (cmp (slice_index_or entries k d).0 key) ≡ true
    pub after : (k : ℕ) (d : K × V) → at ≤ k → k < length entries → is_lt (cmp (slice_index_or entries k d).0 key) ≡ false
