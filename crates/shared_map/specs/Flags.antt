-- Flags, sixty-four to a word.
use Rattle.std.specs.Prelude.{◌≡◌, refl, ℕ, ◌/◌, ◌%◌, ◌==◌, Bool, true, false, List, [], ◌∷◌, map, slice_index_or}
use Rattle.std.specs.Int.{bit_at}
use Rattle.std.specs.List.{range_with_len}

-- the flag at a place
abbrev pub flag_at : List ℕ → ℕ → Bool
flag_at words at = bit_at (slice_index_or words (at / 64) 0) (at % 64) == 1

-- so many flags from the first on
abbrev pub flags_in : List ℕ → ℕ → List Bool
flags_in words count = map (flag_at words) (range_with_len 0 count)

pub example_flags : flags_in (6 ∷ []) 4 ≡ false ∷ true ∷ true ∷ false ∷ []
example_flags = refl
