-- Lines and columns of a text. Both count from 1, and a column counts bytes. A line ends behind its line feed.
use Rattle.std.specs.Prelude.{◌≡◌, refl, codes, ℕ, ◌+◌, Bool, not, ◌==◌, List, [], ◌∷◌, length, take, filter, take_while, reverse}
use Rattle.source_tokens.specs.declared.position.Position.{Position}

abbrev pub is_feed : ℕ → Bool
is_feed b = b == 10

-- how many line feeds there are
abbrev pub feeds : List ℕ → ℕ
feeds bytes = length (filter is_feed bytes)

-- how many bytes stand behind the last line feed
abbrev pub behind_feed : List ℕ → ℕ
behind_feed bytes = length (take_while (λ b. not (is_feed b)) (reverse bytes))

-- the position of the byte at a place, or just behind the last byte
abbrev pub position_of : List ℕ → ℕ → Position
position_of text at = record { line = feeds (take at text) + 1; column = behind_feed (take at text) + 1 }

-- a tab is one column, and a carriage return ends no line
pub example_positions : (position_of (codes "ab") 2 ≡ record { line = 1; column = 3 }) × (position_of (97 ∷ 10 ∷ 9 ∷ 13 ∷ 98 ∷ []) 4 ≡ record { line = 2; column = 3 }) × (position_of [] 0 ≡ record { line = 1; column = 1 })
example_positions = (refl, refl, refl)
