-- The lines of the items of a source, in order: of each global, array, entity, client, statement and item of the
-- schedule the line of its first token.
use Rattle.std.specs.Prelude.{◌≡◌, refl, ℕ, Bool, true, false, not, ◌&&◌, ◌||◌, if◌then◌else◌, List, [], ◌∷◌}
use Rattle.source_tokens.specs.Scans.{placed}
use Rattle.source_tokens.specs.declared.terminal.Terminal.TheVariants as t
use Rattle.source_tokens.specs.declared.token.Placed.{Placed}
use Rattle.source_tokens.specs.declared.token.Token.{Token}
use Rattle.source_tokens.specs.declared.token.Token.TheVariants.{Name, Fixed}

abbrev pub is_client : Token → Bool
is_client (Fixed t.Client) = true
is_client token = false

-- a word that begins an item wherever it stands
abbrev pub declares : Token → Bool
declares (Fixed t.Global) = true
declares (Fixed t.Array) = true
declares (Fixed t.Entity) = true
declares (Fixed t.Client) = true
declares token = false

-- a token behind which a statement or an item of the schedule may begin
abbrev pub opens : Token → Bool
opens (Fixed t.OpenBrace) = true
opens (Fixed t.Semicolon) = true
opens (Fixed t.CloseBrace) = true
opens token = false

-- a token that begins none there
abbrev pub passes : Token → Bool
passes (Fixed t.CloseBrace) = true
passes (Fixed t.Else) = true
passes (Fixed t.Schedule) = true
passes token = false

-- does a token begin an item, where the first client has begun or not, and the token before it opens or not
abbrev pub begins : Bool → Bool → Token → Bool
begins inside opened token = declares token || (inside && opened && not (passes token))

-- the line, where an item begins
abbrev pub noted : Bool → ℕ → List ℕ
noted true line = line ∷ []
noted false line = []

unfoldable pub lines_from : Bool → Bool → List Placed → List ℕ
lines_from inside opened [] = []
lines_from inside opened (p ∷ ps) =
    if begins inside opened p.token then p.line ∷ lines_from (inside || is_client p.token) (opens p.token) ps else lines_from (inside || is_client p.token) (opens p.token) ps

abbrev pub item_lines : List Placed → List ℕ
item_lines tokens = lines_from false false tokens

-- client a { yield; } schedule { a 3; } at one token a line
pub example_lines : item_lines (
    placed (Fixed t.Client) 0 1 ∷ placed (Name (97 ∷ [])) 0 2 ∷ placed (Fixed t.OpenBrace) 0 3 ∷ placed (Fixed t.Yield) 0 4 ∷ placed (Fixed t.Semicolon) 0 5 ∷ placed (Fixed t.CloseBrace) 0 6
    ∷ placed (Fixed t.Schedule) 0 7 ∷ placed (Fixed t.OpenBrace) 0 8 ∷ placed (Name (97 ∷ [])) 0 9 ∷ placed (Fixed t.Semicolon) 0 10 ∷ placed (Fixed t.CloseBrace) 0 11 ∷ []
    ) ≡ 1 ∷ 4 ∷ 9 ∷ []
unfolding lines_from
example_lines = refl
