-- How many brackets are open.
use Rattle.std.specs.Prelude.{◌≡◌, refl, ℕ, ◌+◌, ◌-◌, max, List, [], ◌∷◌}
use Rattle.source_tokens.specs.declared.terminal.Terminal.TheVariants as t
use Rattle.source_tokens.specs.declared.token.Token.{Token}
use Rattle.source_tokens.specs.declared.token.Token.TheVariants.{Fixed}

-- one count for all three kinds, never below 0
abbrev pub open_behind : ℕ → Token → ℕ
open_behind n (Fixed t.OpenParen) = n + 1
open_behind n (Fixed t.OpenBracket) = n + 1
open_behind n (Fixed t.OpenBrace) = n + 1
open_behind n (Fixed t.CloseParen) = n - 1
open_behind n (Fixed t.CloseBracket) = n - 1
open_behind n (Fixed t.CloseBrace) = n - 1
open_behind n token = n

-- the most that are open behind some token, from so many on
abbrev pub most_open : ℕ → List Token → ℕ
most_open n [] = n
most_open n (token ∷ tokens) = max n (most_open (open_behind n token) tokens)

-- a closing bracket too many lowers nothing
pub example_open : most_open 0 (Fixed t.CloseParen ∷ Fixed t.OpenParen ∷ Fixed t.OpenBrace ∷ Fixed t.CloseBracket ∷ Fixed t.OpenBracket ∷ []) ≡ 2
example_open = refl
