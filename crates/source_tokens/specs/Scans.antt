-- The tokens of a text with their places, up to its first lexical fault.
use Rattle.std.specs.Prelude.{◌≡◌, ℕ, zero, suc, ◌+◌, ◌-◌, ◌^◌, ◌<◌, All, if◌then◌else◌, map, List, [], ◌∷◌, ◌++◌, codes, Option, Some, None, refl}
use Rattle.source_tokens.specs.Lexemes.{lexeme_at, literal_behind}
use Rattle.source_tokens.specs.Positions.{is_feed}
use Rattle.cloud_base.specs.Values.{IsPrintable}
use Rattle.source_tokens.specs.Terminals.{words, reserved, IsIdentifier}
use Rattle.source_tokens.specs.declared.terminal.Terminal.TheVariants as terminal
use Rattle.source_tokens.specs.declared.token.Placed.{Placed}
use Rattle.source_tokens.specs.declared.token.Scan.{Scan}
use Rattle.source_tokens.specs.declared.token.Token.{Token}
use Rattle.source_tokens.specs.declared.token.Token.TheVariants.{Name, Number, Text, Fixed}

-- a token, the place of its first byte, and the line of that
abbrev pub placed : Token → ℕ → ℕ → Placed
placed token at line = record { token = token; at = at; line = line }

-- a token in front of a scan
abbrev pub with_token : ℕ → ℕ → Option Token → Scan → Scan
with_token at line None scan = scan
with_token at line (Some token) scan = record { tokens = placed token at line ∷ scan.tokens; fault = scan.fault }

-- the line of what stands behind a byte of this line
abbrev pub line_behind : ℕ → ℕ → ℕ
line_behind b line = if is_feed b then line + 1 else line

-- the scan of the bytes from a place of a line on, behind the next so many bytes
unfoldable pub scan_behind : ℕ → ℕ → ℕ → List ℕ → Scan
scan_behind at line skip [] = record { tokens = []; fault = None }
scan_behind at line (suc skip) (b ∷ bytes) = scan_behind (at + 1) (line_behind b line) skip bytes
scan_behind at line zero (b ∷ bytes) = elim (lexeme_at (b ∷ bytes)) [
  | None ↦ record { tokens = []; fault = Some at }
  | Some l ↦ with_token at line l.token (scan_behind (at + 1) (line_behind b line) (l.length - 1) bytes)
]

-- the scan of a text
abbrev pub scan : List ℕ → Scan
scan text = scan_behind 0 1 0 text

-- what a token of a source can be: a name is an identifier, and a text is printable
abbrev pub IsToken : Token → Type 0
IsToken (Name x) = IsIdentifier x
IsToken (Number n) = n < 2 ^ 64
IsToken (Text bytes) = All IsPrintable bytes
IsToken (Fixed t) = Unit {0}

-- the tokens alone
abbrev pub tokens_of : List Placed → List Token
tokens_of tokens = map (λ (p : Placed). p.token) tokens

pub example_scan : scan (codes "// yield" ++ (10 ∷ codes "print\tx_1 007<=18446744073709551616;")) ≡ record {
  tokens =
      placed (Fixed terminal.Print) 9 2 ∷ placed (Name (codes "x_1")) 15 2 ∷ placed (Number 7) 19 2 ∷ placed (Fixed terminal.LessOrEqual) 22 2 ∷ placed (Number (2 ^ 64 - 1)) 24 2
      ∷ placed (Fixed terminal.Semicolon) 44 2 ∷ [];
  fault = None;
}
unfolding scan_behind lexeme_at reserved words
example_scan = refl

-- tokens stand only before the fault; a text that isn't closed is a fault at its opening quote
pub example_fault : (scan (codes "yield ! yield") ≡ record { tokens = placed (Fixed terminal.Yield) 0 1 ∷ []; fault = Some 6 }) × (scan (codes "\"a\" \"b") ≡ record { tokens = placed (Text (codes "a")) 0 1 ∷ []; fault = Some 4 })
unfolding scan_behind lexeme_at reserved words literal_behind
example_fault = (refl, refl)
