-- What stands at the front of a text: white space, a comment or a token.
use Rattle.std.specs.Prelude.{◌≡◌, ℕ, ◌+◌, ◌-◌, ◌*◌, ◌^◌, min, Bool, true, false, not, ◌==◌, ◌&&◌, ◌||◌, nat_le, nat_lt, if◌then◌else◌, List, [], ◌∷◌, length, take_while, fold, find, nat_eq, codes, Option, Some, None, option_map, refl}
use Rattle.std.specs.List.{starts_with}
use Rattle.std.specs.Option.{option_map_or}
use Rattle.cloud_base.specs.Values.{is_letter, is_digit, is_name_byte}
use Rattle.source_tokens.specs.Terminals.{terminal_text, words, symbols, reserved}
use Rattle.source_tokens.specs.declared.terminal.Terminal.{Terminal}
use Rattle.source_tokens.specs.declared.terminal.Terminal.TheVariants as terminal
use Rattle.source_tokens.specs.declared.lexeme.Lexeme.{Lexeme}
use Rattle.source_tokens.specs.declared.lexeme.Literal.{Literal}
use Rattle.source_tokens.specs.declared.lexeme.InLiteral.{InLiteral}
use Rattle.source_tokens.specs.declared.lexeme.InLiteral.TheVariants as q
use Rattle.source_tokens.specs.declared.token.Token.{Token}
use Rattle.source_tokens.specs.declared.token.Token.TheVariants.{Name, Number, Text, Fixed}

-- a blank, a tab, a line feed or a carriage return
abbrev pub is_white : ℕ → Bool
is_white b = (b == 32) || (b == 9) || (b == 10) || (b == 13)

-- a comment goes on to the next line feed or the end
abbrev pub comment_length : List ℕ → ℕ
comment_length bytes = length (take_while (λ b. not (b == 10)) bytes)

-- letters and digits are taken as long as they go on
abbrev pub word_at : List ℕ → List ℕ
word_at bytes = take_while is_name_byte bytes

abbrev pub digits_at : List ℕ → List ℕ
digits_at bytes = take_while is_digit bytes

-- the value of digits; one above 2^64 - 1 counts as 2^64 - 1, which is above every limit
abbrev pub number_value : List ℕ → ℕ
number_value digits = fold (λ n d. min (n * 10 + (d - 48)) (2 ^ 64 - 1)) 0 digits

-- a reserved word is no name
abbrev pub word_token : List ℕ → Token
word_token word = option_map_or Fixed (reserved word) (Name word)

-- the symbol at the front, the longest there is
abbrev pub symbol_at : List ℕ → Option Terminal
symbol_at bytes = find (λ t. starts_with nat_eq bytes (terminal_text t)) symbols

-- one byte more in front of what was read
abbrev pub with_byte : ℕ → Literal → Literal
with_byte b l = record { bytes = b ∷ l.bytes; length = l.length + 1 }

abbrev pub with_backslash : Literal → Literal
with_backslash l = record { bytes = l.bytes; length = l.length + 1 }

-- May this byte stand for itself between quotes?
abbrev pub is_plain : ℕ → Bool
is_plain b = nat_le 32 b && nat_lt b 127

-- What a byte between quotes is. Behind a backslash there is a quote or a backslash, which stand for
-- themselves; else a quote closes the literal, a backslash escapes, and a printable byte stands for itself.
abbrev pub judged : Bool → ℕ → InLiteral
judged true b = if (b == 34) || (b == 92) then q.Plain else q.Bad
judged false b = if b == 34 then q.Close else (if b == 92 then q.Backslash else (if is_plain b then q.Plain else q.Bad))

-- what stands up to the closing quote, and none where the text ends before it or a bad byte stands there
unfoldable pub literal_behind : Bool → List ℕ → Option Literal
literal_behind escaped [] = None
literal_behind escaped (b ∷ bytes) = elim (judged escaped b) [
  | q.Plain ↦ option_map (with_byte b) (literal_behind false bytes)
  | q.Backslash ↦ option_map with_backslash (literal_behind true bytes)
  | q.Close ↦ Some (record { bytes = []; length = 1 })
  | q.Bad ↦ None
]

abbrev pub blank : ℕ → Lexeme
blank n = record { token = None; length = n }

abbrev pub lexeme : Token → ℕ → Lexeme
lexeme t n = record { token = Some t; length = n }

-- a text, with its two quotes
abbrev pub literal_lexeme : Literal → Lexeme
literal_lexeme l = lexeme (Text l.bytes) (l.length + 1)

-- what stands at the front: white space or a comment, which is no token, or a token; and its length
unfoldable pub lexeme_at : List ℕ → Option Lexeme
lexeme_at [] = None
lexeme_at (first ∷ bytes) =
    if is_white first then Some (blank 1)
    else (if starts_with nat_eq (first ∷ bytes) (codes "//") then Some (blank (comment_length (first ∷ bytes)))
    else (if is_letter first then Some (lexeme (word_token (word_at (first ∷ bytes))) (length (word_at (first ∷ bytes))))
    else (if is_digit first then Some (lexeme (Number (number_value (digits_at (first ∷ bytes)))) (length (digits_at (first ∷ bytes))))
    else (if first == 34 then option_map literal_lexeme (literal_behind false bytes)
    else option_map (λ t. lexeme (Fixed t) (length (terminal_text t))) (symbol_at (first ∷ bytes))))))

-- an escaped quote and an escaped backslash, behind which the literal ends
pub example_literal : literal_behind false (codes "a\\\"\\\\\" b") ≡ Some (record { bytes = codes "a\"\\"; length = 6 })
unfolding literal_behind
example_literal = refl

-- a literal that isn't closed, one with a line feed, and one with another escape
pub example_no_literal : (literal_behind false (codes "a") ≡ None) × (literal_behind false (10 ∷ codes "\"") ≡ None) × (literal_behind false (codes "\\n\"") ≡ None)
unfolding literal_behind
example_no_literal = (refl, refl, refl)

-- the longest token is taken
pub example_longest : (lexeme_at (codes "<=1") ≡ Some (lexeme (Fixed terminal.LessOrEqual) 2)) × (lexeme_at (codes "yields") ≡ Some (lexeme (Name (codes "yields")) 6)) × (lexeme_at (codes "yield;") ≡ Some (lexeme (Fixed terminal.Yield) 5))
unfolding lexeme_at reserved words
example_longest = (refl, refl, refl)
