-- The tokens of a text are what tokens of a source can be: names are identifiers, and texts are printable.
use Rattle.std.proofs.Common.{◌≡◌, ℕ, zero, suc, ◌≤◌, ◌<◌, ◌^◌, ◌+◌, ◌*◌, ◌-◌, Bool, true, false, cond, List, [], ◌∷◌, ◌++◌, length, map, refl, ap, sym, ◌∙◌, subst, arith, lit<, nat_lt, nat_le, slice_index, nat_eq, Option, Some, None, option_map}
use Rattle.std.specs.Prelude.{min, fold, ◌==◌, codes, All, IsTrue, MatchOption, ◌||◌}
use Rattle.std.specs.List.{AllByRecursion, starts_with}
use Rattle.std.specs.Option.{option_map_or}
use Rattle.std.proofs.lemmas.Bool.Decides.{nat_tests}
use Rattle.std.proofs.lemmas.List.Elements.{All-nil, All-cons}
use Rattle.cloud_base.specs.Values.{IsPrintable, IsName, is_letter, is_digit}
use Rattle.source_tokens.specs.Lexemes.{is_white, comment_length, word_at, digits_at, number_value, word_token, symbol_at, is_plain, literal_behind, judged, blank, lexeme, literal_lexeme, lexeme_at, with_byte, with_backslash}
use Rattle.source_tokens.specs.Scans.{scan_behind, scan, tokens_of, with_token, line_behind, placed, IsToken}
use Rattle.source_tokens.specs.Terminals.{terminal_text, reserved, IsIdentifier}
use Rattle.source_tokens.specs.declared.lexeme.InLiteral.{InLiteral}
use Rattle.source_tokens.specs.declared.lexeme.InLiteral.TheVariants as q
use Rattle.source_tokens.specs.declared.lexeme.Lexeme.{Lexeme}
use Rattle.source_tokens.specs.declared.lexeme.Literal.{Literal}
use Rattle.source_tokens.specs.declared.terminal.Terminal.{Terminal}
use Rattle.source_tokens.specs.declared.token.Placed.{Placed}
use Rattle.source_tokens.specs.declared.token.Scan.{Scan}
use Rattle.source_tokens.specs.declared.token.Token.{Token}
use Rattle.source_tokens.specs.declared.token.Token.TheVariants.{Name, Number, Text, Fixed}
use Rattle.source_tokens.proofs.Fronts.{word_is_name}
use Rattle.source_tokens.proofs.Literals.{by_byte, of_byte}
use Rattle.source_tokens.proofs.Splits.{by_lexeme, of_lexeme}

-- ---- numbers
capped : (digits : List ℕ) (n : ℕ) → n < 2 ^ 64 → fold (λ n d. min (n * 10 + (d - 48)) (2 ^ 64 - 1)) n digits < 2 ^ 64
capped [] n h = h
capped (d ∷ digits) n h = capped digits (min (n * 10 + (d - 48)) (2 ^ 64 - 1)) (omega arith)

-- ---- words
word_fits : (word : List ℕ) (o : Option Terminal) → IsName word → reserved word ≡ o → IsToken (option_map_or Fixed o (Name word))
word_fits word None h e = (h, e)
word_fits word (Some t) h e = tt

-- ---- literals
abbrev Plain : Option Literal → Type 0
Plain o = MatchOption o (Unit {0}) (λ (l : Literal). All IsPrintable l.bytes)

plain_is : (b : ℕ) → is_plain b ≡ true → IsPrintable b
plain_is b h = grind (arith, nat_tests, h)

with_plain : (b : ℕ) (o : Option Literal) → IsPrintable b → Plain o → Plain (option_map (with_byte b) o)
with_plain b None p h = tt
with_plain b (Some l) p h = All-cons IsPrintable b l.bytes p h

backslashed : (o : Option Literal) → Plain o → Plain (option_map with_backslash o)
backslashed None h = tt
backslashed (Some l) h = h

plain_judged : (escaped : Bool) (b : ℕ) → q.Plain ≡ judged escaped b → IsPrintable b
plain_judged escaped b h = grind (arith, nat_tests, h)

by_judged : (escaped : Bool) (b : ℕ) (bytes : List ℕ) (w : InLiteral) → w ≡ judged escaped b → Plain (literal_behind false bytes) → Plain (literal_behind true bytes) → Plain (by_byte b bytes w)
by_judged escaped b bytes q.Plain h p t = with_plain b (literal_behind false bytes) (plain_judged escaped b h) p
by_judged escaped b bytes q.Backslash h p t = backslashed (literal_behind true bytes) t
by_judged escaped b bytes q.Close h p t = All-nil IsPrintable
by_judged escaped b bytes q.Bad h p t = tt

literal_fits : (bytes : List ℕ) → Plain (literal_behind false bytes) × Plain (literal_behind true bytes)
unfolding literal_behind
literal_fits [] = (tt, tt)
literal_fits (b ∷ bytes) =
    let more = literal_fits bytes in (
      subst Plain (sym (of_byte false b bytes (judged false b) refl)) (by_judged false b bytes (judged false b) refl more.0 more.1),
      subst Plain (sym (of_byte true b bytes (judged true b) refl)) (by_judged true b bytes (judged true b) refl more.0 more.1),
    )

-- ---- lexemes
abbrev Fits : Option Lexeme → Type 0
Fits o = MatchOption o (Unit {0}) (λ (l : Lexeme). MatchOption l.token (Unit {0}) IsToken)

literal_lexeme_fits : (o : Option Literal) → Plain o → Fits (option_map literal_lexeme o)
literal_lexeme_fits None h = tt
literal_lexeme_fits (Some l) h = h

symbol_lexeme_fits : (o : Option Terminal) → Fits (option_map (λ t. lexeme (Fixed t) (length (terminal_text t))) o)
symbol_lexeme_fits None = tt
symbol_lexeme_fits (Some t) = tt

abbrev last : ℕ → List ℕ → Bool → Option Lexeme
last first bytes quote = cond quote (option_map literal_lexeme (literal_behind false bytes)) (option_map (λ t. lexeme (Fixed t) (length (terminal_text t))) (symbol_at (first ∷ bytes)))

last_fits : (first : ℕ) (bytes : List ℕ) (quote : Bool) → Fits (last first bytes quote)
last_fits first bytes true = literal_lexeme_fits (literal_behind false bytes) (literal_fits bytes).0
last_fits first bytes false = symbol_lexeme_fits (symbol_at (first ∷ bytes))

abbrev counted : ℕ → List ℕ → Bool → Option Lexeme → Option Lexeme
counted first bytes digit other = cond digit (Some (lexeme (Number (number_value (digits_at (first ∷ bytes)))) (length (digits_at (first ∷ bytes))))) other

counted_fits : (first : ℕ) (bytes : List ℕ) (digit : Bool) (other : Option Lexeme) → Fits other → Fits (counted first bytes digit other)
counted_fits first bytes true other h = capped (digits_at (first ∷ bytes)) 0 (lit< tt)
counted_fits first bytes false other h = h

abbrev worded : ℕ → List ℕ → Bool → Option Lexeme → Option Lexeme
worded first bytes letter other = cond letter (Some (lexeme (word_token (word_at (first ∷ bytes))) (length (word_at (first ∷ bytes))))) other

worded_fits : (first : ℕ) (bytes : List ℕ) (letter : Bool) (other : Option Lexeme) → is_letter first ≡ letter → Fits other → Fits (worded first bytes letter other)
worded_fits first bytes true other e h = word_fits (word_at (first ∷ bytes)) (reserved (word_at (first ∷ bytes))) (word_is_name (first ∷ bytes) e) refl
worded_fits first bytes false other e h = h

blank_fits : (n : ℕ) (blank_here : Bool) (other : Option Lexeme) → Fits other → Fits (cond blank_here (Some (blank n)) other)
blank_fits n true other h = tt
blank_fits n false other h = h

lexeme_fits : (text : List ℕ) → Fits (lexeme_at text)
unfolding lexeme_at
lexeme_fits [] = tt
lexeme_fits (first ∷ bytes) =
    blank_fits 1 (is_white first) _
    (blank_fits (comment_length (first ∷ bytes)) (starts_with nat_eq (first ∷ bytes) (codes "//")) _
    (worded_fits first bytes (is_letter first) _ refl
    (counted_fits first bytes (is_digit first) _
    (last_fits first bytes (first == 34)))))

-- ---- scans
abbrev AllFit : Scan → Type 0
AllFit scan = AllByRecursion IsToken (tokens_of scan.tokens)

token_fits : (at line : ℕ) (token : Option Token) (more : Scan) → MatchOption token (Unit {0}) IsToken → AllFit more → AllFit (with_token at line token more)
token_fits at line None more h rest = rest
token_fits at line (Some t) more h rest = (h, rest)

by_lexeme_fits : (at line b : ℕ) (bytes : List ℕ) (o : Option Lexeme) → Fits o → ((n : ℕ) → AllFit (scan_behind (at + 1) (line_behind b line) n bytes)) → AllFit (by_lexeme at line b bytes o)
by_lexeme_fits at line b bytes None h rest = tt
by_lexeme_fits at line b bytes (Some l) h rest = token_fits at line l.token _ h (rest (l.length - 1))

all_fit : (at line n : ℕ) (text : List ℕ) → AllFit (scan_behind at line n text)
unfolding scan_behind
all_fit at line n [] = tt
all_fit at line (suc n) (b ∷ bytes) = all_fit (at + 1) (line_behind b line) n bytes
all_fit at line zero (b ∷ bytes) =
    subst AllFit (sym (of_lexeme at line b bytes (lexeme_at (b ∷ bytes)) refl))
    (by_lexeme_fits at line b bytes (lexeme_at (b ∷ bytes)) (lexeme_fits (b ∷ bytes)) (λ n. all_fit (at + 1) (line_behind b line) n bytes))

-- the tokens of a text are tokens of a source
pub scanned_fit : (text : List ℕ) → AllByRecursion IsToken (tokens_of (scan text).tokens)
scanned_fit text = all_fit 0 1 0 text
