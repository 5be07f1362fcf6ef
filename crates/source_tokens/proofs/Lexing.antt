-- The tokens of a text, piece by piece.
use Rattle.std.proofs.Common.{◌≡◌, ℕ, zero, suc, ◌+◌, ◌-◌, ◌*◌, ◌^◌, ◌≤◌, ◌<◌, Bool, true, false, cond, List, [], ◌∷◌, ◌++◌, length, take, drop, map, refl, ap, sym, ◌∙◌, subst, arith, append_assoc, append-nil, length-append, nat_eq, slice_index, Option, Some, None, option_map}
use Rattle.std.specs.Prelude.{take_while, not, ◌==◌, ◌||◌, ◌&&◌, codes, min, fold, decimal, All, IsTrue, find}
use Rattle.std.specs.List.{AllByRecursion, starts_with, flat_map}
use Rattle.std.specs.Option.{option_map_or}
use Rattle.std.proofs.lemmas.Bool.Decides.{nat_tests}
use Rattle.std.proofs.lemmas.Fmt.{decimal_is_IsNumeral, decimal_nonempty, digits_value-decimal}
use Rattle.std.proofs.lemmas.Str.Parse.{IsNumeralModel, FoldsDigits, tells_digits, numerals_by_fold, digit_from_value}
use Rattle.std.specs.Str.Parse.{AllDigits}
use Rattle.std.proofs.lemmas.List.Elements.{All-head, All-tail}
use Rattle.source_tokens.specs.declared.lexeme.InLiteral.TheVariants as q
use Rattle.source_tokens.proofs.Literals.{of_byte}
use Rattle.cloud_base.specs.Values.{IsPrintable, is_letter, is_digit, is_name_byte, is_name, all_name_bytes, IsName}
use Rattle.source_tokens.specs.Lexemes.{is_white, comment_length, word_at, digits_at, number_value, word_token, symbol_at, is_plain, judged, literal_behind, literal_lexeme, blank, lexeme, lexeme_at, with_byte, with_backslash}
use Rattle.source_tokens.specs.Positions.{feeds}
use Rattle.source_tokens.specs.Scans.{scan_behind, tokens_of, with_token, line_behind, placed}
use Rattle.source_tokens.specs.Terminals.{terminal_text, reserved, words, IsIdentifier}
use Rattle.source_tokens.specs.declared.lexeme.Lexeme.{Lexeme}
use Rattle.source_tokens.specs.declared.lexeme.Literal.{Literal}
use Rattle.source_tokens.specs.declared.terminal.Terminal.{Terminal}
use Rattle.source_tokens.specs.declared.terminal.Terminal.TheVariants as t
use Rattle.source_tokens.specs.declared.token.Scan.{Scan}
use Rattle.source_tokens.specs.declared.token.Token.{Token}
use Rattle.source_tokens.specs.declared.token.Token.TheVariants.{Name, Number, Text, Fixed}
use Rattle.source_tokens.proofs.Fronts.{front_by, front_none}
use Rattle.source_tokens.proofs.Splits.{of_lexeme, by_lexeme, after}

-- the bytes are read whole, as these tokens, wherever they stand
pub record Lexes (bytes : List ℕ) (tokens : List Token) : Type 0 where
  pub read : (at line : ℕ) → tokens_of (scan_behind at line 0 bytes).tokens ≡ tokens
  pub whole : (at line : ℕ) → (scan_behind at line 0 bytes).fault ≡ None

pub lexes_nothing : Lexes [] []
unfolding scan_behind
lexes_nothing = record { read = λ at line. refl; whole = λ at line. refl }

read_with : (at line : ℕ) (token : Token) (more : Scan) (ts : List Token) → tokens_of more.tokens ≡ ts → tokens_of (with_token at line (Some token) more).tokens ≡ token ∷ ts
read_with at line token more ts h = ap (λ us. token ∷ us) h

-- a lexeme and what stands behind it
pub lexes_on : (text rest : List ℕ) (token : Token) (n : ℕ) (ts : List Token) → lexeme_at text ≡ Some (lexeme token n) → 1 ≤ n → n ≤ length text → drop n text ≡ rest → Lexes rest ts → Lexes text (token ∷ ts)
lexes_on [] rest token n ts is some fits left h = absurd (omega arith)
lexes_on (b ∷ bytes) rest token n ts is some fits left h = record {
  read = λ at line.
      ap (λ (s : Scan). tokens_of s.tokens) (of_lexeme at line b bytes (Some (lexeme token n)) is)
      ∙ ap (λ us. token ∷ us) (ap (λ (s : Scan). tokens_of s.tokens) (after at line n b bytes some fits ∙ ap (scan_behind (at + n) (line + feeds (take n (b ∷ bytes))) 0) left) ∙ h.read (at + n) (line + feeds (take n (b ∷ bytes))));
  whole = λ at line.
      ap (λ (s : Scan). s.fault) (of_lexeme at line b bytes (Some (lexeme token n)) is)
      ∙ ap (λ (s : Scan). s.fault) (after at line n b bytes some fits ∙ ap (scan_behind (at + n) (line + feeds (take n (b ∷ bytes))) 0) left) ∙ h.whole (at + n) (line + feeds (take n (b ∷ bytes)));
}

-- a blank
pub lexes_blank : (rest : List ℕ) (ts : List Token) → Lexes rest ts → Lexes (32 ∷ rest) ts
unfolding scan_behind lexeme_at
lexes_blank rest ts h = record { read = λ at line. h.read _ _; whole = λ at line. h.whole _ _ }

-- what follows doesn't lengthen a word or a number
abbrev pub Ends : List ℕ → Type 0
Ends [] = Unit {0}
Ends (b ∷ bytes) = is_name_byte b ≡ false

drop_front : (front rest : List ℕ) → drop (length front) (front ++ rest) ≡ rest
drop_front [] rest = refl
drop_front (b ∷ front) rest = drop_front front rest

-- ---- words
letter_white : (c : ℕ) → is_letter c ≡ true → is_white c ≡ false
letter_white c h = grind (arith, nat_tests, h)

letter_slash : (c : ℕ) → is_letter c ≡ true → nat_eq c 47 ≡ false
letter_slash c h = grind (arith, nat_tests, h)

word_front : (word rest : List ℕ) → all_name_bytes word ≡ true → Ends rest → word_at (word ++ rest) ≡ word
word_front [] [] h e = refl
word_front [] (b ∷ rest) h e = front_none is_name_byte b rest e
word_front (c ∷ word) rest h e =
    let first : is_name_byte c ≡ true = grind (arith, nat_tests, h) in
    let more : all_name_bytes word ≡ true = grind (arith, nat_tests, h) in
    front_by is_name_byte c (word ++ rest) first ∙ ap (λ w. c ∷ w) (word_front word rest more e)

-- what a lexeme is behind white space, told by whether a comment and a letter stand there
abbrev word_or : ℕ → List ℕ → Bool → Bool → Option Lexeme
word_or c bytes comment letter =
    cond comment (Some (blank (comment_length (c ∷ bytes))))
    (cond letter (Some (lexeme (word_token (word_at (c ∷ bytes))) (length (word_at (c ∷ bytes)))))
    (cond (is_digit c) (Some (lexeme (Number (number_value (digits_at (c ∷ bytes)))) (length (digits_at (c ∷ bytes)))))
    (cond (c == 34) (option_map literal_lexeme (literal_behind false bytes))
    (option_map (λ t. lexeme (Fixed t) (length (terminal_text t))) (symbol_at (c ∷ bytes))))))

no_comment : (c : ℕ) (bytes : List ℕ) → is_letter c ≡ true → starts_with nat_eq (c ∷ bytes) (codes "//") ≡ false
no_comment c bytes h = grind (arith, nat_tests, h)

worded : (word rest : List ℕ) → is_name word ≡ true → Ends rest → lexeme_at (word ++ rest) ≡ Some (lexeme (word_token word) (length word))
unfolding lexeme_at
worded [] rest h e = absurd (cc h)
worded (c ∷ word) rest h e =
    let letter : is_letter c ≡ true = grind (arith, nat_tests, h) in
    let more : all_name_bytes (c ∷ word) ≡ true = grind (arith, nat_tests, h) in
    let front : word_at (c ∷ (word ++ rest)) ≡ c ∷ word = word_front (c ∷ word) rest more e in
    ap (λ b. cond b (Some (blank 1)) (word_or c (word ++ rest) (starts_with nat_eq (c ∷ (word ++ rest)) (codes "//")) (is_letter c))) (letter_white c letter)
    ∙ ap (λ b. word_or c (word ++ rest) b (is_letter c)) (no_comment c (word ++ rest) letter)
    ∙ ap (λ b. word_or c (word ++ rest) false b) letter
    ∙ ap (λ w. Some (lexeme (word_token w) (length w))) front

name_some : (word : List ℕ) → is_name word ≡ true → 1 ≤ length word
name_some [] h = absurd (cc h)
name_some (c ∷ word) h = omega arith

-- a word with its token
pub lexes_word : (word rest : List ℕ) (token : Token) (ts : List Token) → is_name word ≡ true → word_token word ≡ token → Ends rest → Lexes rest ts → Lexes (word ++ rest) (token ∷ ts)
lexes_word word rest token ts name is e h =
    lexes_on (word ++ rest) rest token (length word) ts (worded word rest name e ∙ ap (λ t. Some (lexeme t (length word))) is) (name_some word name)
    (omega (arith, length-append word rest)) (drop_front word rest) h

named : (word : List ℕ) (o : Option Terminal) → reserved word ≡ o → o ≡ None → option_map_or Fixed o (Name word) ≡ Name word
named word None e h = refl
named word (Some t) e h = absurd (cc h)

pub lexes_name : (word rest : List ℕ) (ts : List Token) → IsIdentifier word → Ends rest → Lexes rest ts → Lexes (word ++ rest) (Name word ∷ ts)
lexes_name word rest ts h e more = lexes_word word rest (Name word) ts h.0 (named word (reserved word) refl h.1) e more

-- ---- numbers
cap : ℕ
cap = 2 ^ 64 - 1

abbrev exactly : ℕ → List ℕ → ℕ
exactly n [] = n
exactly n (d ∷ ds) = exactly (n * 10 + (d - 48)) ds

abbrev at_most_cap : ℕ → List ℕ → ℕ
at_most_cap n ds = fold (λ n d. min (n * 10 + (d - 48)) (2 ^ 64 - 1)) n ds

capped : (n : ℕ) (ds : List ℕ) → at_most_cap (min n (2 ^ 64 - 1)) ds ≡ min (exactly n ds) (2 ^ 64 - 1)
capped n [] = refl
capped n (d ∷ ds) = ap (λ m. at_most_cap m ds) (omega arith) ∙ capped (n * 10 + (d - 48)) ds

folds : FoldsDigits exactly
folds = record { empty = λ n. refl; more = λ n c cs h. refl }

number_back : (n : ℕ) → n < 2 ^ 64 → number_value (decimal n) ≡ n
number_back n h =
    let value : exactly 0 (decimal n) ≡ n = digits_value-decimal (numerals_by_fold (AllDigits 10) tells_digits exactly folds) n h in
    let zero_is : min 0 (2 ^ 64 - 1) ≡ 0 = omega arith in
    ap (λ m. at_most_cap m (decimal n)) (sym zero_is) ∙ capped 0 (decimal n) ∙ omega (arith, value)

digit_is : (c : ℕ) → 48 ≤ c → c ≤ 57 → is_digit c ≡ true
digit_is c h k = grind (arith, nat_tests, h, k)

not_digit : (b : ℕ) → is_name_byte b ≡ false → is_digit b ≡ false
not_digit b h = grind (arith, nat_tests, h)

digits_front : (ds rest : List ℕ) → AllDigits 10 ds → Ends rest → digits_at (ds ++ rest) ≡ ds
digits_front [] [] h e = refl
digits_front [] (b ∷ rest) h e = front_none is_digit b rest (not_digit b e)
digits_front (d ∷ ds) rest h e =
    let k = digit_from_value d h.0 in
    front_by is_digit d (ds ++ rest) (digit_is d k.0 k.1) ∙ ap (λ w. d ∷ w) (digits_front ds rest h.1 e)

digit_white : (c : ℕ) → is_digit c ≡ true → is_white c ≡ false
digit_white c h = grind (arith, nat_tests, h)

digit_comment : (c : ℕ) (bytes : List ℕ) → is_digit c ≡ true → starts_with nat_eq (c ∷ bytes) (codes "//") ≡ false
digit_comment c bytes h = grind (arith, nat_tests, h)

digit_letter : (c : ℕ) → is_digit c ≡ true → is_letter c ≡ false
digit_letter c h = grind (arith, nat_tests, h)

abbrev number_or : ℕ → List ℕ → Bool → Option Lexeme
number_or c bytes digit =
    cond digit (Some (lexeme (Number (number_value (digits_at (c ∷ bytes)))) (length (digits_at (c ∷ bytes)))))
    (cond (c == 34) (option_map literal_lexeme (literal_behind false bytes))
    (option_map (λ t. lexeme (Fixed t) (length (terminal_text t))) (symbol_at (c ∷ bytes))))

numbered : (ds rest : List ℕ) → AllDigits 10 ds → 1 ≤ length ds → Ends rest → lexeme_at (ds ++ rest) ≡ Some (lexeme (Number (number_value ds)) (length ds))
unfolding lexeme_at
numbered [] rest h some e = absurd (omega arith)
numbered (c ∷ ds) rest h some e =
    let k = digit_from_value c h.0 in
    let digit : is_digit c ≡ true = digit_is c k.0 k.1 in
    let front : digits_at (c ∷ (ds ++ rest)) ≡ c ∷ ds = digits_front (c ∷ ds) rest h e in
    ap (λ b. cond b (Some (blank 1)) (word_or c (ds ++ rest) (starts_with nat_eq (c ∷ (ds ++ rest)) (codes "//")) (is_letter c))) (digit_white c digit)
    ∙ ap (λ b. word_or c (ds ++ rest) b (is_letter c)) (digit_comment c (ds ++ rest) digit)
    ∙ ap (λ b. word_or c (ds ++ rest) false b) (digit_letter c digit)
    ∙ ap (λ b. number_or c (ds ++ rest) b) digit
    ∙ ap (λ w. Some (lexeme (Number (number_value w)) (length w))) front

pub lexes_number : (n : ℕ) (rest : List ℕ) (ts : List Token) → n < 2 ^ 64 → Ends rest → Lexes rest ts → Lexes (decimal n ++ rest) (Number n ∷ ts)
lexes_number n rest ts h e more =
    lexes_on (decimal n ++ rest) rest (Number n) (length (decimal n)) ts
    (numbered (decimal n) rest (decimal_is_IsNumeral n h).0.1 (decimal_nonempty n h) e ∙ ap (λ m. Some (lexeme (Number m) (length (decimal n)))) (number_back n h))
    (decimal_nonempty n h) (omega (arith, length-append (decimal n) rest)) (drop_front (decimal n) rest) more

-- ---- texts
-- a byte of a text as it stands in a source: a backslash stands before a quote and before a backslash
abbrev pub with_escape : ℕ → List ℕ
with_escape byte = cond ((byte == 34) || (byte == 92)) (92 ∷ byte ∷ []) (byte ∷ [])

plain_byte : (b : ℕ) → IsPrintable b → ((b == 34) || (b == 92)) ≡ false → judged false b ≡ q.Plain
plain_byte b h e = grind (arith, nat_tests, h, e)

escaped_byte : (b : ℕ) → ((b == 34) || (b == 92)) ≡ true → judged true b ≡ q.Plain
escaped_byte b e = ap (λ c. cond c q.Plain q.Bad) e

shifted : (b : ℕ) (o : Option Literal) → option_map with_backslash (option_map (with_byte b) o) ≡ option_map (λ (l : Literal). record { bytes = b ∷ l.bytes; length = l.length + 2 }) o
shifted b None = refl
shifted b (Some l) = ap (λ n. Some (record { bytes = b ∷ l.bytes; length = n })) (omega arith)

quoted_by : (b : ℕ) (more : List ℕ) (o : Option Literal) (c : Bool) → ((b == 34) || (b == 92)) ≡ c → IsPrintable b → literal_behind false more ≡ o
    → literal_behind false (cond c (92 ∷ b ∷ []) (b ∷ []) ++ more) ≡ option_map (λ (l : Literal). record { bytes = b ∷ l.bytes; length = l.length + length (cond c (92 ∷ b ∷ []) (b ∷ [])) }) o
unfolding literal_behind
quoted_by b more o true e h is =
    of_byte false 92 (b ∷ more) q.Backslash refl ∙ ap (option_map with_backslash) (of_byte true b more q.Plain (sym (escaped_byte b e)) ∙ ap (option_map (with_byte b)) is) ∙ shifted b o
quoted_by b more o false e h is =
    of_byte false b more q.Plain (sym (plain_byte b h e)) ∙ ap (option_map (with_byte b)) is

-- the bytes of a text up to its closing quote
literal_back : (bytes rest : List ℕ) → All IsPrintable bytes → literal_behind false (flat_map with_escape bytes ++ (34 ∷ rest)) ≡ Some (record { bytes = bytes; length = length (flat_map with_escape bytes) + 1 })
literal_back [] rest h = of_byte false 34 rest q.Close refl
literal_back (b ∷ bytes) rest h =
    ap (literal_behind false) (append_assoc (with_escape b) (flat_map with_escape bytes) (34 ∷ rest))
    ∙ quoted_by b (flat_map with_escape bytes ++ (34 ∷ rest)) _ ((b == 34) || (b == 92)) refl (All-head IsPrintable b bytes h) (literal_back bytes rest (All-tail IsPrintable b bytes h))
    ∙ ap (λ n. Some (record { bytes = b ∷ bytes; length = n })) (omega (arith, length-append (with_escape b) (flat_map with_escape bytes)))

dropped : (front rest : List ℕ) → drop (length front + 1 + 1) (34 ∷ (front ++ (34 ∷ rest))) ≡ rest
dropped front rest =
    let long : length front + 1 + 1 ≡ length (34 ∷ (front ++ (34 ∷ []))) = omega (arith, length-append front (34 ∷ [])) in
    ap (λ bytes. drop (length front + 1 + 1) (34 ∷ bytes)) (sym (append_assoc front (34 ∷ []) rest))
    ∙ ap (λ n. drop n ((34 ∷ (front ++ (34 ∷ []))) ++ rest)) long
    ∙ drop_front (34 ∷ (front ++ (34 ∷ []))) rest

pub lexes_text : (bytes rest : List ℕ) (ts : List Token) → All IsPrintable bytes → Lexes rest ts → Lexes (34 ∷ (flat_map with_escape bytes ++ (34 ∷ rest))) (Text bytes ∷ ts)
unfolding lexeme_at
lexes_text bytes rest ts h more =
    lexes_on (34 ∷ (flat_map with_escape bytes ++ (34 ∷ rest))) rest (Text bytes) (length (flat_map with_escape bytes) + 1 + 1) ts
    (ap (option_map literal_lexeme) (literal_back bytes rest h))
    (omega arith) (omega (arith, length-append (flat_map with_escape bytes) (34 ∷ rest)))
    (dropped (flat_map with_escape bytes) rest)
    more
