-- Where the syntax fault of a text is.
use Rattle.std.specs.Prelude.{◌≡◌, refl, ℕ, List, [], ◌∷◌, ◌++◌, length, Option, Some, None, option_map, slice_get, unwrap_or, codes}
use Rattle.source_tokens.specs.Lexemes.{lexeme_at}
use Rattle.source_tokens.specs.Scans.{scan, scan_behind}
use Rattle.source_tokens.specs.Terminals.{reserved, words}
use Rattle.source_tokens.specs.declared.token.Placed.{Placed}
use Rattle.source_tokens.specs.declared.token.Scan.{Scan}
use Rattle.syntax_judge.specs.Programs.{IsProgram, Begins, kinds_in}
use Rattle.syntax_judge.specs.Tables.{verdict_of, table_at}
use Rattle.syntax_judge.specs.declared.verdict.Verdict.{Verdict}
use Rattle.syntax_judge.specs.declared.verdict.Verdict.TheVariants as v

-- the text is a program's: all of it is read, and its tokens are a program
abbrev pub IsSource : List ℕ → Type 0
IsSource text = ((scan text).fault ≡ None) × IsProgram (kinds_in (scan text).tokens)

-- The first token with which no program can go on, while the tokens before it begin one. A lexical fault is such a
-- token. Where the tokens begin a program and are none, the fault is just behind the text.
pub data SyntaxFault (text : List ℕ) : ℕ → Type 0 where
  at_token : (before behind : List Placed) (token : Placed) → (scan text).tokens ≡ before ++ token ∷ behind → Begins (kinds_in before) → ¬ Begins (kinds_in (before ++ token ∷ [])) → SyntaxFault text token.at
  at_lexical : (place : ℕ) → (scan text).fault ≡ Some place → Begins (kinds_in (scan text).tokens) → SyntaxFault text place
  at_end : (scan text).fault ≡ None → Begins (kinds_in (scan text).tokens) → ¬ IsProgram (kinds_in (scan text).tokens) → SyntaxFault text (length text)

-- the place that a verdict on the tokens of a scan tells; the text ends here
abbrev pub place_told : ℕ → Scan → Verdict → Option ℕ
place_told end found v.Accepted = found.fault
place_told end found (v.FailsAt n) = option_map (λ (placed : Placed). placed.at) (slice_get found.tokens n)
place_told end found v.EndsTooSoon = Some (unwrap_or found.fault end)

-- the place of its fault, and none where it is a program's
abbrev pub fault_place : List ℕ → Option ℕ
fault_place text = place_told (length text) (scan text) (verdict_of (kinds_in (scan text).tokens))

-- at a token, at a lexical fault, just behind the text, and at no place
pub example_faults : (fault_place (codes "schema {} client c { print 1 < 2 < 4; }") ≡ Some 33) × (fault_place (codes "schema {} client ! client") ≡ Some 17) × (fault_place (codes "schema {}  ") ≡ Some 11) × (fault_place (codes "schema {} client c {}") ≡ None)
unfolding table_at scan_behind lexeme_at reserved words
example_faults = (refl, refl, refl, refl)

-- what stands behind a token with which no program goes on doesn't matter
pub example_first : fault_place (codes "schema client ! ") ≡ Some 7
unfolding table_at scan_behind lexeme_at reserved words
example_first = refl
