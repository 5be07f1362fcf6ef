-- Tokens and the lexical fault stand within a text.
use Rattle.std.proofs.Common.{◌≡◌, ℕ, zero, suc, ◌+◌, ◌-◌, ◌≤◌, List, [], ◌∷◌, ◌++◌, length, Option, Some, None, refl, subst, arith}
use Rattle.source_tokens.specs.Lexemes.{lexeme_at}
use Rattle.source_tokens.specs.Scans.{scan, scan_behind, with_token, line_behind}
use Rattle.source_tokens.specs.declared.lexeme.Lexeme.{Lexeme}
use Rattle.source_tokens.specs.declared.token.Placed.{Placed}
use Rattle.source_tokens.specs.declared.token.Scan.{Scan}
use Rattle.source_tokens.specs.declared.token.Token.{Token}
use Rattle.syntax_judge.proofs.Truth.{some_one, none_some}

abbrev Within : ℕ → List Placed → Type 0
Within end [] = Unit {0}
Within end (token ∷ tokens) = (token.at ≤ end) × Within end tokens

abbrev FaultWithin : ℕ → Option ℕ → Type 0
FaultWithin end None = Unit {0}
FaultWithin end (Some place) = place ≤ end

abbrev ScanWithin : ℕ → Scan → Type 0
ScanWithin end found = Within end found.tokens × FaultWithin end found.fault

with_within : (end at line : ℕ) (token : Option Token) (more : Scan) → at ≤ end → ScanWithin end more → ScanWithin end (with_token at line token more)
with_within end at line None more h w = w
with_within end at line (Some token) more h w = ((h, w.0), w.1)

lexeme_within : (end at line b : ℕ) (bytes : List ℕ) (o : Option Lexeme) → at ≤ end → ((skip : ℕ) → ScanWithin end (scan_behind (at + 1) (line_behind b line) skip bytes))
    → ScanWithin end (elim o as (λ _. Scan) [ None ↦ record { tokens = []; fault = Some at } | Some l ↦ with_token at line l.token (scan_behind (at + 1) (line_behind b line) (l.length - 1) bytes) ])
lexeme_within end at line b bytes None h below = (tt, h)
lexeme_within end at line b bytes (Some l) h below = with_within end at line l.token (scan_behind (at + 1) (line_behind b line) (l.length - 1) bytes) h (below (l.length - 1))

behind_within : (bytes : List ℕ) (end at line skip : ℕ) → at + length bytes ≤ end → ScanWithin end (scan_behind at line skip bytes)
unfolding scan_behind
behind_within [] end at line skip h = (tt, tt)
behind_within (b ∷ bytes) end at line (suc skip) h = behind_within bytes end (at + 1) (line_behind b line) skip (omega arith)
behind_within (b ∷ bytes) end at line zero h =
    lexeme_within end at line b bytes (lexeme_at (b ∷ bytes)) (omega arith) (λ skip. behind_within bytes end (at + 1) (line_behind b line) skip (omega arith))

scan_within : (text : List ℕ) → ScanWithin (length text) (scan text)
scan_within text = behind_within text (length text) 0 1 0 (omega arith)

fault_by : (end place : ℕ) (o : Option ℕ) → FaultWithin end o → o ≡ Some place → place ≤ end
fault_by end place (Some at) w e = subst (λ n. n ≤ end) (some_one at place e) w
fault_by end place None w e = none_some place e

pub lexical_within : (text : List ℕ) (place : ℕ) → (scan text).fault ≡ Some place → place ≤ length text
lexical_within text place e = fault_by (length text) place (scan text).fault (scan_within text).1 e

split_within : (end : ℕ) (before behind : List Placed) (token : Placed) (tokens : List Placed) → tokens ≡ before ++ token ∷ behind → Within end tokens → token.at ≤ end
split_within end [] behind token tokens e w = (subst (Within end) e w).0
split_within end (t ∷ before) behind token tokens e w = split_within end before behind token (before ++ token ∷ behind) refl (subst (Within end) e w).1

pub token_within : (text : List ℕ) (before behind : List Placed) (token : Placed) → (scan text).tokens ≡ before ++ token ∷ behind → token.at ≤ length text
token_within text before behind token e = split_within (length text) before behind token (scan text).tokens e (scan_within text).0
