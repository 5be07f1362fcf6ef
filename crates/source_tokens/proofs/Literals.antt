-- Reading a literal, one byte after another.
use Rattle.std.proofs.Common.{◌≡◌, ℕ, ◌≤◌, ◌<◌, ◌+◌, Bool, true, false, List, [], ◌∷◌, ◌++◌, length, drop, slice_index, refl, arith, ap, sym, ◌∙◌, append_assoc, append-nil, Option, Some, None, option_map}
use Rattle.std.proofs.lemmas.List.{drop_more, drop_all}
use Rattle.source_tokens.specs.Lexemes.{literal_behind, judged, with_byte, with_backslash}
use Rattle.source_tokens.specs.declared.lexeme.InLiteral.{InLiteral}
use Rattle.source_tokens.specs.declared.lexeme.InLiteral.TheVariants as q
use Rattle.source_tokens.specs.declared.lexeme.Literal.{Literal}

-- what was read before in front of a literal
abbrev pub extended : List ℕ → ℕ → Option Literal → Option Literal
extended found n o = option_map (λ l. record { bytes = found ++ l.bytes; length = n + l.length }) o

-- the literal from a place on, with what was read before it, is that of the whole
abbrev pub ReadsOn : List ℕ → ℕ → Bool → List ℕ → Type 0
ReadsOn text at escaped found = extended found at (literal_behind escaped (drop at text)) ≡ literal_behind false text

abbrev pub by_byte : ℕ → List ℕ → InLiteral → Option Literal
by_byte b bytes q.Plain = option_map (with_byte b) (literal_behind false bytes)
by_byte b bytes q.Backslash = option_map with_backslash (literal_behind true bytes)
by_byte b bytes q.Close = Some (record { bytes = []; length = 1 })
by_byte b bytes q.Bad = None

abbrev as_byte : ℕ → List ℕ → InLiteral → Option Literal
as_byte b bytes w = elim w as (λ _. Option Literal) [
  | q.Plain ↦ option_map (with_byte b) (literal_behind false bytes)
  | q.Backslash ↦ option_map with_backslash (literal_behind true bytes)
  | q.Close ↦ Some (record { bytes = []; length = 1 })
  | q.Bad ↦ None
]

same_byte : (b : ℕ) (bytes : List ℕ) (w : InLiteral) → as_byte b bytes w ≡ by_byte b bytes w
same_byte b bytes q.Plain = refl
same_byte b bytes q.Backslash = refl
same_byte b bytes q.Close = refl
same_byte b bytes q.Bad = refl

pub of_byte : (escaped : Bool) (b : ℕ) (bytes : List ℕ) (w : InLiteral) → w ≡ judged escaped b → literal_behind escaped (b ∷ bytes) ≡ by_byte b bytes w
unfolding literal_behind
of_byte escaped b bytes w h = ap (as_byte b bytes) (sym h) ∙ same_byte b bytes w

-- the literal of the whole, told by the next byte
by_next : (text : List ℕ) (at : ℕ) (escaped : Bool) (found : List ℕ) (b : ℕ) (w : InLiteral) → ReadsOn text at escaped found → at < length text → b ≡ slice_index text at → w ≡ judged escaped b
    → extended found at (by_byte b (drop (at + 1) text) w) ≡ literal_behind false text
by_next text at escaped found b w before some is h =
    ap (extended found at) (sym (of_byte escaped b (drop (at + 1) text) w h))
    ∙ ap (λ x. extended found at (literal_behind escaped (x ∷ drop (at + 1) text))) is
    ∙ ap (λ bytes. extended found at (literal_behind escaped bytes)) (sym (drop_more text at 0 some)) ∙ before

plain_on : (found : List ℕ) (at b : ℕ) (o : Option Literal) → extended (found ++ b ∷ []) (at + 1) o ≡ extended found at (option_map (with_byte b) o)
plain_on found at b None = refl
plain_on found at b (Some l) = ap (λ f. Some (record { bytes = f; length = at + 1 + l.length })) (append_assoc found (b ∷ []) l.bytes) ∙ ap (λ n. Some (record { bytes = found ++ b ∷ l.bytes; length = n })) (omega arith)

backslash_on : (found : List ℕ) (at : ℕ) (o : Option Literal) → extended found (at + 1) o ≡ extended found at (option_map with_backslash o)
backslash_on found at None = refl
backslash_on found at (Some l) = ap (λ n. Some (record { bytes = found ++ l.bytes; length = n })) (omega arith)

pub reads_plain : (text : List ℕ) (at : ℕ) (escaped : Bool) (found now : List ℕ) (b : ℕ) → ReadsOn text at escaped found → at < length text → b ≡ slice_index text at → q.Plain ≡ judged escaped b
    → now ≡ found ++ b ∷ [] → ReadsOn text (at + 1) false now
reads_plain text at escaped found now b before some is h longer =
    ap (λ f. extended f (at + 1) (literal_behind false (drop (at + 1) text))) longer ∙ plain_on found at b (literal_behind false (drop (at + 1) text))
    ∙ by_next text at escaped found b q.Plain before some is h

pub reads_backslash : (text : List ℕ) (at : ℕ) (escaped : Bool) (found : List ℕ) (b : ℕ) → ReadsOn text at escaped found → at < length text → b ≡ slice_index text at → q.Backslash ≡ judged escaped b
    → ReadsOn text (at + 1) true found
reads_backslash text at escaped found b before some is h =
    backslash_on found at (literal_behind true (drop (at + 1) text)) ∙ by_next text at escaped found b q.Backslash before some is h

pub reads_close : (text : List ℕ) (at : ℕ) (escaped : Bool) (found : List ℕ) (b : ℕ) → ReadsOn text at escaped found → at < length text → b ≡ slice_index text at → q.Close ≡ judged escaped b
    → Some (record { bytes = found; length = at + 1 }) ≡ literal_behind false text
reads_close text at escaped found b before some is h =
    ap (λ f. Some (record { bytes = f; length = at + 1 })) (sym (append-nil found)) ∙ by_next text at escaped found b q.Close before some is h

pub reads_bad : (text : List ℕ) (at : ℕ) (escaped : Bool) (found : List ℕ) (b : ℕ) → ReadsOn text at escaped found → at < length text → b ≡ slice_index text at → q.Bad ≡ judged escaped b
    → None ≡ literal_behind false text
reads_bad text at escaped found b before some is h = by_next text at escaped found b q.Bad before some is h

pub reads_out : (text : List ℕ) (at : ℕ) (escaped : Bool) (found : List ℕ) → ReadsOn text at escaped found → length text ≤ at → None ≡ literal_behind false text
unfolding literal_behind
reads_out text at escaped found before all = ap (λ bytes. extended found at (literal_behind escaped bytes)) (sym (drop_all at text all)) ∙ before
