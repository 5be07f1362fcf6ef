-- The scan of a text, one lexeme after another.
use Rattle.std.proofs.Common.{◌≡◌, ℕ, zero, suc, ◌≤◌, ◌+◌, ◌-◌, Bool, true, false, cond, List, [], ◌∷◌, ◌++◌, length, take, drop, refl, ap, sym, ◌∙◌, arith, append_assoc, append-nil, length-drop, Option, Some, None}
use Rattle.std.specs.Prelude.{filter}
use Rattle.std.proofs.lemmas.List.{take_all, length-take}
use Rattle.std.proofs.lemmas.List.Sums.{length-filter, count_by-le-length}
use Rattle.source_tokens.specs.Lexemes.{lexeme_at}
use Rattle.source_tokens.specs.Scans.{placed, scan_behind, scan, with_token, line_behind}
use Rattle.source_tokens.specs.Positions.{is_feed, feeds}
use Rattle.source_tokens.specs.declared.lexeme.Lexeme.{Lexeme}
use Rattle.source_tokens.specs.declared.token.Placed.{Placed}
use Rattle.source_tokens.specs.declared.token.Scan.{Scan}
use Rattle.source_tokens.specs.declared.token.Token.{Token}

-- tokens in front of a scan
abbrev pub joined : List Placed → Scan → Scan
joined found more = record { tokens = found ++ more.tokens; fault = more.fault }

-- what is found from a place of a line on, with the tokens before it
pub record ScansOn (text rest : List ℕ) (found : List Placed) (line : ℕ) : Type 0 where
  pub shorter : length rest ≤ length text
  pub counted : line ≤ length text - length rest + 1
  pub same : joined found (scan_behind (length text - length rest) line 0 rest) ≡ scan text

few_feeds : (n : ℕ) (bytes : List ℕ) → feeds (take n bytes) ≤ n
few_feeds n bytes = omega (arith, length-filter is_feed (take n bytes), count_by-le-length is_feed (take n bytes), length-take n bytes)

line_by : (t : Bool) (b line : ℕ) (bytes : List ℕ) → (cond t (line + 1) line) + feeds bytes ≡ line + length (cond t (b ∷ filter is_feed bytes) (filter is_feed bytes))
line_by true b line bytes = omega arith
line_by false b line bytes = refl

-- the line of what stands behind some bytes
line_on : (b line : ℕ) (bytes : List ℕ) → line_behind b line + feeds bytes ≡ line + feeds (b ∷ bytes)
line_on b line bytes = line_by (is_feed b) b line bytes

-- the scan behind some bytes is that of what is left
behind_drop : (at line n : ℕ) (text : List ℕ) → n ≤ length text → scan_behind at line n text ≡ scan_behind (at + n) (line + feeds (take n text)) 0 (drop n text)
unfolding scan_behind
behind_drop at line zero text h = ap (λ k. scan_behind k line 0 text) (omega arith) ∙ ap (λ k. scan_behind (at + 0) k 0 text) (omega arith)
behind_drop at line (suc n) [] h = absurd (omega arith)
behind_drop at line (suc n) (b ∷ bytes) h =
    behind_drop (at + 1) (line_behind b line) n bytes (omega arith)
    ∙ ap (λ k. scan_behind k (line_behind b line + feeds (take n bytes)) 0 (drop n bytes)) (omega arith)
    ∙ ap (λ k. scan_behind (at + suc n) k 0 (drop n bytes)) (line_on b line (take n bytes))

abbrev pub by_lexeme : ℕ → ℕ → ℕ → List ℕ → Option Lexeme → Scan
by_lexeme at line b bytes None = record { tokens = []; fault = Some at }
by_lexeme at line b bytes (Some l) = with_token at line l.token (scan_behind (at + 1) (line_behind b line) (l.length - 1) bytes)

abbrev as_scan : ℕ → ℕ → ℕ → List ℕ → Option Lexeme → Scan
as_scan at line b bytes o = elim o as (λ _. Scan) [ None ↦ record { tokens = []; fault = Some at } | Some l ↦ with_token at line l.token (scan_behind (at + 1) (line_behind b line) (l.length - 1) bytes) ]

same_scan : (at line b : ℕ) (bytes : List ℕ) (o : Option Lexeme) → as_scan at line b bytes o ≡ by_lexeme at line b bytes o
same_scan at line b bytes None = refl
same_scan at line b bytes (Some l) = refl

pub of_lexeme : (at line b : ℕ) (bytes : List ℕ) (o : Option Lexeme) → lexeme_at (b ∷ bytes) ≡ o → scan_behind at line 0 (b ∷ bytes) ≡ by_lexeme at line b bytes o
unfolding scan_behind
of_lexeme at line b bytes o h = ap (as_scan at line b bytes) h ∙ same_scan at line b bytes o

pub after : (at line l b : ℕ) (bytes : List ℕ) → 1 ≤ l → l ≤ length (b ∷ bytes)
    → scan_behind (at + 1) (line_behind b line) (l - 1) bytes ≡ scan_behind (at + l) (line + feeds (take l (b ∷ bytes))) 0 (drop l (b ∷ bytes))
after at line zero b bytes h fits = absurd (omega arith)
after at line (suc l) b bytes h fits =
    let e : suc l - 1 ≡ l = omega arith in
    ap (λ n. scan_behind (at + 1) (line_behind b line) n bytes) e ∙ behind_drop (at + 1) (line_behind b line) l bytes (omega arith)
    ∙ ap (λ k. scan_behind k (line_behind b line + feeds (take l bytes)) 0 (drop l bytes)) (omega arith)
    ∙ ap (λ k. scan_behind (at + suc l) k 0 (drop l bytes)) (line_on b line (take l bytes))

abbrev alone : Scan
alone = record { tokens = []; fault = None }

join_by : (found : List Placed) (at line : ℕ) (token : Option Token) (more : Scan)
    → joined found (with_token at line token more) ≡ joined (found ++ (with_token at line token alone).tokens) more
join_by found at line None more = ap (λ f. joined f more) (sym (append-nil found))
join_by found at line (Some t) more = ap (λ tokens. record { tokens = tokens; fault = more.fault }) (sym (append_assoc found (placed t at line ∷ []) more.tokens))

-- where nothing begins the scan ends at a fault
pub no_more : (text rest : List ℕ) (found : List Placed) (line : ℕ) → 1 ≤ length rest → lexeme_at rest ≡ None → ScansOn text rest found line
    → record { tokens = found; fault = Some (length text - length rest) } ≡ scan text
no_more text [] found line some h before = absurd (omega arith)
no_more text (b ∷ bytes) found line some h before =
    ap (λ f. record { tokens = f; fault = Some (length text - length (b ∷ bytes)) }) (sym (append-nil found))
    ∙ ap (joined found) (sym (of_lexeme (length text - length (b ∷ bytes)) line b bytes None h)) ∙ before.same

pub at_end : (text rest : List ℕ) (found : List Placed) (line : ℕ) → length rest ≡ 0 → ScansOn text rest found line → record { tokens = found; fault = None } ≡ scan text
unfolding scan_behind
at_end text [] found line h before = ap (λ f. record { tokens = f; fault = None }) (sym (append-nil found)) ∙ before.same
at_end text (b ∷ bytes) found line h before = absurd (omega arith)

-- the tokens so far and those of the rest, after one lexeme more
pub goes_on : (text rest later : List ℕ) (found now : List Placed) (line below : ℕ) (l : Lexeme) → 1 ≤ length rest → lexeme_at rest ≡ Some l → 1 ≤ l.length → l.length ≤ length rest
    → now ≡ found ++ (with_token (length text - length rest) line l.token alone).tokens → later ≡ drop l.length rest → below ≡ line + feeds (take l.length rest)
    → ScansOn text rest found line → ScansOn text later now below
goes_on text [] later found now line below l some h long fits is left feeds_are before = absurd (omega arith)
goes_on text (b ∷ bytes) later found now line below l some h long fits is left feeds_are before =
    let at = length text - length (b ∷ bytes) in
    let shorter : length later ≡ length (b ∷ bytes) - l.length = ap length left ∙ length-drop l.length (b ∷ bytes) in
    let place : length text - length later ≡ at + l.length = omega (arith, shorter, before.shorter, fits) in
    let few : feeds (take l.length (b ∷ bytes)) ≤ l.length = few_feeds l.length (b ∷ bytes) in
    record {
      shorter = omega (arith, shorter, before.shorter);
      counted = omega (arith, place, before.counted, few, feeds_are);
      same =
          ap (λ f. joined f (scan_behind (length text - length later) below 0 later)) is
          ∙ ap (λ k. joined (found ++ (with_token at line l.token alone).tokens) (scan_behind k below 0 later)) place
          ∙ ap (λ k. joined (found ++ (with_token at line l.token alone).tokens) (scan_behind (at + l.length) k 0 later)) feeds_are
          ∙ ap (λ x. joined (found ++ (with_token at line l.token alone).tokens) (scan_behind (at + l.length) (line + feeds (take l.length (b ∷ bytes))) 0 x)) left
          ∙ sym (join_by found at line l.token (scan_behind (at + l.length) (line + feeds (take l.length (b ∷ bytes))) 0 (drop l.length (b ∷ bytes))))
          ∙ ap (λ s. joined found (with_token at line l.token s)) (sym (after at line l.length b bytes long fits))
          ∙ ap (joined found) (sym (of_lexeme at line b bytes (Some l) h))
          ∙ before.same;
    }

-- the rest of a text, as a slice has it
pub rest_of : (at : ℕ) (text : List ℕ) → take (length text - at) (drop at text) ≡ drop at text
rest_of at text = take_all _ _ (omega (arith, length-drop at text))
