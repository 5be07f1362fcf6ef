-- The verdict on a text's tokens tells the place of its fault.
use Rattle.std.proofs.Common.{◌≡◌, ℕ, zero, suc, ◌+◌, ◌<◌, ◌≤◌, List, [], ◌∷◌, ◌++◌, length, take, Option, Some, None, refl, ap, sym, subst, ◌∙◌, append_assoc, length-append, arith}
use Rattle.std.specs.Prelude.{slice_get, option_map, unwrap_or, IfSome}
use Rattle.std.proofs.Math.Seq.{take-append_seam}
use Rattle.source_tokens.specs.Scans.{scan}
use Rattle.source_tokens.specs.declared.token.Placed.{Placed}
use Rattle.source_tokens.specs.declared.token.Scan.{Scan}
use Rattle.syntax_judge.proofs.Agreed.{front_begins, program_begins, one_verdict}
use Rattle.syntax_judge.proofs.Judged.{judged_right}
use Rattle.syntax_judge.specs.Tables.{verdict_of}
use Rattle.syntax_judge.proofs.Places.{lexical_within, token_within}
use Rattle.syntax_judge.proofs.Verdicts.{kinds_front, kinds_length}
use Rattle.syntax_judge.specs.Faults.{IsSource, SyntaxFault, at_token, at_lexical, at_end, place_told, fault_place}
use Rattle.syntax_judge.specs.Programs.{kinds_in, IsProgram, Begins, JudgeAnswers}
use Rattle.syntax_judge.specs.declared.verdict.Verdict.{Verdict}
use Rattle.syntax_judge.specs.declared.verdict.Verdict.TheVariants as v

-- the fault at a place, or a source
abbrev Told : List ℕ → Option ℕ → Type 0
Told text (Some place) = SyntaxFault text place
Told text None = IsSource text

-- what a verdict on its tokens tells
abbrev told : List ℕ → Verdict → Option ℕ
told text verdict = place_told (length text) (scan text) verdict

-- ---- what the verdict tells is right

accepted_told : (text : List ℕ) (fault : Option ℕ) → (scan text).fault ≡ fault → IsProgram (kinds_in (scan text).tokens) → Told text fault
accepted_told text (Some place) e h = at_lexical place e (program_begins (kinds_in (scan text).tokens) h)
accepted_told text None e h = (e, h)

short_told : (text : List ℕ) (fault : Option ℕ) → (scan text).fault ≡ fault → Begins (kinds_in (scan text).tokens) → ¬ IsProgram (kinds_in (scan text).tokens) → SyntaxFault text (unwrap_or fault (length text))
short_told text (Some place) e h g = at_lexical place e h
short_told text None e h g = at_end e h g

-- a token of a list, with what stands before and behind it
record Split (tokens : List Placed) (n : ℕ) : Type 0 where
  before : List Placed
  token : Placed
  behind : List Placed
  whole : tokens ≡ before ++ token ∷ behind
  first : take n tokens ≡ before
  second : take (n + 1) tokens ≡ before ++ token ∷ []
  found : slice_get tokens n ≡ Some token

split_more : (t : Placed) (tokens : List Placed) (n : ℕ) → Split tokens n → Split (t ∷ tokens) (suc n)
split_more t tokens n s =
    let one_more : suc n + 1 ≡ suc (n + 1) = omega arith in
    record {
      before = t ∷ s.before;
      token = s.token;
      behind = s.behind;
      whole = ap (λ ts. t ∷ ts) s.whole;
      first = ap (λ ts. t ∷ ts) s.first;
      second = ap (λ m. take m (t ∷ tokens)) one_more ∙ ap (λ ts. t ∷ ts) s.second;
      found = s.found;
    }

split : (tokens : List Placed) (n : ℕ) → n < length tokens → Split tokens n
split [] n h = absurd (omega arith)
split (t ∷ tokens) zero h = record { before = []; token = t; behind = tokens; whole = refl; first = refl; second = refl; found = refl }
split (t ∷ tokens) (suc n) h = split_more t tokens n (split tokens n (omega arith))

failed_told : (text : List ℕ) (n : ℕ) → JudgeAnswers (kinds_in (scan text).tokens) (v.FailsAt n) → Told text (told text (v.FailsAt n))
failed_told text n (below, begins, not) =
    let s = split (scan text).tokens n (subst (λ m. n < m) (kinds_length (scan text).tokens) below) in
    let first : take n (kinds_in (scan text).tokens) ≡ kinds_in s.before = sym (kinds_front (scan text).tokens n) ∙ ap kinds_in s.first in
    let second : take (n + 1) (kinds_in (scan text).tokens) ≡ kinds_in (s.before ++ s.token ∷ []) = sym (kinds_front (scan text).tokens (n + 1)) ∙ ap kinds_in s.second in
    subst (λ o. Told text (option_map (λ (placed : Placed). placed.at) o)) (sym s.found)
    (at_token s.before s.behind s.token s.whole (subst Begins first begins) (λ b. not (subst Begins (sym second) b)))

told_right : (text : List ℕ) (verdict : Verdict) → JudgeAnswers (kinds_in (scan text).tokens) verdict → Told text (told text verdict)
told_right text v.Accepted h = accepted_told text (scan text).fault refl h
told_right text (v.FailsAt n) h = failed_told text n h
told_right text v.EndsTooSoon h = short_told text (scan text).fault refl h.0 h.1

-- ---- there is no other

got_at : (before behind : List Placed) (token : Placed) (tokens : List Placed) → tokens ≡ before ++ token ∷ behind → slice_get tokens (length before) ≡ Some token
got_at [] behind token tokens e = ap (λ ts. slice_get ts 0) e
got_at (t ∷ before) behind token tokens e = ap (λ ts. slice_get ts (suc (length before))) e ∙ got_at before behind token (before ++ token ∷ behind) refl

split_fails : (before behind : List Placed) (token : Placed) (tokens : List Placed) → tokens ≡ before ++ token ∷ behind → Begins (kinds_in before) → ¬ Begins (kinds_in (before ++ token ∷ []))
    → JudgeAnswers (kinds_in tokens) (v.FailsAt (length before))
split_fails before behind token tokens e begins not =
    let more : length tokens ≡ length before + suc (length behind) = ap length e ∙ length-append before (token ∷ behind) in
    let below : length before < length tokens = omega arith in
    let first : kinds_in before ≡ take (length before) (kinds_in tokens) =
    ap kinds_in (sym (take-append_seam before (token ∷ behind)) ∙ ap (take (length before)) (sym e)) ∙ kinds_front tokens (length before) in
    let second : kinds_in (before ++ token ∷ []) ≡ take (length before + 1) (kinds_in tokens) =
    ap kinds_in (sym (take-append_seam (before ++ token ∷ []) behind) ∙ ap (take (length (before ++ token ∷ []))) (append_assoc before (token ∷ []) behind ∙ sym e) ∙ ap (λ n. take n tokens) (length-append before (token ∷ [])))
    ∙ kinds_front tokens (length before + 1) in
    (subst (λ m. length before < m) (sym (kinds_length tokens)) below, subst Begins first begins, λ b. not (subst Begins (sym second) b))

lexical_told : (text : List ℕ) (place : ℕ) (verdict : Verdict) → (scan text).fault ≡ Some place → Begins (kinds_in (scan text).tokens) → JudgeAnswers (kinds_in (scan text).tokens) verdict → told text verdict ≡ Some place
lexical_told text place v.Accepted e b h = e
lexical_told text place (v.FailsAt n) e b h = absurd (h.2 (front_begins (n + 1) (kinds_in (scan text).tokens) b))
lexical_told text place v.EndsTooSoon e b h = ap (λ o. Some (unwrap_or o (length text))) e

end_told : (text : List ℕ) (verdict : Verdict) → (scan text).fault ≡ None → Begins (kinds_in (scan text).tokens) → ¬ IsProgram (kinds_in (scan text).tokens) → JudgeAnswers (kinds_in (scan text).tokens) verdict → told text verdict ≡ Some (length text)
end_told text verdict e b p h =
    ap (told text) (one_verdict (kinds_in (scan text).tokens) verdict v.EndsTooSoon h (b, p)) ∙ ap (λ o. Some (unwrap_or o (length text))) e

told_fault : (text : List ℕ) (verdict : Verdict) (place : ℕ) → JudgeAnswers (kinds_in (scan text).tokens) verdict → SyntaxFault text place → told text verdict ≡ Some place
told_fault text verdict place h (at_token before behind token e begins not) =
    ap (told text) (one_verdict (kinds_in (scan text).tokens) verdict (v.FailsAt (length before)) h (split_fails before behind token (scan text).tokens e begins not))
    ∙ ap (option_map (λ (placed : Placed). placed.at)) (got_at before behind token (scan text).tokens e)
told_fault text verdict place h (at_lexical _ e b) = lexical_told text place verdict e b h
told_fault text verdict place h (at_end e b p) = end_told text verdict e b p h

told_source : (text : List ℕ) (verdict : Verdict) → JudgeAnswers (kinds_in (scan text).tokens) verdict → IsSource text → told text verdict ≡ None
told_source text verdict h (e, p) = ap (told text) (one_verdict (kinds_in (scan text).tokens) verdict v.Accepted h p) ∙ e

-- ---- together

fault_within : (text : List ℕ) (place : ℕ) → SyntaxFault text place → place ≤ length text
fault_within text place (at_token before behind token e begins not) = token_within text before behind token e
fault_within text place (at_lexical _ e b) = lexical_within text place e
fault_within text place (at_end e b p) = omega arith

-- what is said of the place that is told
pub record Exact (text : List ℕ) (fault : Option ℕ) : Type 0 where
  pub none : (fault ≡ None → IsSource text) × (IsSource text → fault ≡ None)
  pub place : (at : ℕ) → (fault ≡ Some at → SyntaxFault text at) × (SyntaxFault text at → fault ≡ Some at)
  pub within : IfSome fault (λ at. at ≤ length text)

told_within : (text : List ℕ) (place : Option ℕ) → Told text place → IfSome place (λ at. at ≤ length text)
told_within text (Some at) h = fault_within text at h
told_within text None h = tt

told_exact : (text : List ℕ) (verdict : Verdict) → JudgeAnswers (kinds_in (scan text).tokens) verdict → Exact text (told text verdict)
told_exact text verdict h = record {
  none = (λ e. subst (Told text) e (told_right text verdict h), told_source text verdict h);
  place = λ at. (λ e. subst (Told text) e (told_right text verdict h), told_fault text verdict at h);
  within = told_within text (told text verdict) (told_right text verdict h);
}

pub place_exact : (text : List ℕ) → Exact text (fault_place text)
place_exact text = told_exact text (verdict_of (kinds_in (scan text).tokens)) (judged_right (kinds_in (scan text).tokens))

pub found_exact : (text : List ℕ) (found : Scan) (tokens : List Placed) (verdict : Verdict) (place : Option ℕ) → found ≡ scan text → tokens ≡ found.tokens → JudgeAnswers (kinds_in tokens) verdict
    → place ≡ place_told (length text) found verdict → Exact text place
found_exact text found tokens verdict place e t h p =
    subst (Exact text) (sym (p ∙ ap (λ f. place_told (length text) f verdict) e))
    (told_exact text verdict (subst (λ ts. JudgeAnswers (kinds_in ts) verdict) (t ∙ ap (λ (f : Scan). f.tokens) e) h))
