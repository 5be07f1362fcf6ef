-- The verdicts, from what the judge's code knows.
use Rattle.std.proofs.Common.{◌≡◌, ℕ, zero, suc, map, ◌++◌, ◌+◌, ◌<◌, ◌≤◌, Bool, true, false, ◌&&◌, List, [], ◌∷◌, length, take, get_or, reverse, Some, refl, ap, sym, ◌∙◌, subst}
use Rattle.std.specs.Prelude.{option_and_then}
use Rattle.std.proofs.lemmas.List.{take_more, take_all, reverse-append, map-append}
use Rattle.std.proofs.lemmas.List.Folds.{list_all-append}
use Rattle.std.specs.List.{list_all}
use Rattle.source_tokens.specs.Scans.{tokens_of}
use Rattle.source_tokens.specs.declared.token.Placed.{Placed}
use Rattle.syntax_judge.specs.declared.kind.Kind.{Kind}
use Rattle.syntax_judge.specs.declared.symbol.Symbol.{Symbol}
use Rattle.syntax_judge.specs.declared.verdict.Verdict.TheVariants as v
use Rattle.syntax_judge.proofs.Lead.{accepted, ends_too_soon, fails_at}
use Rattle.syntax_judge.proofs.Moves.{all_more}
use Rattle.syntax_judge.proofs.Ends.{advance_all}
use Rattle.syntax_judge.specs.Programs.{kind_of, kinds_in, start, Begins, JudgeAnswers}
use Rattle.syntax_judge.specs.Tables.{advance, is_nullable, are_nullable, if_found}

both_ways : (a b : Bool) → (a && (b && true)) ≡ (b && a)
both_ways true true = refl
both_ways true false = refl
both_ways false true = refl
both_ways false false = refl

list_all-reverse : {A : Type 0} (test : A → Bool) (xs : List A) → list_all test (reverse xs) ≡ list_all test xs
list_all-reverse test [] = refl
list_all-reverse test (x ∷ xs) =
    ap (list_all test) (reverse-append (x ∷ []) xs) ∙ list_all-append test (reverse xs) (x ∷ []) ∙ both_ways (list_all test (reverse xs)) (test x)
    ∙ ap (λ b. test x && b) (list_all-reverse test xs)

kinds_more : (ts : List Placed) (i : ℕ) (d : Placed) → i < length ts → kinds_in (take (i + 1) ts) ≡ kinds_in (take i ts) ++ kind_of (get_or ts i d).token ∷ []
kinds_more ts i d below =
    ap kinds_in (take_more ts i d below) ∙ ap (map kind_of) (map-append (λ (placed : Placed). placed.token) (take i ts) (get_or ts i d ∷ []))
    ∙ map-append kind_of (tokens_of (take i ts)) ((get_or ts i d).token ∷ [])

pub kinds_front : (ts : List Placed) (i : ℕ) → kinds_in (take i ts) ≡ take i (kinds_in ts)
kinds_front [] zero = refl
kinds_front [] (suc i) = refl
kinds_front (t ∷ ts) zero = refl
kinds_front (t ∷ ts) (suc i) = ap (λ ks. kind_of t.token ∷ ks) (kinds_front ts i)

pub kinds_length : (ts : List Placed) → length (kinds_in ts) ≡ length ts
kinds_length [] = refl
kinds_length (t ∷ ts) = ap suc (kinds_length ts)

pub judged_more : (ts : List Placed) (i : ℕ) (d : Placed) (k : Kind) (st new : List Symbol) (found : Bool) → i < length ts → advance_all start (kinds_in (take i ts)) ≡ Some (reverse st)
    → k ≡ kind_of (get_or ts i d).token → advance (reverse st) k ≡ if_found found (reverse new) → found ≡ true → advance_all start (kinds_in (take (i + 1) ts)) ≡ Some (reverse new)
judged_more ts i d k st new found below h is step e =
    ap (advance_all start) (kinds_more ts i d below ∙ ap (λ k. kinds_in (take i ts) ++ k ∷ []) (sym is)) ∙ all_more (kinds_in (take i ts)) start k
    ∙ ap (λ o. option_and_then (λ after. advance after k) o) h ∙ step ∙ ap (λ b. if_found b (reverse new)) e

pub judged_fails : (ts : List Placed) (i : ℕ) (d : Placed) (k : Kind) (st new : List Symbol) (found : Bool) → i < length ts → advance_all start (kinds_in (take i ts)) ≡ Some (reverse st)
    → k ≡ kind_of (get_or ts i d).token → advance (reverse st) k ≡ if_found found (reverse new) → found ≡ false → JudgeAnswers (kinds_in ts) (v.FailsAt i)
judged_fails ts i d k st new found below h is step e =
    let (begins, not) = fails_at (kinds_in (take i ts)) k (reverse st) h (step ∙ ap (λ b. if_found b (reverse new)) e) in
    let with_it : take (i + 1) (kinds_in ts) ≡ kinds_in (take i ts) ++ k ∷ [] = sym (kinds_front ts (i + 1)) ∙ kinds_more ts i d below ∙ ap (λ k. kinds_in (take i ts) ++ k ∷ []) (sym is) in
    (subst (λ n. i < n) (sym (kinds_length ts)) below, subst Begins (kinds_front ts i) begins, λ b. not (subst Begins with_it b))

judged_whole : (ts : List Placed) (i : ℕ) (st : List Symbol) → length ts ≤ i → advance_all start (kinds_in (take i ts)) ≡ Some (reverse st) → advance_all start (kinds_in ts) ≡ Some (reverse st)
judged_whole ts i st past h = ap (λ us. advance_all start (kinds_in us)) (sym (take_all i ts past)) ∙ h

pub judged_all : (ts : List Placed) (i : ℕ) (st : List Symbol) (ends : Bool) → length ts ≤ i → advance_all start (kinds_in (take i ts)) ≡ Some (reverse st) → ends ≡ are_nullable st → ends ≡ true → JudgeAnswers (kinds_in ts) v.Accepted
judged_all ts i st ends past h e true_it = accepted (kinds_in ts) (reverse st) (judged_whole ts i st past h) (list_all-reverse is_nullable st ∙ sym e ∙ true_it)

pub judged_short : (ts : List Placed) (i : ℕ) (st : List Symbol) (ends : Bool) → length ts ≤ i → advance_all start (kinds_in (take i ts)) ≡ Some (reverse st) → ends ≡ are_nullable st → ends ≡ false → JudgeAnswers (kinds_in ts) v.EndsTooSoon
judged_short ts i st ends past h e false_it = ends_too_soon (kinds_in ts) (reverse st) (judged_whole ts i st past h) (list_all-reverse is_nullable st ∙ sym e ∙ false_it)
