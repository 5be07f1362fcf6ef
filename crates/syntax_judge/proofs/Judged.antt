-- The computed verdict is the verdict.
use Rattle.std.proofs.Common.{◌≡◌, suc, ◌+◌, Bool, true, false, if◌then◌else◌, List, [], ◌∷◌, ◌++◌, length, take, Option, Some, None, refl, ap, sym, subst, ◌∙◌, append_assoc, append-nil, length-append, arith}
use Rattle.std.specs.Prelude.{option_and_then}
use Rattle.std.proofs.Math.Seq.{take-append_seam}
use Rattle.syntax_judge.proofs.Agreed.{one_verdict}
use Rattle.syntax_judge.proofs.Ends.{advance_all}
use Rattle.syntax_judge.proofs.Lead.{accepted, ends_too_soon, fails_at}
use Rattle.syntax_judge.proofs.Moves.{all_more}
use Rattle.syntax_judge.specs.Programs.{start, Begins, JudgeAnswers}
use Rattle.syntax_judge.specs.Tables.{are_nullable, advance, verdict_from, verdict_of}
use Rattle.syntax_judge.specs.declared.kind.Kind.{Kind}
use Rattle.syntax_judge.specs.declared.symbol.Symbol.{Symbol}
use Rattle.syntax_judge.specs.declared.verdict.Verdict.{Verdict}
use Rattle.syntax_judge.specs.declared.verdict.Verdict.TheVariants as v

end_by : (ks : List Kind) (st : List Symbol) (b : Bool) → advance_all start ks ≡ Some st → are_nullable st ≡ b → JudgeAnswers ks (if b then v.Accepted else v.EndsTooSoon)
end_by ks st true h e = accepted ks st h e
end_by ks st false h e = ends_too_soon ks st h e

failed : (before : List Kind) (k : Kind) (ks : List Kind) (st : List Symbol) → advance_all start before ≡ Some st → advance st k ≡ None → JudgeAnswers (before ++ k ∷ ks) (v.FailsAt (length before))
failed before k ks st h e =
    let (begins, not) = fails_at before k st h e in
    let more : length (before ++ k ∷ ks) ≡ length before + suc (length ks) = length-append before (k ∷ ks) in
    let first : take (length before) (before ++ k ∷ ks) ≡ before = take-append_seam before (k ∷ ks) in
    let second : take (length before + 1) (before ++ k ∷ ks) ≡ before ++ k ∷ [] =
    ap (λ n. take n (before ++ k ∷ ks)) (sym (length-append before (k ∷ []))) ∙ ap (take (length (before ++ k ∷ []))) (sym (append_assoc before (k ∷ []) ks)) ∙ take-append_seam (before ++ k ∷ []) ks in
    (omega arith, subst Begins (sym first) begins, λ b. not (subst Begins second b))

step_by : (before : List Kind) (k : Kind) (ks : List Kind) (st : List Symbol) (o : Option (List Symbol)) → advance_all start before ≡ Some st → advance st k ≡ o
    → ((next : List Symbol) → advance_all start (before ++ k ∷ []) ≡ Some next → JudgeAnswers (before ++ k ∷ ks) (verdict_from (length before + 1) next ks))
    → JudgeAnswers (before ++ k ∷ ks) (elim o as (λ _. Verdict) [ Some next ↦ verdict_from (length before + 1) next ks | None ↦ v.FailsAt (length before) ])
step_by before k ks st (Some next) h e below = below next (all_more before start k ∙ ap (λ o. option_and_then (λ after. advance after k) o) h ∙ e)
step_by before k ks st None h e below = failed before k ks st h e

from_before : (ks before : List Kind) (st : List Symbol) → advance_all start before ≡ Some st → JudgeAnswers (before ++ ks) (verdict_from (length before) st ks)
from_before [] before st h = subst (λ us. JudgeAnswers us (verdict_from (length before) st [])) (sym (append-nil before)) (end_by before st (are_nullable st) h refl)
from_before (k ∷ ks) before st h =
    step_by before k ks st (advance st k) h refl
    (λ next e. subst (λ us. JudgeAnswers us (verdict_from (length before + 1) next ks)) (append_assoc before (k ∷ []) ks)
    (subst (λ n. JudgeAnswers ((before ++ k ∷ []) ++ ks) (verdict_from n next ks)) (length-append before (k ∷ [])) (from_before ks (before ++ k ∷ []) next e)))

pub judged_right : (ks : List Kind) → JudgeAnswers ks (verdict_of ks)
judged_right ks = from_before ks [] start refl

pub judged_is : (ks : List Kind) (verdict : Verdict) → JudgeAnswers ks verdict → verdict_of ks ≡ verdict
judged_is ks verdict h = one_verdict ks (verdict_of ks) verdict (judged_right ks) h
