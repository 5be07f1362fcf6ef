-- A text has one verdict.
use Rattle.std.proofs.Common.{◌≡◌, ℕ, ◌+◌, ◌<◌, ◌≤◌, List, [], ◌++◌, take, drop, refl, ap, sym, subst, ◌∙◌, append_assoc, append-nil, arith}
use Rattle.std.proofs.lemmas.List.{take-append-drop, take-take}
use Rattle.syntax_judge.specs.declared.kind.Kind.{Kind}
use Rattle.syntax_judge.specs.declared.verdict.Verdict.{Verdict}
use Rattle.syntax_judge.specs.declared.verdict.Verdict.TheVariants as v
use Rattle.syntax_judge.specs.Programs.{Derives, start, IsProgram, Begins, JudgeAnswers}

-- a front of what begins a program begins one
pub front_begins : (n : ℕ) (ts : List Kind) → Begins ts → Begins (take n ts)
front_begins n ts (more, d) =
    (drop n ts ++ more, subst (Derives start) (ap (λ us. us ++ more) (sym (take-append-drop n ts)) ∙ append_assoc (take n ts) (drop n ts) more) d)

pub program_begins : (ts : List Kind) → IsProgram ts → Begins ts
program_begins ts d = ([], subst (Derives start) (sym (append-nil ts)) d)

earlier : (ts : List Kind) (n m : ℕ) → n < m → Begins (take m ts) → Begins (take (n + 1) ts)
earlier ts n m below b = let order : n + 1 ≤ m = omega arith in subst Begins (take-take (n + 1) m ts order) (front_begins (n + 1) (take m ts) b)

one_place : (ts : List Kind) (n m : ℕ) → Begins (take n ts) → (Begins (take (n + 1) ts) → ⊥) → Begins (take m ts) → (Begins (take (m + 1) ts) → ⊥) → n ≡ m
one_place ts n m a no_a b no_b =
    let not_below : n < m → ⊥ = λ h. no_a (earlier ts n m h b) in
    let not_above : m < n → ⊥ = λ h. no_b (earlier ts m n h a) in
    omega arith

pub one_verdict : (ts : List Kind) (a b : Verdict) → JudgeAnswers ts a → JudgeAnswers ts b → a ≡ b
one_verdict ts v.Accepted v.Accepted h g = refl
one_verdict ts v.Accepted (v.FailsAt n) h g = absurd (g.2 (front_begins (n + 1) ts (program_begins ts h)))
one_verdict ts v.Accepted v.EndsTooSoon h g = absurd (g.1 h)
one_verdict ts (v.FailsAt n) v.Accepted h g = absurd (h.2 (front_begins (n + 1) ts (program_begins ts g)))
one_verdict ts (v.FailsAt n) (v.FailsAt m) h g = ap v.FailsAt (one_place ts n m h.1 h.2 g.1 g.2)
one_verdict ts (v.FailsAt n) v.EndsTooSoon h g = absurd (h.2 (front_begins (n + 1) ts g.0))
one_verdict ts v.EndsTooSoon v.Accepted h g = absurd (h.1 g)
one_verdict ts v.EndsTooSoon (v.FailsAt n) h g = absurd (g.2 (front_begins (n + 1) ts h.0))
one_verdict ts v.EndsTooSoon v.EndsTooSoon h g = refl
