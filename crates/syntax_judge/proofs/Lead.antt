-- Some tokens of a derivation, and its end.
use Rattle.std.proofs.Common.{◌≡◌, Bool, true, false, List, [], ◌∷◌, ◌++◌, Option, Some, None, refl, ap, sym, subst, ◌∙◌, append_assoc, append-nil}
use Rattle.std.specs.Prelude.{option_and_then}
use Rattle.std.specs.List.{flat_map}
use Rattle.syntax_judge.specs.declared.kind.Kind.{Kind}
use Rattle.syntax_judge.specs.declared.symbol.Part.{Part}
use Rattle.syntax_judge.specs.declared.symbol.Part.TheVariants as p
use Rattle.syntax_judge.specs.declared.symbol.Symbol.{Symbol}
use Rattle.syntax_judge.specs.declared.symbol.Symbol.TheVariants as s
use Rattle.syntax_judge.specs.declared.verdict.Verdict.TheVariants as v
use Rattle.syntax_judge.proofs.Truth.{never, both, empty_is, some_one, none_some}
use Rattle.syntax_judge.proofs.Step.{stepped, derives_back, fine_after}
use Rattle.syntax_judge.proofs.Checks.{fine}
use Rattle.syntax_judge.proofs.Ends.{advance_all, finish}
use Rattle.syntax_judge.specs.Grammar.{productions}
use Rattle.syntax_judge.specs.Programs.{Derives, nothing, takes, becomes, start, Begins, JudgeAnswers}
use Rattle.syntax_judge.specs.Tables.{is_nullable, advance, table_at, are_nullable}
use Rattle.syntax_judge.specs.declared.symbol.Symbol.TheVariants.{Open}

-- what a stack of empty parts stands for
pub empty_derives : (st : List Symbol) → are_nullable st ≡ true → Derives st []
empty_derives [] h = nothing
empty_derives (s.Token k ∷ st) h = never h
empty_derives (s.Open q ∷ st) h =
    let parts = both (is_nullable (s.Open q)) (are_nullable st) h in
    becomes q [] st [] (empty_is (productions q) parts.0) (empty_derives st parts.1)

-- ---- some tokens

one_back : (k : Kind) (st after : List Symbol) (us ts : List Kind) (o : Option (List Symbol)) → advance st k ≡ o → option_and_then (λ next. advance_all next us) o ≡ Some after
    → ((next : List Symbol) → advance_all next us ≡ Some after → Derives next (us ++ ts)) → Derives st (k ∷ (us ++ ts))
one_back k st after us ts (Some next) e h below = derives_back st k next (us ++ ts) e (below next h)
one_back k st after us ts None e h below = none_some after h

pub all_back : (us : List Kind) (st after : List Symbol) (ts : List Kind) → advance_all st us ≡ Some after → Derives after ts → Derives st (us ++ ts)
all_back [] st after ts h d = subst (λ u. Derives u ts) (sym (some_one st after h)) d
all_back (k ∷ us) st after ts h d = one_back k st after us ts (advance st k) refl h (λ next e. all_back us next after ts e d)

pub all_on : (us : List Kind) (st after : List Symbol) (ts : List Kind) → fine st ≡ true → advance_all st us ≡ Some after → Derives st (us ++ ts) → Derives after ts × (fine after ≡ true)
all_on [] st after ts f h d = (subst (λ u. Derives u ts) (some_one st after h) d, subst (λ u. fine u ≡ true) (some_one st after h) f)
all_on (k ∷ us) st after ts f h d =
    let (next, e, rest) = stepped st (k ∷ (us ++ ts)) d f in
    all_on us next after ts (fine_after st k next e f) (sym (ap (λ o. option_and_then (λ next. advance_all next us) o) e) ∙ h) rest

-- ---- an end for each stack

pub derives_both : (a b : List Symbol) (us ts : List Kind) → Derives a us → Derives b ts → Derives (a ++ b) (us ++ ts)
derives_both a b us ts nothing e = e
derives_both a b us ts (takes k st rest d) e = takes k (st ++ b) (rest ++ ts) (derives_both st b rest ts d e)
derives_both a b us ts (becomes q way st rest i d) e =
    becomes q way (st ++ b) (rest ++ ts) i (subst (λ u. Derives u (rest ++ ts)) (append_assoc way st b) (derives_both (way ++ st) b rest ts d e))

abbrev pub leaves_empty : List Symbol → List Kind → Bool
leaves_empty st ts = elim (advance_all st ts) [ Some after ↦ are_nullable after | None ↦ false ]

finishes_part : (q : Part) → leaves_empty (Open q ∷ []) (finish (Open q)) ≡ true
unfolding table_at
finishes_part p.Program = refl
finishes_part _ = refl

derives_by : (st : List Symbol) (us : List Kind) (o : Option (List Symbol)) → advance_all st us ≡ o → elim o as (λ _. Bool) [ Some after ↦ are_nullable after | None ↦ false ] ≡ true → Derives st us
derives_by st us (Some after) e h = subst (λ ts. Derives st ts) (append-nil us) (all_back us st after [] e (empty_derives after h))
derives_by st us None e h = never h

-- tokens that leave an empty stack, by computing
pub computed : (st : List Symbol) (us : List Kind) → leaves_empty st us ≡ true → Derives st us
computed st us h = derives_by st us (advance_all st us) refl h

finishes : (x : Symbol) → Derives (x ∷ []) (finish x)
finishes (s.Token k) = takes k [] [] nothing
finishes (s.Open q) = computed (s.Open q ∷ []) (finish (s.Open q)) (finishes_part q)

pub finishes_all : (st : List Symbol) → Derives st (flat_map finish st)
finishes_all [] = nothing
finishes_all (x ∷ st) = derives_both (x ∷ []) st (finish x) (flat_map finish st) (finishes x) (finishes_all st)

-- ---- the verdicts

pub start_fine : fine start ≡ true
unfolding table_at
start_fine = refl

pub accepted : (ts : List Kind) (after : List Symbol) → advance_all start ts ≡ Some after → are_nullable after ≡ true → JudgeAnswers ts v.Accepted
accepted ts after h e = subst (λ us. Derives start us) (append-nil ts) (all_back ts start after [] h (empty_derives after e))

pub ends_too_soon : (ts : List Kind) (after : List Symbol) → advance_all start ts ≡ Some after → are_nullable after ≡ false → JudgeAnswers ts v.EndsTooSoon
ends_too_soon ts after h e = (
  (flat_map finish after, all_back ts start after (flat_map finish after) h (finishes_all after)),
  λ d. let on = all_on ts start after [] start_fine h (subst (λ us. Derives start us) (sym (append-nil ts)) d) in never (sym e ∙ stepped after [] on.0 on.1),
)

pub fails_at : (before : List Kind) (k : Kind) (after : List Symbol) → advance_all start before ≡ Some after → advance after k ≡ None → Begins before × (Begins (before ++ k ∷ []) → ⊥)
fails_at before k after h e = (
  (flat_map finish after, all_back before start after (flat_map finish after) h (finishes_all after)),
  λ (more, d). let on = all_on before start after (k ∷ more) start_fine h (subst (λ us. Derives start us) (append_assoc before (k ∷ []) more) d) in
      let (next, f, rest) = stepped after (k ∷ more) on.0 on.1 in none_some next (sym e ∙ f),
)
