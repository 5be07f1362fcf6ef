-- Tests that decide the definitions on a diagram that computes.
use Rattle.std.proofs.Common.{◌≡◌, ℕ, zero, suc, ◌<◌, ◌≤◌, Bool, true, false, cond, List, [], ◌∷◌, ◌++◌, length, sym, ap, subst, ◌∙◌, inl, inr, arith}
use Rattle.std.specs.Prelude.{◌&&◌, ◌==◌, IsTrue}
use Rattle.std.proofs.lemmas.Bool.{and_parts, and_left, eqb-true, cases_lt, false≢true}
use Rattle.cloud_base.specs.declared.update.Update.{Update}
use Rattle.cloud_base.specs.declared.update.Query.{Query}
use Rattle.cloud_base.specs.declared.update.Answer.{Answer}
use Rattle.revision_diagram.specs.declared.step.Step.{Step}
use Rattle.revision_diagram.specs.declared.step.Step.TheVariants.{Fork, Join, Do, Ask, Say, Mark}
use Rattle.revision_diagram.specs.Right.{log, Right, AnsweredRight}
use Rattle.revision_diagram.specs.Diagram.{Diagram, diagram, EachFrom, EachStep, PrefixesFrom}
use Rattle.revision_diagram.specs.Once.{times_on, is_do, follows_seen, AllStandOnce, Once}
use Rattle.revision_diagram.proofs.Steps.{diagram-places}
use Rattle.revision_diagram.proofs.Range.{InRange, in_range}

-- the test at each step, told the steps before it
abbrev pub each_from : (List Step → Step → Bool) → List Step → List Step → Bool
each_from test front [] = true
each_from test front (s ∷ rest) = test front s && each_from test (front ++ s ∷ []) rest

pub each_from_passes : (test : List Step → Step → Bool) (front steps : List Step) → IsTrue (each_from test front steps) → EachFrom (λ f s. IsTrue (test f s)) front steps
each_from_passes test front [] h = tt
each_from_passes test front (s ∷ rest) h =
    let both = and_parts (test front s) (each_from test (front ++ s ∷ []) rest) h in
    (both.0, each_from_passes test (front ++ s ∷ []) rest both.1)

pub each_step_passes : (test : List Step → Step → Bool) (steps : List Step) → IsTrue (each_from test [] steps) → EachStep (λ f s. IsTrue (test f s)) steps
each_step_passes test steps h = each_from_passes test [] steps h

-- the test of each prefix
abbrev pub prefixes_from : (List Step → Bool) → List Step → List Step → Bool
prefixes_from test front [] = test front
prefixes_from test front (s ∷ rest) = test front && prefixes_from test (front ++ s ∷ []) rest

pub prefixes_pass : (P : List Step → Type 0) (test : List Step → Bool) → ((f : List Step) → IsTrue (test f) → P f) → (front steps : List Step) → IsTrue (prefixes_from test front steps) → PrefixesFrom P front steps
prefixes_pass P test shows front [] h = shows front h
prefixes_pass P test shows front (s ∷ rest) h =
    let both = and_parts (test front) (prefixes_from test (front ++ s ∷ []) rest) h in
    (shows front both.0, prefixes_pass P test shows (front ++ s ∷ []) rest both.1)

-- the test of each number below n
abbrev pub all_below : (ℕ → Bool) → ℕ → Bool
all_below test zero = true
all_below test (suc n) = test n && all_below test n

pub all_below_passes : (test : ℕ → Bool) (n k : ℕ) → IsTrue (all_below test n) → k < n → IsTrue (test k)
all_below_passes test zero k h l = absurd (omega arith)
all_below_passes test (suc n) k h l =
    let both = and_parts (test n) (all_below test n) h in
    elim (cases_lt k n) [ inl below ↦ all_below_passes test n k both.1 below | inr above ↦ subst (λ (m : ℕ). IsTrue (test m)) (let e : n ≡ k = omega arith in e) both.0 ]

abbrev pub passes_once : List Step → List ℕ → (ℕ → Bool) → ℕ → Bool
passes_once steps places in_past i = times_on places i == cond (in_past i && is_do steps i) 1 0

abbrev pub path_is_once : List Step → List ℕ → (ℕ → Bool) → Bool
path_is_once steps places in_past = all_below (passes_once steps places in_past) (length steps) && follows_seen steps [] places

abbrev pub or_not : Bool → Bool → Bool
or_not true b = b
or_not false b = true

abbrev pub drawn_once : List Step → Diagram → Bool
drawn_once steps d = all_below (λ r. or_not (d.live r) (path_is_once steps (d.path r) (d.past r))) d.revisions

or_not_passes : (a b : Bool) → a ≡ true → or_not a b ≡ true → b ≡ true
or_not_passes true b e h = h
or_not_passes false b e h = absurd (false≢true e)

pub drawn_once_passes : (steps : List Step) → IsTrue (drawn_once steps (diagram steps)) → AllStandOnce steps
drawn_once_passes steps h r is_live =
    let d : Diagram = diagram steps in
    let range : InRange d = in_range steps in
    elim (cases_lt r d.revisions) [
      | inr above ↦ absurd (false≢true (sym (range.live r above) ∙ is_live))
      | inl below ↦
          let here = or_not_passes (d.live r) (path_is_once steps (d.path r) (d.past r)) is_live (all_below_passes (λ x. or_not (d.live x) (path_is_once steps (d.path x) (d.past x))) d.revisions r h below) in
          let both = and_parts (all_below (passes_once steps (d.path r) (d.past r)) (length steps)) (follows_seen steps [] (d.path r)) here in (
            (λ i. elim (cases_lt i (length steps)) [
              | inl within ↦ eqb-true (times_on (d.path r) i) (cond (d.past r i && is_do steps i) 1 0) (all_below_passes (passes_once steps (d.path r) (d.past r)) (length steps) i both.0 within)
              | inr past_end ↦
                  let l : d.places ≤ i = omega (arith, diagram-places steps) in
                  range.path r i l ∙ sym (ap (λ (b : Bool). cond b 1 0) (and_left (d.past r i) (is_do steps i) (range.past r i l)))
            ]),
            both.1,
          )
    ]

pub once_passes : (steps : List Step) → IsTrue (prefixes_from (λ f. drawn_once f (diagram f)) [] steps) → Once steps
once_passes steps h = prefixes_pass AllStandOnce (λ f. drawn_once f (diagram f)) drawn_once_passes [] steps h

-- the answers of the Ask steps
abbrev pub answers_given : List Step → List Answer
answers_given [] = []
answers_given (Ask r q a ∷ rest) = a ∷ answers_given rest
answers_given (Fork r c ∷ rest) = answers_given rest
answers_given (Join r s ∷ rest) = answers_given rest
answers_given (Do r u ∷ rest) = answers_given rest
answers_given (Say r v ∷ rest) = answers_given rest
answers_given (Mark r flush ∷ rest) = answers_given rest

-- the right ones
abbrev pub answers_wanted : (List Update → Query → Answer) → List Step → List Step → List Answer
answers_wanted answers front [] = []
answers_wanted answers front (Ask r q a ∷ rest) = answers (log front r) q ∷ answers_wanted answers (front ++ Ask r q a ∷ []) rest
answers_wanted answers front (Fork r c ∷ rest) = answers_wanted answers (front ++ Fork r c ∷ []) rest
answers_wanted answers front (Join r s ∷ rest) = answers_wanted answers (front ++ Join r s ∷ []) rest
answers_wanted answers front (Do r u ∷ rest) = answers_wanted answers (front ++ Do r u ∷ []) rest
answers_wanted answers front (Say r v ∷ rest) = answers_wanted answers (front ++ Say r v ∷ []) rest
answers_wanted answers front (Mark r flush ∷ rest) = answers_wanted answers (front ++ Mark r flush ∷ []) rest

pub right_passes : (answers : List Update → Query → Answer) (front steps : List Step) → answers_given steps ≡ answers_wanted answers front steps → EachFrom (Right answers) front steps
right_passes answers front [] h = tt
right_passes answers front (Ask r q a ∷ rest) h = (cc, right_passes answers (front ++ Ask r q a ∷ []) rest cc)
right_passes answers front (Fork r c ∷ rest) h = (tt, right_passes answers (front ++ Fork r c ∷ []) rest h)
right_passes answers front (Join r s ∷ rest) h = (tt, right_passes answers (front ++ Join r s ∷ []) rest h)
right_passes answers front (Do r u ∷ rest) h = (tt, right_passes answers (front ++ Do r u ∷ []) rest h)
right_passes answers front (Say r v ∷ rest) h = (tt, right_passes answers (front ++ Say r v ∷ []) rest h)
right_passes answers front (Mark r flush ∷ rest) h = (tt, right_passes answers (front ++ Mark r flush ∷ []) rest h)

pub AnsweredRight_passes : (answers : List Update → Query → Answer) (steps : List Step) → answers_given steps ≡ answers_wanted answers [] steps → AnsweredRight answers steps
AnsweredRight_passes answers steps h = right_passes answers [] steps h
