-- Which paths are apart, and that a join which keeps each place once has such paths.
use Rattle.std.proofs.Common.{◌≡◌, ℕ, ◌+◌, ◌<◌, ◌≤◌, Bool, true, false, cond, List, [], ◌∷◌, ◌++◌, length, drop, take, refl, sym, ap, ◌∙◌, arith, inl, inr}
use Rattle.std.specs.Prelude.{◌↔◌, ◌≢◌, ◌&&◌, ◌||◌, not, ◌==◌, IsTrue}
use Rattle.std.specs.List.{list_all}
use Rattle.std.proofs.lemmas.Bool.{and_parts, and_from, or_left, or_right, false≢true, cases_Bool, eq-eqb}
use Rattle.std.proofs.lemmas.List.{take-append-drop}
use Rattle.revision_diagram.specs.declared.step.Step.{Step}
use Rattle.revision_diagram.specs.declared.step.Step.TheVariants.{Fork, Join, Do, Ask, Say, Mark}
use Rattle.revision_diagram.specs.Diagram.{with_place, with_past, live, past, path, fork, fork_length}
use Rattle.revision_diagram.specs.Lawful.{is_lawful}
use Rattle.revision_diagram.specs.Once.{stands_on, times_on, is_do, joins_apart, StandsOnce, AllStandOnce, Once}
use Rattle.revision_diagram.proofs.Range.{times_on-append}
use Rattle.revision_diagram.proofs.Draws.{live-Join, path-Join, past-Join}
use Rattle.revision_diagram.proofs.Logs.{is_do-kept}
use Rattle.revision_diagram.proofs.Marks.{stands-times, times-stands, all_at, all_from}
use Rattle.revision_diagram.proofs.Places.{EachPrefix-front}
use Rattle.revision_diagram.proofs.KeepsOnce.{put-here, put-else, Once-step, Once-whole}
use Rattle.revision_diagram.proofs.Kept.{at_most_once}

not_of : (b : Bool) → not b ≡ true → b ≡ false
not_of true h = absurd (false≢true h)
not_of false h = refl

-- what the joined revision had at its fork, and what it has beyond
abbrev base_of : List Step → ℕ → List ℕ
base_of steps s = take (fork_length steps s) (path steps s)

abbrev branch_of : List Step → ℕ → List ℕ
branch_of steps s = drop (fork_length steps s) (path steps s)

pub joins_apart-members : (steps : List Step) (r s : ℕ) → IsTrue (joins_apart steps (Join r s))
    ↔ (((i : ℕ) → IsTrue (stands_on (take (fork_length steps s) (path steps s)) i) → IsTrue (stands_on (path steps r) i))
    × ((i : ℕ) → IsTrue (stands_on (drop (fork_length steps s) (path steps s)) i) → stands_on (path steps r) i ≡ false))
joins_apart-members steps r s = (
  λ h.
      let both = and_parts (list_all (stands_on (path steps r)) (base_of steps s)) (list_all (λ i. not (stands_on (path steps r) i)) (branch_of steps s)) h in (
        λ i k. all_at (stands_on (path steps r)) (base_of steps s) i both.0 k,
        λ i k. not_of (stands_on (path steps r) i) (all_at (λ j. not (stands_on (path steps r) j)) (branch_of steps s) i both.1 k),
      ),
  λ h. and_from (list_all (stands_on (path steps r)) (base_of steps s)) (list_all (λ i. not (stands_on (path steps r) i)) (branch_of steps s))
      (all_from (stands_on (path steps r)) (base_of steps s) (λ i k. h.0 i k))
      (all_from (λ i. not (stands_on (path steps r) i)) (branch_of steps s) (λ i k. ap not (h.1 i k))),
)

-- how often a place stands on a path, as its two parts say
parts_of : (steps : List Step) (s i : ℕ) → times_on (base_of steps s) i + times_on (branch_of steps s) i ≡ times_on (path steps s) i
parts_of steps s i = sym (times_on-append (base_of steps s) (branch_of steps s) i) ∙ ap (λ (t : List ℕ). times_on t i) (take-append-drop (fork_length steps s) (path steps s))

-- what stands on a path is a Do step in its past
in_past_of : (steps : List Step) (s i : ℕ) → StandsOnce steps s → 0 < times_on (path steps s) i → (past steps s i && is_do steps i) ≡ true
in_past_of steps s i h l = elim (cases_Bool (past steps s i && is_do steps i)) [
  | inl here ↦ here
  | inr none ↦ let e : times_on (path steps s) i ≡ 0 = h i ∙ ap (λ (b : Bool). cond b 1 0) none in absurd (omega arith)
]

-- the paths of a join that keeps each place once
record Joined (steps : List Step) (r s : ℕ) : Type 0 where
  joined : path (steps ++ Join r s ∷ []) r ≡ path steps r ++ branch_of steps s
  seen : (i : ℕ) → past steps s i ≡ true → past (steps ++ Join r s ∷ []) r i ≡ true
  once : StandsOnce (steps ++ Join r s ∷ []) r
  once_before : StandsOnce steps s

joined_by : (steps : List Step) (r s : ℕ) → AllStandOnce steps → AllStandOnce (steps ++ Join r s ∷ []) → live steps r ≡ true → live steps s ≡ true → r ≢ s → Joined steps r s
joined_by steps r s h k r_lives s_lives other =
    let both : ℕ → Bool = with_place (with_past (past steps r) (past steps s)) (length steps) in
    record {
      joined = path-Join steps r s r ∙ put-here r r (path steps r ++ branch_of steps s) (path steps) refl;
      seen = λ i e. past-Join steps r s r i ∙ ap (λ (p : ℕ → Bool). p i) (put-here r r both (past steps) refl)
          ∙ or_left (past steps r i || past steps s i) (i == length steps) (or_right (past steps r i) (past steps s i) e);
      once = (k r (live-Join steps r s r ∙ put-else s r false (live steps) other ∙ r_lives)).0;
      once_before = (h s s_lives).0;
    }

times_joined : (steps : List Step) (r s i : ℕ) → Joined steps r s → times_on (path steps r) i + times_on (branch_of steps s) i ≡ times_on (path (steps ++ Join r s ∷ []) r) i
times_joined steps r s i j = sym (times_on-append (path steps r) (branch_of steps s) i) ∙ ap (λ (t : List ℕ). times_on t i) (sym j.joined)

-- what it had at its fork stands on the joiner's path
base_stands : (steps : List Step) (r s i : ℕ) → Joined steps r s → stands_on (base_of steps s) i ≡ true → stands_on (path steps r) i ≡ true
base_stands steps r s i j here =
    let longer : List Step = steps ++ Join r s ∷ [] in
    let in_base : 0 < times_on (base_of steps s) i = stands-times (base_of steps s) i here in
    let whole : times_on (base_of steps s) i + times_on (branch_of steps s) i ≡ times_on (path steps s) i = parts_of steps s i in
    let most : times_on (path steps s) i ≤ 1 = at_most_once steps s i j.once_before in
    let parts = and_parts (past steps s i) (is_do steps i) (in_past_of steps s i j.once_before (omega arith)) in
    let here_once : times_on (path longer r) i ≡ 1 = j.once i ∙ ap (λ (b : Bool). cond b 1 0) (and_from (past longer r i) (is_do longer i) (j.seen i parts.0) (is_do-kept steps (Join r s ∷ []) i parts.1)) in
    let sum : times_on (path steps r) i + times_on (branch_of steps s) i ≡ times_on (path longer r) i = times_joined steps r s i j in
    times-stands (path steps r) i (omega arith)

-- and nothing that it has beyond
branch_stands_not : (steps : List Step) (r s i : ℕ) → Joined steps r s → stands_on (branch_of steps s) i ≡ true → stands_on (path steps r) i ≡ true → ⊥
branch_stands_not steps r s i j here there =
    let longer : List Step = steps ++ Join r s ∷ [] in
    let in_branch : 0 < times_on (branch_of steps s) i = stands-times (branch_of steps s) i here in
    let in_joiner : 0 < times_on (path steps r) i = stands-times (path steps r) i there in
    let sum : times_on (path steps r) i + times_on (branch_of steps s) i ≡ times_on (path longer r) i = times_joined steps r s i j in
    let most : times_on (path longer r) i ≤ 1 = at_most_once longer r i j.once in
    omega arith

not_false : (b : Bool) → (b ≡ true → ⊥) → b ≡ false
not_false true h = absurd (h refl)
not_false false h = refl

apart_of : (steps : List Step) (r s : ℕ) → Joined steps r s → IsTrue (joins_apart steps (Join r s))
apart_of steps r s j = (joins_apart-members steps r s).1 (
  λ i k. base_stands steps r s i j k,
  λ i k. not_false (stands_on (path steps r) i) (λ there. branch_stands_not steps r s i j k there),
)

-- the revisions of a lawful join
lives_both : (steps : List Step) (r s : ℕ) → IsTrue (is_lawful steps (Join r s)) → (live steps r ≡ true) × (live steps s ≡ true) × (r ≢ s)
lives_both steps r s ok =
    let seen = and_parts (live steps r && live steps s && not (s == 0) && not (s == r)) (past steps r (fork steps s)) ok in
    let other = and_parts (live steps r && live steps s && not (s == 0)) (not (s == r)) seen.0 in
    let below = and_parts (live steps r && live steps s) (not (s == 0)) other.0 in
    let lives = and_parts (live steps r) (live steps s) below.0 in
    (lives.0, lives.1, λ e. false≢true (ap not (sym (eq-eqb s r (sym e))) ∙ other.1))

pub joins_apart-needed : (steps : List Step) (s : Step) → AllStandOnce steps → AllStandOnce (steps ++ s ∷ []) → IsTrue (is_lawful steps s) → IsTrue (joins_apart steps s)
joins_apart-needed steps (Fork r c) h k ok = refl
joins_apart-needed steps (Join r s) h k ok =
    let both : (live steps r ≡ true) × (live steps s ≡ true) × (r ≢ s) = lives_both steps r s ok in
    apart_of steps r s (joined_by steps r s h k both.0 both.1 both.2)
joins_apart-needed steps (Do r u) h k ok = refl
joins_apart-needed steps (Ask r q a) h k ok = refl
joins_apart-needed steps (Say r v) h k ok = refl
joins_apart-needed steps (Mark r flush) h k ok = refl

pub Once-more : (steps : List Step) (s : Step) → IsTrue (is_lawful steps s) → Once (steps ++ s ∷ []) ↔ (Once steps × IsTrue (joins_apart steps s))
Once-more steps s ok = (
  λ h. let front : Once steps = EachPrefix-front AllStandOnce steps s h in
      (front, joins_apart-needed steps s (Once-whole steps front) (Once-whole (steps ++ s ∷ []) h) ok),
  λ h. Once-step steps s h.0 ok h.1,
)
