-- Pasts and paths hold only places of steps that are there, and only revisions that are there are live.
use Rattle.std.proofs.Common.{◌≡◌, ℕ, ◌+◌, ◌≤◌, Bool, true, false, cond, List, [], ◌∷◌, ◌++◌, drop, refl, sym, ap, subst, ◌∙◌, arith}
use Rattle.std.specs.Prelude.{◌==◌, ℕ}
use Rattle.std.proofs.lemmas.Bool.{or_from, ne_eqb}
use Rattle.std.proofs.lemmas.List.Sums.{sum_by-append, sum_by-take-drop}
use Rattle.revision_diagram.specs.declared.step.Step.{Step}
use Rattle.revision_diagram.specs.declared.step.Step.TheVariants.{Fork, Join, Do, Ask, Say, Mark}
use Rattle.revision_diagram.specs.Diagram.{Diagram, diagram, start, after, put, with_place, with_past}
use Rattle.revision_diagram.specs.Once.{times_on}
use Rattle.revision_diagram.proofs.Steps.{by_steps, diagram-step}

-- what holds of v, and of f x, holds of f, but v at r
pub put-cases : {A : Type 0} (P : A → Type 0) (r : ℕ) (v : A) (f : ℕ → A) (x : ℕ) → P v → P (f x) → P (put r v f x)
put-cases P r v f x h k = elim (x == r) as (λ b. P (cond b v (f x))) [ true ↦ h | false ↦ k ]

pub times_on-append : (xs ys : List ℕ) (i : ℕ) → times_on (xs ++ ys) i ≡ times_on xs i + times_on ys i
times_on-append xs ys i = sum_by-append (λ j. cond (j == i) 1 0) xs ys

pub times_on-drop : (n : ℕ) (xs : List ℕ) (i : ℕ) → times_on (drop n xs) i ≤ times_on xs i
times_on-drop n xs i = omega (arith, sum_by-take-drop (λ j. cond (j == i) 1 0) xs n)

pub record InRange (d : Diagram) : Type 0 where
  pub past : (r i : ℕ) → d.places ≤ i → d.past r i ≡ false
  pub path : (r i : ℕ) → d.places ≤ i → times_on (d.path r) i ≡ 0
  pub live : (r : ℕ) → d.revisions ≤ r → d.live r ≡ false

with_place-past : (past : ℕ → Bool) (n i : ℕ) → ((j : ℕ) → n ≤ j → past j ≡ false) → n + 1 ≤ i → with_place past n i ≡ false
with_place-past past n i h l = or_from (past i) (i == n) (h i (omega arith)) (ne_eqb i n (λ e. omega arith))

-- the past of a step on r
stepped : (d : Diagram) (r x i : ℕ) (past : ℕ → Bool) → InRange d → ((j : ℕ) → d.places ≤ j → past j ≡ false) → d.places + 1 ≤ i → put r (with_place past d.places) d.past x i ≡ false
stepped d r x i past h k l = put-cases (λ (p : ℕ → Bool). p i ≡ false) r (with_place past d.places) d.past x (with_place-past past d.places i k l) (h.past x i (omega arith))

in_past : (d : Diagram) (s : Step) (x i : ℕ) → InRange d → d.places + 1 ≤ i → (after d s).past x i ≡ false
in_past d (Fork r c) x i h l = put-cases (λ (p : ℕ → Bool). p i ≡ false) d.revisions (with_place (d.past r) d.places) (put r (with_place (d.past r) d.places) d.past) x (with_place-past (d.past r) d.places i (h.past r) l) (stepped d r x i (d.past r) h (h.past r) l)
in_past d (Join r s) x i h l = stepped d r x i (with_past (d.past r) (d.past s)) h (λ j k. or_from (d.past r j) (d.past s j) (h.past r j k) (h.past s j k)) l
in_past d (Do r u) x i h l = stepped d r x i (d.past r) h (h.past r) l
in_past d (Ask r q a) x i h l = stepped d r x i (d.past r) h (h.past r) l
in_past d (Say r v) x i h l = stepped d r x i (d.past r) h (h.past r) l
in_past d (Mark r flush) x i h l = stepped d r x i (d.past r) h (h.past r) l

appended : (d : Diagram) (r x i : ℕ) (more : List ℕ) → InRange d → times_on more i ≡ 0 → d.places ≤ i → times_on (put r (d.path r ++ more) d.path x) i ≡ 0
appended d r x i more h k l = put-cases (λ (p : List ℕ). times_on p i ≡ 0) r (d.path r ++ more) d.path x (omega (arith, times_on-append (d.path r) more i, h.path r i l, k)) (h.path x i l)

in_path : (d : Diagram) (s : Step) (x i : ℕ) → InRange d → d.places + 1 ≤ i → times_on ((after d s).path x) i ≡ 0
in_path d (Fork r c) x i h l = put-cases (λ (p : List ℕ). times_on p i ≡ 0) d.revisions (d.path r) d.path x (h.path r i (omega arith)) (h.path x i (omega arith))
in_path d (Join r s) x i h l = appended d r x i (drop (d.fork_length s) (d.path s)) h (omega (arith, times_on-drop (d.fork_length s) (d.path s) i, h.path s i (omega arith))) (omega arith)
in_path d (Do r u) x i h l = appended d r x i (d.places ∷ []) h (ap (λ (b : Bool). 0 + cond b 1 0) (ne_eqb d.places i (λ e. omega arith))) (omega arith)
in_path d (Ask r q a) x i h l = h.path x i (omega arith)
in_path d (Say r v) x i h l = h.path x i (omega arith)
in_path d (Mark r flush) x i h l = h.path x i (omega arith)

in_live : (d : Diagram) (s : Step) (x : ℕ) → InRange d → (after d s).revisions ≤ x → (after d s).live x ≡ false
in_live d (Fork r c) x h l = ap (λ (b : Bool). cond b true (d.live x)) (ne_eqb x d.revisions (λ e. omega arith)) ∙ h.live x (omega arith)
in_live d (Join r s) x h l = put-cases (λ (b : Bool). b ≡ false) s false d.live x refl (h.live x l)
in_live d (Do r u) x h l = h.live x l
in_live d (Ask r q a) x h l = h.live x l
in_live d (Say r v) x h l = h.live x l
in_live d (Mark r flush) x h l = h.live x l

pub InRange-after : (d : Diagram) (s : Step) → InRange d → InRange (after d s)
InRange-after d s h = record { past = λ x i l. in_past d s x i h l; path = λ x i l. in_path d s x i h l; live = λ x l. in_live d s x h l }

pub InRange-start : InRange start
InRange-start = record { past = λ r i l. refl; path = λ r i l. refl; live = λ r l. ne_eqb r 0 (λ e. omega arith) }

pub in_range : (steps : List Step) → InRange (diagram steps)
in_range steps = by_steps (λ (t : List Step). InRange (diagram t)) InRange-start (λ front s h. subst InRange (sym (diagram-step front s)) (InRange-after (diagram front) s h)) steps
