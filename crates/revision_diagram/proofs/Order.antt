-- Each place on a path after all that its own revision had seen.
use Rattle.std.proofs.Common.{◌≡◌, ℕ, zero, suc, ◌<◌, true, List, [], ◌∷◌, ◌++◌, length, drop, take, refl, sym, ap, subst, ◌∙◌, arith, Option, inl, inr, append_assoc, append-nil}
use Rattle.std.specs.Prelude.{◌==◌, slice_get}
use Rattle.std.specs.List.{list_all}
use Rattle.std.proofs.lemmas.Bool.{and_parts, and_from, or_cases, or_left, or_right, false≢true}
use Rattle.std.proofs.lemmas.List.{take-append-drop, take-append-le}
use Rattle.std.proofs.Math.Seq.{take-append_seam}
use Rattle.std.proofs.lemmas.List.Folds.{list_any-append}
use Rattle.cloud_base.specs.declared.update.Update.{Update}
use Rattle.revision_diagram.specs.declared.step.Step.{Step}
use Rattle.revision_diagram.specs.declared.step.Step.TheVariants.{Do}
use Rattle.revision_diagram.specs.Diagram.{path}
use Rattle.revision_diagram.specs.Once.{stands_on, does_on, is_do, path_of, seen_at, follows_seen}
use Rattle.revision_diagram.proofs.Logs.{slice_get-front, slice_get-last}
use Rattle.revision_diagram.proofs.Marks.{all_at, all_from}

is_do-within : (steps : List Step) (i : ℕ) → is_do steps i ≡ true → i < length steps
is_do-within [] i h = absurd (false≢true h)
is_do-within (s ∷ steps) zero h = omega arith
is_do-within (s ∷ steps) (suc i) h = omega (arith, is_do-within steps i h)

-- what a step had seen does not change as steps are added
pub seen_at-kept : (steps ys : List Step) (i : ℕ) → is_do steps i ≡ true → seen_at (steps ++ ys) i ≡ seen_at steps i
seen_at-kept steps ys i h =
    let l : i < length steps = is_do-within steps i h in
    ap (λ (t : List Step). path_of t (does_on (slice_get (steps ++ ys) i))) (take-append-le i steps ys (omega arith))
    ∙ ap (λ (o : Option Step). path_of (take i steps) (does_on o)) (slice_get-front steps ys i l)

pub seen_at-last : (steps : List Step) (r : ℕ) (u : Update) → seen_at (steps ++ Do r u ∷ []) (length steps) ≡ path steps r
seen_at-last steps r u =
    ap (λ (t : List Step). path_of t (does_on (slice_get (steps ++ Do r u ∷ []) (length steps)))) (take-append_seam steps (Do r u ∷ []))
    ∙ ap (λ (o : Option Step). path_of steps (does_on o)) (slice_get-last steps (Do r u))

pub follows-kept : (steps ys : List Step) (before places : List ℕ) → list_all (is_do steps) places ≡ true → follows_seen (steps ++ ys) before places ≡ follows_seen steps before places
follows-kept steps ys before [] h = refl
follows-kept steps ys before (i ∷ places) h =
    let both = and_parts (is_do steps i) (list_all (is_do steps) places) h in
    rw (seen_at-kept steps ys i both.0, follows-kept steps ys (before ++ i ∷ []) places both.1) refl

pub follows-append : (steps : List Step) (before xs ys : List ℕ) → follows_seen steps before xs ≡ true → follows_seen steps (before ++ xs) ys ≡ true → follows_seen steps before (xs ++ ys) ≡ true
follows-append steps before [] ys h k = subst (λ (b : List ℕ). follows_seen steps b ys ≡ true) (append-nil before) k
follows-append steps before (i ∷ xs) ys h k =
    let both = and_parts (list_all (stands_on before) (seen_at steps i)) (follows_seen steps (before ++ i ∷ []) xs) h in
    and_from (list_all (stands_on before) (seen_at steps i)) (follows_seen steps (before ++ i ∷ []) (xs ++ ys)) both.0
    (follows-append steps (before ++ i ∷ []) xs ys both.1 (subst (λ (b : List ℕ). follows_seen steps b ys ≡ true) (sym (append_assoc before (i ∷ []) xs)) k))

pub follows-rest : (steps : List Step) (before xs ys : List ℕ) → follows_seen steps before (xs ++ ys) ≡ true → follows_seen steps (before ++ xs) ys ≡ true
follows-rest steps before [] ys h = subst (λ (b : List ℕ). follows_seen steps b ys ≡ true) (sym (append-nil before)) h
follows-rest steps before (i ∷ xs) ys h =
    let both = and_parts (list_all (stands_on before) (seen_at steps i)) (follows_seen steps (before ++ i ∷ []) (xs ++ ys)) h in
    subst (λ (b : List ℕ). follows_seen steps b ys ≡ true) (append_assoc before (i ∷ []) xs) (follows-rest steps (before ++ i ∷ []) xs ys both.1)

-- every place of xs stands in ys
abbrev pub Within : List ℕ → List ℕ → Type 0
Within xs ys = (i : ℕ) → stands_on xs i ≡ true → stands_on ys i ≡ true

within_more : (xs ys more : List ℕ) → Within xs ys → Within (xs ++ more) (ys ++ more)
within_more xs ys more h i k =
    list_any-append (λ j. j == i) ys more ∙ elim (or_cases (stands_on xs i) (stands_on more i) (sym (list_any-append (λ j. j == i) xs more) ∙ k)) [
      | inl here ↦ or_left (stands_on ys i) (stands_on more i) (h i here)
      | inr there ↦ or_right (stands_on ys i) (stands_on more i) there
    ]

-- the more there is before it
pub follows-within : (steps : List Step) (xs ys places : List ℕ) → Within xs ys → follows_seen steps xs places ≡ true → follows_seen steps ys places ≡ true
follows-within steps xs ys [] w h = refl
follows-within steps xs ys (i ∷ places) w h =
    let both = and_parts (list_all (stands_on xs) (seen_at steps i)) (follows_seen steps (xs ++ i ∷ []) places) h in
    and_from (list_all (stands_on ys) (seen_at steps i)) (follows_seen steps (ys ++ i ∷ []) places)
    (all_from (stands_on ys) (seen_at steps i) (λ j k. w j (all_at (stands_on xs) (seen_at steps i) j both.0 k)))
    (follows-within steps (xs ++ i ∷ []) (ys ++ i ∷ []) places (within_more xs ys (i ∷ []) w) both.1)

pub follows-joined : (steps : List Step) (xs ys : List ℕ) (n : ℕ) → list_all (stands_on xs) (take n ys) ≡ true → follows_seen steps [] xs ≡ true → follows_seen steps [] ys ≡ true → follows_seen steps [] (xs ++ drop n ys) ≡ true
follows-joined steps xs ys n had h k =
    follows-append steps [] xs (drop n ys) h
    (follows-within steps (take n ys) xs (drop n ys) (λ i j. all_at (stands_on xs) (take n ys) i had j)
    (follows-rest steps [] (take n ys) (drop n ys) (subst (λ (t : List ℕ). follows_seen steps [] t ≡ true) (sym (take-append-drop n ys)) k)))
