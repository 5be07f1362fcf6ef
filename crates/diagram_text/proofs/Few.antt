-- How many revisions are drawn: one for each batch that is pushed, at most one for each stretch that is pulled,
-- and at most one for what was sent.
use Rattle.std.proofs.Common.{◌≡◌, ◌∙◌, refl, sym, ap, subst, arith, ℕ, suc, ◌+◌, ◌*◌, ◌<◌, ◌≤◌, ◌≢◌, Bool, true, false, cond, List, [], ◌∷◌, ◌++◌, length, take, append-nil, append_assoc, Option, Some, None, inl, inr}
use Rattle.std.specs.Prelude.{◌==◌, nat_le, slice_get}
use Rattle.std.proofs.lemmas.Bool.{cases_eq}
use Rattle.std.proofs.lemmas.Bool.Decides.{nat_tests}
use Rattle.std.proofs.lemmas.List.{length-append, take_more}
use Rattle.std.proofs.lemmas.Option.{slice_get_cases}
use Rattle.cloud_base.specs.declared.batch.Batch.{Batch}
use Rattle.cloud_base.specs.declared.batch.Stretch.{Stretch}
use Rattle.cloud_base.specs.declared.batch.Tail.{Tail}
use Rattle.batch_history.specs.Batches.{of_client, stretch_of, unjoined}
use Rattle.record_diagram.specs.Steps.{Drawing, batches_from, first_drawing, fork_for, fork_if, forks_at, is_zero, next_base, not_opening, pull_if, push, run_sent, run_stretch, same_base, tails_from, ◌then◌}
use Rattle.diagram_text.specs.Parts.{batch_draws, tail_draws}
use Rattle.diagram_text.proofs.Upcoming.{next_other}

-- a base is at most i
abbrev pub is_reached : ℕ → Option ℕ → Bool
is_reached i None = false
is_reached i (Some n) = nat_le n i

abbrev pub one_if : Bool → ℕ
one_if b = cond b 1 0

-- with these batches joined: how many clients from client c on have a next stretch whose base is at most i
abbrev pub reached : List Batch → List Batch → ℕ → List Tail → ℕ → ℕ
reached batches joined i [] c = 0
reached batches joined i (tail ∷ tails) c = one_if (is_reached i (next_base batches joined tail c)) + reached batches joined i tails (c + 1)

-- and how many have one with base i
abbrev pub due : List Batch → List Batch → ℕ → List Tail → ℕ → ℕ
due batches joined i [] c = 0
due batches joined i (tail ∷ tails) c = one_if (same_base i (next_base batches joined tail c)) + due batches joined i tails (c + 1)

one_at_most : (b : Bool) → one_if b ≤ 1
one_at_most true = omega arith
one_at_most false = omega arith

pub few_reached : (batches joined : List Batch) (i : ℕ) (tails : List Tail) (c : ℕ) → reached batches joined i tails c ≤ length tails
few_reached batches joined i [] c = omega arith
few_reached batches joined i (tail ∷ tails) c = omega (arith, one_at_most (is_reached i (next_base batches joined tail c)), few_reached batches joined i tails (c + 1))

due_is_reached : (i : ℕ) (o : Option ℕ) → one_if (same_base i o) ≤ one_if (is_reached i o)
due_is_reached i None = omega arith
due_is_reached i (Some n) = grind (arith, nat_tests)

pub due_are_reached : (batches joined : List Batch) (i : ℕ) (tails : List Tail) (c : ℕ) → due batches joined i tails c ≤ reached batches joined i tails c
due_are_reached batches joined i [] c = omega arith
due_are_reached batches joined i (tail ∷ tails) c = omega (arith, due_is_reached i (next_base batches joined tail c), due_are_reached batches joined i tails (c + 1))

-- what is reached stays so, and what is due then wasn't
later_reached : (i : ℕ) (o : Option ℕ) → one_if (is_reached i o) + one_if (same_base (i + 1) o) ≤ one_if (is_reached (i + 1) o)
later_reached i None = omega arith
later_reached i (Some n) = grind (arith, nat_tests)

-- of clients behind the batch's
others_reached : (batches joined : List Batch) (b : Batch) (i : ℕ) (tails : List Tail) (c : ℕ) → b.client < c
    → reached batches joined i tails c + due batches (joined ++ b ∷ []) (i + 1) tails c ≤ reached batches (joined ++ b ∷ []) (i + 1) tails c
others_reached batches joined b i [] c behind = omega arith
others_reached batches joined b i (tail ∷ tails) c behind =
    let other : b.client ≢ c = λ e. omega arith in
    let o : Option ℕ = next_base batches (joined ++ b ∷ []) tail c in
    let same : one_if (is_reached i (next_base batches joined tail c)) ≡ one_if (is_reached i o) = ap (λ (x : Option ℕ). one_if (is_reached i x)) (next_other batches joined b tail c other) in
    omega (arith, same, later_reached i o, others_reached batches joined b i tails (c + 1) (omega arith))

-- one batch more: of its client one more may be reached
pub more_reached : (batches joined : List Batch) (b : Batch) (i : ℕ) (tails : List Tail) (c : ℕ)
    → reached batches joined i tails c + due batches (joined ++ b ∷ []) (i + 1) tails c ≤ 1 + reached batches (joined ++ b ∷ []) (i + 1) tails c
more_reached batches joined b i [] c = omega arith
more_reached batches joined b i (tail ∷ tails) c =
    let o : Option ℕ = next_base batches (joined ++ b ∷ []) tail c in
    elim (cases_eq b.client c) [
      | inl mine ↦ omega (arith, one_at_most (is_reached i (next_base batches joined tail c)), due_is_reached (i + 1) o, others_reached batches joined b i tails (c + 1) (omega arith))
      | inr other ↦
          let same : one_if (is_reached i (next_base batches joined tail c)) ≡ one_if (is_reached i o) = ap (λ (x : Option ℕ). one_if (is_reached i x)) (next_other batches joined b tail c other) in
          omega (arith, same, later_reached i o, more_reached batches joined b i tails (c + 1))
    ]

-- ---- numbers
next_for : (c : ℕ) (opening : Bool) (d : Drawing) → ((fork_for c opening) d).1.next ≡ d.next + 1
next_for c true d = refl
next_for c false d = refl

pub next_fork : (is_due : Bool) (c : ℕ) (opening : Bool) (d : Drawing) → ((fork_if is_due c opening) d).1.next ≡ d.next + one_if is_due
next_fork true c opening d = next_for c opening d
next_fork false c opening d = omega arith

pub few_forks : (is_due : Bool) (c : ℕ) (opening : Bool) (d : Drawing) → ((fork_if is_due c opening) d).1.next ≤ d.next + 1
few_forks is_due c opening d = omega (arith, next_fork is_due c opening d, one_at_most is_due)

pub next_forks : (batches joined : List Batch) (i : ℕ) (tails : List Tail) (c : ℕ) (d : Drawing) → ((forks_at batches joined i tails c) d).1.next ≡ d.next + due batches joined i tails c
next_forks batches joined i [] c d = omega arith
next_forks batches joined i (tail ∷ tails) c d =
    let is_due : Bool = same_base i (next_base batches joined tail c) in
    let opening : Bool = is_zero (length (of_client c joined)) in
    let first = next_fork is_due c opening d in
    let rest = next_forks batches joined i tails (c + 1) ((fork_if is_due c opening) d).1 in
    omega (arith, first, rest)

next_pull : (pulls : Bool) (c : ℕ) (d : Drawing) → ((pull_if pulls c) d).1.next ≡ d.next
next_pull true c d = refl
next_pull false c d = refl

pub next_stretch : (c : ℕ) (opening : Bool) (s : Stretch) (d : Drawing) → ((run_stretch c opening s) d).1.next ≡ d.next
next_stretch c opening s d = next_pull (not_opening opening s.base) c d

pub next_batch : (batches : List Batch) (tails : List Tail) (joined : List Batch) (b : Batch) (d : Drawing) → ((batch_draws batches tails joined b) d).1.next ≡ d.next + 1 + due batches (joined ++ b ∷ []) (length joined + 1) tails 0
next_batch batches tails joined b d =
    let opening : Bool = is_zero (length (of_client b.client joined)) in
    let ran : Drawing = ((run_stretch b.client opening (stretch_of b)) d).1 in
    next_forks batches (joined ++ b ∷ []) (length joined + 1) tails 0 ((push b.client) ran).1 ∙ ap (λ (n : ℕ). n + 1 + due batches (joined ++ b ∷ []) (length joined + 1) tails 0) (next_stretch b.client opening (stretch_of b) d)

-- where so many batches are joined, there are at most so many revisions
pub record IsFew (batches : List Batch) (tails : List Tail) (joined : List Batch) (next : ℕ) : Type 0 where
  pub few : next ≤ 1 + 2 * length joined + reached batches joined (length joined) tails 0

pub few_first : (batches : List Batch) (tails : List Tail) → IsFew batches tails [] ((forks_at batches [] 0 tails 0) first_drawing).1.next
few_first batches tails = record { few = omega (arith, next_forks batches [] 0 tails 0 first_drawing, due_are_reached batches [] 0 tails 0) }

pub few_batch : (batches : List Batch) (tails : List Tail) (joined : List Batch) (b : Batch) (d : Drawing) → IsFew batches tails joined d.next → IsFew batches tails (joined ++ b ∷ []) ((batch_draws batches tails joined b) d).1.next
few_batch batches tails joined b d h =
    let longer : length (joined ++ b ∷ []) ≡ length joined + 1 = length-append joined (b ∷ []) in
    let here : reached batches (joined ++ b ∷ []) (length (joined ++ b ∷ [])) tails 0 ≡ reached batches (joined ++ b ∷ []) (length joined + 1) tails 0 = ap (λ (n : ℕ). reached batches (joined ++ b ∷ []) n tails 0) longer in
    record { few = omega (arith, h.few, longer, here, next_batch batches tails joined b d, more_reached batches joined b (length joined) tails 0) }

pub at_most : (batches : List Batch) (tails : List Tail) (joined : List Batch) (next : ℕ) → IsFew batches tails joined next → next ≤ 1 + 2 * length joined + length tails
at_most batches tails joined next h = omega (arith, h.few, few_reached batches joined (length joined) tails 0)

-- the same at a place, for the batch that stands there
pub few_further : (batches : List Batch) (tails : List Tail) (k next : ℕ) (d : Drawing) → k < length batches → IsFew batches tails (take k batches) d.next → ((b : Batch) → slice_get batches k ≡ Some b → next ≡ ((batch_draws batches tails (take k batches) b) d).1.next) → IsFew batches tails (take (k + 1) batches) next
few_further batches tails k next d within h is = elim (slice_get_cases batches k).1 [
  | inl there ↦
      let b : Batch = there.0 in
      let longer : take (k + 1) batches ≡ take k batches ++ b ∷ [] = take_more batches k b within ∙ ap (λ (x : Batch). take k batches ++ x ∷ []) there.3 in
      subst (λ (l : List Batch). IsFew batches tails l next) (sym longer) (subst (IsFew batches tails (take k batches ++ b ∷ [])) (sym (is b there.2)) (few_batch batches tails (take k batches) b d h))
  | inr past ↦ absurd (omega (arith, past.0))
]

next_sent : (c : ℕ) (opening : Bool) (sent : List Batch) (d : Drawing) → ((run_sent c opening sent) d).1.next ≤ d.next + 1
next_sent c opening [] d = omega arith
next_sent c opening (b ∷ more) d = omega (arith, next_stretch c opening (stretch_of b) d)

pub few_tail : (own : List Batch) (tail : Tail) (c : ℕ) (d : Drawing) → ((tail_draws own tail c) d).1.next ≤ d.next + 1
few_tail own tail c d =
    let sent : List Batch = unjoined own tail.sent in
    let opening : Bool = is_zero (length own + length sent) in
    omega (arith, next_sent c (is_zero (length own)) sent d, next_stretch c opening tail.now ((run_sent c (is_zero (length own)) sent) d).1)

pub few_tails : (batches : List Batch) (tails : List Tail) (c : ℕ) (d : Drawing) → ((tails_from batches tails c) d).1.next ≤ d.next + length tails
few_tails batches [] c d = omega arith
few_tails batches (tail ∷ tails) c d = omega (arith, few_tail (of_client c batches) tail c d, few_tails batches tails (c + 1) ((tail_draws (of_client c batches) tail c) d).1)

pub few_batches : (batches : List Batch) (tails : List Tail) (joined rest : List Batch) (d : Drawing) → IsFew batches tails joined d.next → IsFew batches tails (joined ++ rest) ((batches_from batches tails joined rest) d).1.next
few_batches batches tails joined [] d h = subst (λ (l : List Batch). IsFew batches tails l d.next) (sym (append-nil joined)) h
few_batches batches tails joined (b ∷ rest) d h =
    let after : Drawing = ((batch_draws batches tails joined b) d).1 in
    subst (λ (l : List Batch). IsFew batches tails l ((batches_from batches tails (joined ++ b ∷ []) rest) after).1.next) (append_assoc joined (b ∷ []) rest)
    (few_batches batches tails (joined ++ b ∷ []) rest after (few_batch batches tails joined b d h))
