-- The steps of a record are of the schema's shape.
use Rattle.std.proofs.Common.{◌≡◌, ◌∙◌, refl, sym, ap, subst, arith, ℕ, zero, suc, ◌+◌, ◌*◌, ◌^◌, ◌<◌, ◌≤◌, ◌≢◌, Bool, true, false, cond, List, [], ◌∷◌, ◌++◌, length, append_assoc, Some, None, inl, inr}
use Rattle.std.specs.Prelude.{◌==◌, map, slice_get}
use Rattle.std.specs.List.{AllByRecursion}
use Rattle.std.proofs.lemmas.Bool.{cases_eq}
use Rattle.cloud_base.specs.Shaped.{IsShapedEvent}
use Rattle.cloud_base.specs.declared.batch.Batch.{Batch}
use Rattle.cloud_base.specs.declared.batch.Stretch.{Stretch}
use Rattle.cloud_base.specs.declared.batch.Tail.{Tail}
use Rattle.cloud_base.specs.declared.schema.Schema.{Schema}
use Rattle.cloud_base.specs.declared.update.Event.{Event}
use Rattle.cloud_base.specs.declared.update.Event.TheVariants as event
use Rattle.batch_history.specs.Batches.{all_events, events_in, of_client, stretch_of, did, did_by, unjoined}
use Rattle.batch_history.proofs.Clients.{of_client-here, of_client-else}
use Rattle.record_diagram.specs.Steps.{Drawing, Draws, batches_from, event_step, events_on, first_drawing, fork_for, fork_if, forks_at, idle, is_zero, next_base, not_opening, pull, pull_if, push, run_sent, run_stretch, same_base, send, steps_of, tails_from, ◌then◌}
use Rattle.revision_diagram.specs.Diagram.{put}
use Rattle.revision_diagram.specs.declared.step.Step.{Step}
use Rattle.step_text.specs.Legible.{IsStep}
use Rattle.diagram_text.specs.Parts.{batch_draws, tail_draws}
use Rattle.diagram_text.proofs.Few.{IsFew, at_most, few_batches, few_first, few_tails}
use Rattle.std.proofs.lemmas.Option.{slice_get_cases}

pub both_parts : {X : Type 0} (P : X → Type 0) (xs ys : List X) → AllByRecursion P xs → AllByRecursion P ys → AllByRecursion P (xs ++ ys)
both_parts P [] ys p q = q
both_parts P (x ∷ xs) ys p q = (p.0, both_parts P xs ys p.1 q)

pub first_part : {X : Type 0} (P : X → Type 0) (xs ys : List X) → AllByRecursion P (xs ++ ys) → AllByRecursion P xs
first_part P [] ys h = tt
first_part P (x ∷ xs) ys h = (h.0, first_part P xs ys h.1)

pub second_part : {X : Type 0} (P : X → Type 0) (xs ys : List X) → AllByRecursion P (xs ++ ys) → AllByRecursion P ys
second_part P [] ys h = h
second_part P (x ∷ xs) ys h = second_part P xs ys h.1

pub all_events-append : (xs ys : List Stretch) → all_events (xs ++ ys) ≡ all_events xs ++ all_events ys
all_events-append [] ys = refl
all_events-append (s ∷ xs) ys = ap (λ (l : List Event). events_in s ++ l) (all_events-append xs ys) ∙ sym (append_assoc (events_in s) (all_events xs) (all_events ys))

-- what was done in a batch is of the schema's shape
abbrev pub ShapedBatch : Schema → Batch → Type 0
ShapedBatch schema b = AllByRecursion (IsShapedEvent schema) (b.before ++ b.rest)

-- what c did in its batches, and what is left of it
abbrev pub own_of : List Batch → ℕ → List Event
own_of batches c = all_events (map stretch_of (of_client c batches))

abbrev pub left_of : List Batch → Tail → ℕ → List Event
left_of batches tail c = all_events (map stretch_of (unjoined (of_client c batches) tail.sent) ++ tail.now ∷ [])

pub did_is : (batches : List Batch) (tails : List Tail) (c : ℕ) (tail : Tail) → slice_get tails c ≡ Some tail → did batches tails c ≡ own_of batches c ++ left_of batches tail c
did_is batches tails c tail there = ap (did_by batches c) there ∙ all_events-append (map stretch_of (of_client c batches)) (map stretch_of (unjoined (of_client c batches) tail.sent) ++ tail.now ∷ [])

-- a client without a tail has no batch
pub none_of : (n c : ℕ) (batches : List Batch) → AllByRecursion (λ (b : Batch). b.client < n) batches → n ≤ c → of_client c batches ≡ []
none_of n c [] mine past = refl
none_of n c (b ∷ batches) mine past = of_client-else c b batches (λ e. let less : b.client < n = mine.0 in absurd (omega arith)) ∙ none_of n c batches mine.1 past

-- what is drawn names revisions below the next one
pub record IsLow (d : Drawing) : Type 0 where
  pub some : 0 < d.next
  pub standing : (c : ℕ) → d.standing c < d.next
  pub received : (c : ℕ) → d.received c < d.next

put_low : (c r n m : ℕ) (f : ℕ → ℕ) → r < m → n ≤ m → ((x : ℕ) → f x < n) → (x : ℕ) → put c r f x < m
put_low c r n m f low more h x = elim (x == c) as (λ b. cond b r (f x) < m) [ true ↦ low | false ↦ omega (arith, h x) ]

-- what of a schema is drawn from a drawing that is low, as long as there are numbers left
module _ (schema : Schema) (names : List (List ℕ)) where
  abbrev pub Fit : List Step → Type 0
  Fit = AllByRecursion (IsStep schema names)

  pub record Fits (f : Draws) : Type 0 where
    pub low : (d : Drawing) → IsLow d → IsLow (f d).1
    pub grows : (d : Drawing) → d.next ≤ (f d).1.next
    pub steps : (d : Drawing) → IsLow d → (f d).1.next ≤ 2 ^ 32 → Fit (f d).0

  fits_idle : Fits idle
  fits_idle = record { low = λ d h. h; grows = λ d. omega arith; steps = λ d h few. tt }

  fits_then : (f g : Draws) → Fits f → Fits g → Fits (f then g)
  fits_then f g h k = record {
    low = λ d low. k.low (f d).1 (h.low d low);
    grows = λ d. omega (arith, h.grows d, k.grows (f d).1);
    steps = λ d low few. both_parts (IsStep schema names) (f d).0 (g (f d).1).0 (h.steps d low (omega (arith, few, k.grows (f d).1))) (k.steps (f d).1 (h.low d low) few);
  }

  event_fits : (r : ℕ) (e : Event) → r < 2 ^ 32 → IsShapedEvent schema e → IsStep schema names (event_step r e)
  event_fits r (event.Do u) low is = (low, is)
  event_fits r (event.Ask q a) low is = (low, is.0, is.1)
  event_fits r (event.Say v) low is = (low, is)
  event_fits r event.Yield low is = low
  event_fits r event.Flush low is = low

  all_fit : (r : ℕ) (events : List Event) → r < 2 ^ 32 → AllByRecursion (IsShapedEvent schema) events → Fit (map (event_step r) events)
  all_fit r [] low is = tt
  all_fit r (e ∷ events) low is = (event_fits r e low is.0, all_fit r events low is.1)

  fits_events : (c : ℕ) (events : List Event) → AllByRecursion (IsShapedEvent schema) events → Fits (events_on c events)
  fits_events c events is = record {
    low = λ d h. h;
    grows = λ d. omega arith;
    steps = λ d h few. all_fit (d.standing c) events (let l : d.standing c < d.next = h.standing c in omega arith) is;
  }

  fits_pull : (c : ℕ) → Fits (pull c)
  fits_pull c = record {
    low = λ d h. record { some = h.some; standing = put_low c (d.received c) d.next d.next d.standing (h.received c) (omega arith) h.standing; received = h.received };
    grows = λ d. omega arith;
    steps = λ d h few. ((let l : d.received c < d.next = h.received c in omega arith, let l : d.standing c < d.next = h.standing c in omega arith), tt);
  }

  fits_pull_if : (pulls : Bool) (c : ℕ) → Fits (pull_if pulls c)
  fits_pull_if true c = fits_pull c
  fits_pull_if false c = fits_idle

  -- a number is taken for c's standing revision, or for its received one
  stands_low : (c : ℕ) (d : Drawing) → IsLow d → IsLow (record d { next = d.next + 1; standing = put c d.next d.standing })
  stands_low c d h = record { some = omega arith; standing = put_low c d.next d.next (d.next + 1) d.standing (omega arith) (omega arith) h.standing; received = λ x. omega (arith, h.received x) }

  receives_low : (c : ℕ) (d : Drawing) → IsLow d → IsLow (record d { next = d.next + 1; received = put c d.next d.received })
  receives_low c d h = record { some = omega arith; standing = λ x. omega (arith, h.standing x); received = put_low c d.next d.next (d.next + 1) d.received (omega arith) (omega arith) h.received }

  fits_send : (c : ℕ) → c < length names → Fits (send c)
  fits_send c named = record {
    low = stands_low c;
    grows = λ d. omega arith;
    steps = λ d h few. ((omega (arith, h.standing c, few), named), tt);
  }

  fits_push : (c : ℕ) → c < length names → Fits (push c)
  fits_push c named = record {
    low = stands_low c;
    grows = λ d. omega arith;
    steps = λ d h few. ((omega (arith, h.standing c, few), named), ((omega arith, omega (arith, h.standing c, few)), tt));
  }

  fits_fork : (c : ℕ) (opening : Bool) → c < length names → Fits (fork_for c opening)
  fits_fork c true named = record { low = stands_low c; grows = λ d. omega arith; steps = λ d h few. ((omega arith, named), tt) }
  fits_fork c false named = record { low = receives_low c; grows = λ d. omega arith; steps = λ d h few. ((omega arith, named), tt) }

  fits_fork_if : (is_due : Bool) (c : ℕ) (opening : Bool) → c < length names → Fits (fork_if is_due c opening)
  fits_fork_if true c opening named = fits_fork c opening named
  fits_fork_if false c opening named = fits_idle

  fits_forks : (batches joined : List Batch) (i : ℕ) (tails : List Tail) (c : ℕ) → c + length tails ≤ length names → Fits (forks_at batches joined i tails c)
  fits_forks batches joined i [] c named = fits_idle
  fits_forks batches joined i (tail ∷ tails) c named =
      fits_then (fork_if (same_base i (next_base batches joined tail c)) c (is_zero (length (of_client c joined)))) (forks_at batches joined i tails (c + 1))
      (fits_fork_if (same_base i (next_base batches joined tail c)) c (is_zero (length (of_client c joined))) (omega arith))
      (fits_forks batches joined i tails (c + 1) (omega arith))

  fits_stretch : (c : ℕ) (opening : Bool) (s : Stretch) → AllByRecursion (IsShapedEvent schema) (events_in s) → Fits (run_stretch c opening s)
  fits_stretch c opening s is =
      fits_then (events_on c s.before then pull_if (not_opening opening s.base) c) (events_on c s.rest)
      (fits_then (events_on c s.before) (pull_if (not_opening opening s.base) c) (fits_events c s.before (first_part (IsShapedEvent schema) s.before s.rest is)) (fits_pull_if (not_opening opening s.base) c))
      (fits_events c s.rest (second_part (IsShapedEvent schema) s.before s.rest is))

  fits_batch : (batches : List Batch) (tails : List Tail) (joined : List Batch) (b : Batch) → length tails ≤ length names → b.client < length tails → ShapedBatch schema b → Fits (batch_draws batches tails joined b)
  fits_batch batches tails joined b named mine is =
      let opening : Bool = is_zero (length (of_client b.client joined)) in
      let forks : Draws = forks_at batches (joined ++ b ∷ []) (length joined + 1) tails 0 in
      fits_then (run_stretch b.client opening (stretch_of b) then push b.client) forks
      (fits_then (run_stretch b.client opening (stretch_of b)) (push b.client) (fits_stretch b.client opening (stretch_of b) is) (fits_push b.client (omega arith)))
      (fits_forks batches (joined ++ b ∷ []) (length joined + 1) tails 0 (omega arith))

  fits_batches : (batches : List Batch) (tails : List Tail) (joined rest : List Batch) → length tails ≤ length names → AllByRecursion (λ (b : Batch). b.client < length tails) rest → AllByRecursion (ShapedBatch schema) rest → Fits (batches_from batches tails joined rest)
  fits_batches batches tails joined [] named mine is = fits_idle
  fits_batches batches tails joined (b ∷ rest) named mine is =
      fits_then (batch_draws batches tails joined b) (batches_from batches tails (joined ++ b ∷ []) rest)
      (fits_batch batches tails joined b named mine.0 is.0)
      (fits_batches batches tails (joined ++ b ∷ []) rest named mine.1 is.1)

  fits_sent : (c : ℕ) (opening : Bool) (sent : List Batch) → c < length names → AllByRecursion (IsShapedEvent schema) (all_events (map stretch_of sent)) → Fits (run_sent c opening sent)
  fits_sent c opening [] named is = fits_idle
  fits_sent c opening (b ∷ more) named is = fits_then (run_stretch c opening (stretch_of b)) (send c) (fits_stretch c opening (stretch_of b) (first_part (IsShapedEvent schema) (b.before ++ b.rest) (all_events (map stretch_of more)) is)) (fits_send c named)

  fits_tail : (batches : List Batch) (tail : Tail) (c : ℕ) → c < length names → AllByRecursion (IsShapedEvent schema) (left_of batches tail c) → Fits (tail_draws (of_client c batches) tail c)
  fits_tail batches tail c named is =
      let own : List Batch = of_client c batches in
      let sent : List Batch = unjoined own tail.sent in
      let opening : Bool = is_zero (length own + length sent) in
      let both : AllByRecursion (IsShapedEvent schema) (all_events (map stretch_of sent) ++ all_events (tail.now ∷ [])) = subst (AllByRecursion (IsShapedEvent schema)) (all_events-append (map stretch_of sent) (tail.now ∷ [])) is in
      let now : AllByRecursion (IsShapedEvent schema) (events_in tail.now ++ []) = second_part (IsShapedEvent schema) (all_events (map stretch_of sent)) (all_events (tail.now ∷ [])) both in
      fits_then (run_sent c (is_zero (length own)) sent) (run_stretch c opening tail.now)
      (fits_sent c (is_zero (length own)) sent named (first_part (IsShapedEvent schema) (all_events (map stretch_of sent)) (all_events (tail.now ∷ [])) both))
      (fits_stretch c opening tail.now (first_part (IsShapedEvent schema) (events_in tail.now) [] now))

  fits_tails : (batches : List Batch) (tails : List Tail) (c : ℕ) → c + length tails ≤ length names → ((k : ℕ) (tail : Tail) → slice_get tails k ≡ Some tail → AllByRecursion (IsShapedEvent schema) (left_of batches tail (c + k))) → Fits (tails_from batches tails c)
  fits_tails batches [] c named is = fits_idle
  fits_tails batches (tail ∷ tails) c named is =
      let here : c + 0 ≡ c = omega arith in
      fits_then (tail_draws (of_client c batches) tail c) (tails_from batches tails (c + 1))
      (fits_tail batches tail c (omega arith) (subst (λ (x : ℕ). AllByRecursion (IsShapedEvent schema) (left_of batches tail x)) here (is 0 tail refl)))
      (fits_tails batches tails (c + 1) (omega arith) (λ k t there. let next : c + suc k ≡ c + 1 + k = omega arith in subst (λ (x : ℕ). AllByRecursion (IsShapedEvent schema) (left_of batches t x)) next (is (suc k) t there)))

  -- what the batches' clients did is shaped where what each client did is
  own_shaped : (batches : List Batch) → ((c : ℕ) → AllByRecursion (IsShapedEvent schema) (all_events (map stretch_of (of_client c batches)))) → AllByRecursion (ShapedBatch schema) batches
  own_shaped [] is = tt
  own_shaped (b ∷ batches) is =
      let mine : AllByRecursion (IsShapedEvent schema) ((b.before ++ b.rest) ++ all_events (map stretch_of (of_client b.client batches))) = subst (λ (l : List Batch). AllByRecursion (IsShapedEvent schema) (all_events (map stretch_of l))) (of_client-here b.client b batches refl) (is b.client) in (
        first_part (IsShapedEvent schema) (b.before ++ b.rest) (all_events (map stretch_of (of_client b.client batches))) mine,
        own_shaped batches (λ c. elim (cases_eq b.client c) [
          | inl same ↦ second_part (IsShapedEvent schema) (b.before ++ b.rest) (all_events (map stretch_of (of_client c batches))) (subst (λ (l : List Batch). AllByRecursion (IsShapedEvent schema) (all_events (map stretch_of l))) (of_client-here c b batches same) (is c))
          | inr other ↦ subst (λ (l : List Batch). AllByRecursion (IsShapedEvent schema) (all_events (map stretch_of l))) (of_client-else c b batches other) (is c)
        ]),
      )

  -- the whole
  pub steps_fit : (batches : List Batch) (tails : List Tail) → length tails ≤ length names → length tails ≤ 8 → length batches < 2 ^ 30 → AllByRecursion (λ (b : Batch). b.client < length tails) batches
      → ((c : ℕ) → AllByRecursion (IsShapedEvent schema) (did batches tails c)) → Fit (steps_of batches tails)
  steps_fit batches tails named few_clients few_batches_here mine is =
      let opens : Draws = forks_at batches [] 0 tails 0 in
      let middle : Draws = batches_from batches tails [] batches in
      let left : Draws = tails_from batches tails 0 in
      let parts : (c : ℕ) (tail : Tail) → slice_get tails c ≡ Some tail → AllByRecursion (IsShapedEvent schema) (own_of batches c ++ left_of batches tail c) = λ c tail there. subst (AllByRecursion (IsShapedEvent schema)) (did_is batches tails c tail there) (is c) in
      let own : (c : ℕ) → AllByRecursion (IsShapedEvent schema) (own_of batches c) = λ c. elim (slice_get_cases tails c).1 [
        | inl there ↦ first_part (IsShapedEvent schema) (own_of batches c) (left_of batches there.0 c) (parts c there.0 there.2)
        | inr past ↦ subst (λ (l : List Batch). AllByRecursion (IsShapedEvent schema) (all_events (map stretch_of l))) (sym (none_of (length tails) c batches mine past.0)) tt
      ] in
      let tails_are : (k : ℕ) (tail : Tail) → slice_get tails k ≡ Some tail → AllByRecursion (IsShapedEvent schema) (left_of batches tail (0 + k)) = λ k tail there.
      let here : k ≡ 0 + k = omega arith in
      subst (λ (x : ℕ). AllByRecursion (IsShapedEvent schema) (left_of batches tail x)) here (second_part (IsShapedEvent schema) (own_of batches k) (left_of batches tail k) (parts k tail there)) in
      let whole : Fits (opens then middle then left) =
      fits_then (opens then middle) left (fits_then opens middle (fits_forks batches [] 0 tails 0 (omega arith)) (fits_batches batches tails [] batches named mine (own_shaped batches own))) (fits_tails batches tails 0 (omega arith) tails_are) in
      let first : Drawing = (opens first_drawing).1 in
      let then_ : Drawing = (middle first).1 in
      let joined : IsFew batches tails batches then_.next = few_batches batches tails [] batches first (few_first batches tails) in
      let few : (left then_).1.next ≤ 2 ^ 32 = omega (arith, few_tails batches tails 0 then_, at_most batches tails batches then_.next joined) in
      whole.steps first_drawing (record { some = omega arith; standing = λ c. omega arith; received = λ c. omega arith }) few
