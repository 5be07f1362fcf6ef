-- The steps of a sound record keep the laws.
use Rattle.batch_history.specs.Batches.{flat, of_client, stretch_of}
use Rattle.batch_history.specs.Right.{RightBehind, RightEvents, RightRecord, RightTail}
use Rattle.batch_history.specs.Sound.{EachFrom, FitsBehind}
use Rattle.cloud_base.specs.declared.batch.Batch.{Batch}
use Rattle.cloud_base.specs.declared.batch.Tail.{Tail}
use Rattle.cloud_base.specs.declared.update.Answer.{Answer}
use Rattle.cloud_base.specs.declared.update.Event.{Event}
use Rattle.cloud_base.specs.declared.update.Query.{Query}
use Rattle.cloud_base.specs.declared.update.Update.{Update}
use Rattle.record_diagram.proofs.Draw.{leads_then}
use Rattle.record_diagram.proofs.Fitting.{FittingRecord, FittingTail}
use Rattle.record_diagram.proofs.ForkRow.{AreAt, leads_forks}
use Rattle.record_diagram.proofs.Invariant.{Drawn, Laws, Status, idle, stands}
use Rattle.record_diagram.specs.SeenAt.{AnswerAt}
use Rattle.record_diagram.proofs.Joining.{Cut, TailsKnow, leads_batches, slice_none}
use Rattle.record_diagram.proofs.Statuses.{Leads, status_at, status_by, status_of}
use Rattle.record_diagram.proofs.Tails.{leads_tails, none_left, open_one, sent_cases}
use Rattle.record_diagram.specs.Steps.{base_of, batches_from, first_drawing, forks_at, next_base, steps_of, tails_from, ◌then◌}
use Rattle.revision_diagram.specs.Diagram.{EachFrom as EachStepFrom}
use Rattle.revision_diagram.specs.Right.{AnsweredRight, Right, log}
use Rattle.revision_diagram.specs.declared.step.Step.{Step}
use Rattle.revision_diagram.specs.declared.step.Step.TheVariants.{Ask, Do, Fork, Join, Mark, Say}
use Rattle.std.proofs.Common.{Bool, List, None, Some, [], ap, arith, cond, false, inl, inr, length, refl, subst, sym, take, ℕ, ◌++◌, ◌+◌, ◌∙◌, ◌∷◌, ◌≡◌, ◌≤◌}
use Rattle.std.proofs.lemmas.Bool.{le-ltb}
use Rattle.std.specs.Prelude.{map, slice_get, ⊤}
use Rattle.cloud_base.specs.declared.update.Event.TheVariants as event

tails_know : (batches : List Batch) (tails : List Tail) → FittingRecord batches tails → TailsKnow batches tails
tails_know batches tails sound c tail e n at = elim (sent_cases (of_client c batches) tail.sent) [
  | none_left none_open ↦ (sound.tail c tail e).known n (sym (ap (λ (l : List Batch). base_of (slice_get (map stretch_of l ++ tail.now ∷ []) 0)) none_open) ∙ at)
  | open_one b is_sent next opened ↦
      let facts : (b.client ≡ c) × FitsBehind batches b = elim ((sound.tail c tail e).sent b is_sent) [ inl before ↦ absurd (before.0 next) | inr fits ↦ fits ] in
      let base : Some b.base ≡ Some n = sym (ap (λ (l : List Batch). base_of (slice_get (map stretch_of l ++ tail.now ∷ []) 0)) opened) ∙ at in
      let same : b.base ≡ n = cc in
      subst (λ (k : ℕ). of_client c (take k batches) ≡ of_client c batches) same (subst (λ (x : ℕ). of_client x (take b.base batches) ≡ of_client x batches) facts.0 facts.1.known)
]

-- at the start the server is alone
pub drawn_first : (is_answer : List Update → Query → Answer → Type 0) → Drawn is_answer [] first_drawing [] (λ c. idle)
drawn_first is_answer = record {
  laws = record { lawful = tt; once = λ r l. (λ i. refl, refl); placed = tt; at_marks = tt; line = λ c. tt; right = tt };
  next = refl;
  server = refl;
  logs = refl;
  client = λ c. refl;
}

none_forked : (batches : List Batch) (tails : List Tail) → AreAt batches [] 0 0 tails (λ c. idle)
none_forked batches tails k tail e = elim (next_base batches [] tail (0 + k)) as (λ o. idle ≡ status_by [] 0 [] o) [
  | None ↦ refl
  | Some n ↦ sym (ap (λ (t : Bool). cond t (stands (flat [] n) [] None false) idle) (le-ltb n 0 (omega arith)))
]

pub whole_cut : (is_answer : List Update → Query → Answer → Type 0) (batches : List Batch) (tails : List Tail) → FittingRecord batches tails → RightRecord is_answer batches tails → Cut is_answer batches tails [] batches
whole_cut is_answer batches tails sound right = record { whole = refl; each = sound.each; right = right.each; clients = sound.clients; bases = tt; know = tails_know batches tails sound }

pub leads_opens : (is_answer : List Update → Query → Answer → Type 0) (batches : List Batch) (tails : List Tail) → Leads is_answer (forks_at batches [] 0 tails 0) [] (λ c. idle) [] (status_at batches tails [] 1)
leads_opens is_answer batches tails =
    let first : ℕ → Status = status_at batches tails [] 1 in
    leads_forks is_answer batches [] tails 0 (λ c. idle) first (none_forked batches tails)
    (λ k t e. let zero_here : k ≡ 0 + k = omega arith in subst (λ (x : ℕ). first x ≡ status_by [] 1 [] (next_base batches [] t x)) zero_here (ap (status_of batches [] 1 k) e))
    (λ x where_x. let past_end : length tails ≤ x = elim where_x [ inl less ↦ omega arith | inr more ↦ omega arith ] in sym (ap (status_of batches [] 1 x) (slice_none tails x past_end)))

pub last_at : (batches : List Batch) (tails : List Tail) → AreAt batches batches (length batches + 1) 0 tails (status_at batches tails batches (length batches + 1))
last_at batches tails k t e =
    let last : ℕ → Status = status_at batches tails batches (length batches + 1) in
    let zero_here : k ≡ 0 + k = omega arith in subst (λ (x : ℕ). last x ≡ status_by batches (length batches + 1) (of_client x batches) (next_base batches batches t x)) zero_here (ap (status_of batches batches (length batches + 1) k) e)

pub tail_facts : (is_answer : List Update → Query → Answer → Type 0) (batches : List Batch) (tails : List Tail) → FittingRecord batches tails → RightRecord is_answer batches tails → (k : ℕ) (tail : Tail) → slice_get tails k ≡ Some tail → FittingTail batches (0 + k) tail × RightTail is_answer batches (0 + k) tail
tail_facts is_answer batches tails sound right k t e = let zero_here : k ≡ 0 + k = omega arith in subst (λ (x : ℕ). FittingTail batches x t × RightTail is_answer batches x t) zero_here (sound.tail k t e, right.tail k t e)

pub leads_record : (is_answer : List Update → Query → Answer → Type 0) (batches : List Batch) (tails : List Tail) → FittingRecord batches tails → RightRecord is_answer batches tails
    → (later : ℕ → Status) × Leads is_answer (forks_at batches [] 0 tails 0 then batches_from batches tails [] batches then tails_from batches tails 0) [] (λ c. idle) (flat batches (length batches)) later
leads_record is_answer batches tails sound right =
    let log : List Update = flat batches (length batches) in
    let first : ℕ → Status = status_at batches tails [] 1 in
    let last : ℕ → Status = status_at batches tails batches (length batches + 1) in
    let ends = leads_tails is_answer batches tails 0 last (tail_facts is_answer batches tails sound right) (last_at batches tails) in (
      ends.0,
      leads_then is_answer (forks_at batches [] 0 tails 0 then batches_from batches tails [] batches) (tails_from batches tails 0) [] log log (λ c. idle) last ends.0
          (leads_then is_answer (forks_at batches [] 0 tails 0) (batches_from batches tails [] batches) [] [] log (λ c. idle) first last (leads_opens is_answer batches tails) (leads_batches is_answer batches tails [] batches (whole_cut is_answer batches tails sound right)))
          ends.1,
    )

-- THE THEOREM: the laws, and each answer is one of what its client had seen
pub laws_of_record : (is_answer : List Update → Query → Answer → Type 0) (batches : List Batch) (tails : List Tail) → FittingRecord batches tails → RightRecord is_answer batches tails → Laws is_answer (steps_of batches tails)
laws_of_record is_answer batches tails sound right =
    let all = leads_record is_answer batches tails sound right in
    let d = all.1 [] first_drawing (drawn_first is_answer) in
    d.laws

-- nothing asked of answers
abbrev pub Any : List Update → Query → Answer → Type 0
Any log q a = ⊤

any_events : (seen : List Update) (events : List Event) → RightEvents Any seen events
any_events seen [] = tt
any_events seen (event.Do u ∷ events) = any_events (seen ++ u ∷ []) events
any_events seen (event.Ask q a ∷ events) = (tt, any_events seen events)
any_events seen (event.Say v ∷ events) = any_events seen events
any_events seen (event.Yield ∷ events) = any_events seen events
any_events seen (event.Flush ∷ events) = any_events seen events

any_batches : (front batches : List Batch) → EachFrom (RightBehind Any) front batches
any_batches front [] = tt
any_batches front (b ∷ batches) = (record { before = any_events _ b.before; rest = any_events _ b.rest }, any_batches (front ++ b ∷ []) batches)

pub any_record : (batches : List Batch) (tails : List Tail) → RightRecord Any batches tails
any_record batches tails = record { each = any_batches [] batches; tail = λ c t e. record { sent = λ b o. record { before = any_events _ b.before; rest = any_events _ b.rest }; before = any_events _ t.now.before; rest = λ n o. any_events _ t.now.rest } }

pub laws_of_any : (batches : List Batch) (tails : List Tail) → FittingRecord batches tails → Laws Any (steps_of batches tails)
laws_of_any batches tails sound = laws_of_record Any batches tails sound (any_record batches tails)

-- answers that are right
right_at : (answers : List Update → Query → Answer) (front : List Step) (s : Step) → AnswerAt (λ log q a. a ≡ answers log q) front s → Right answers front s
right_at answers front (Fork r c) h = tt
right_at answers front (Join r s) h = tt
right_at answers front (Do r u) h = tt
right_at answers front (Ask r q a) h = h
right_at answers front (Say r v) h = tt
right_at answers front (Mark r flush) h = tt

right_from : (answers : List Update → Query → Answer) (front steps : List Step) → EachStepFrom (AnswerAt (λ log q a. a ≡ answers log q)) front steps → EachStepFrom (Right answers) front steps
right_from answers front [] h = tt
right_from answers front (s ∷ steps) h = (right_at answers front s h.0, right_from answers (front ++ s ∷ []) steps h.1)

pub answered_right : (answers : List Update → Query → Answer) (batches : List Batch) (tails : List Tail) → FittingRecord batches tails → RightRecord (λ log q a. a ≡ answers log q) batches tails → AnsweredRight answers (steps_of batches tails)
answered_right answers batches tails sound right = right_from answers [] (steps_of batches tails) (laws_of_record (λ log q a. a ≡ answers log q) batches tails sound right).right
