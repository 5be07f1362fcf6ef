-- What is left of a client when all batches are joined: what it sent, and its stretch at the end.
use Rattle.batch_history.specs.Batches.{flat, last_seen, of_client, stretch_of, unjoined, updates_in}
use Rattle.batch_history.specs.Right.{RightEvents, RightTail}
use Rattle.batch_history.specs.Sound.{FitsBehind}
use Rattle.cloud_base.specs.Events.{updates_of}
use Rattle.cloud_base.specs.declared.batch.Batch.{Batch}
use Rattle.cloud_base.specs.declared.batch.Stretch.{Stretch}
use Rattle.cloud_base.specs.declared.batch.Tail.{Tail}
use Rattle.cloud_base.specs.declared.update.Answer.{Answer}
use Rattle.cloud_base.specs.declared.update.Event.{Event}
use Rattle.cloud_base.specs.declared.update.Query.{Query}
use Rattle.cloud_base.specs.declared.update.Update.{Update}
use Rattle.record_diagram.proofs.BatchRun.{run_batch}
use Rattle.record_diagram.proofs.Batches.{last_seen-last, next_base-later}
use Rattle.record_diagram.proofs.Draw.{leads_events, leads_events_parted, leads_idle, leads_send, leads_then, marked_after}
use Rattle.record_diagram.proofs.Fitting.{FittingTail}
use Rattle.record_diagram.proofs.ForkRow.{AreAt}
use Rattle.record_diagram.proofs.Invariant.{Status, idle, parted, stands}
use Rattle.record_diagram.proofs.Statuses.{Leads, status_by}
use Rattle.record_diagram.proofs.Stretches.{leads_before, leads_on, leads_opening, leads_pulling}
use Rattle.record_diagram.specs.Steps.{Drawing, Draws, base_of, event_step, events_on, is_zero, next_base, run_sent, run_stretch, send, tails_from, ◌then◌}
use Rattle.revision_diagram.proofs.KeepsOnce.{put-else, put-here}
use Rattle.revision_diagram.specs.Diagram.{put}
use Rattle.revision_diagram.specs.Right.{log}
use Rattle.std.proofs.Common.{Bool, List, None, Option, Some, [], ap, append-nil, arith, cond, false, inl, inr, length, refl, subst, sym, true, ℕ, ◌++◌, ◌+◌, ◌∙◌, ◌∷◌, ◌≡◌, ◌≤◌, ◌⊎◌}
use Rattle.std.proofs.lemmas.Bool.{cases_eq, eq-eqb, lt-ltb, ne_eqb}
use Rattle.std.specs.Prelude.{map, slice_get, suc, ◌≢◌}
use Rattle.record_diagram.specs.Steps as steps

-- what was sent and isn't joined
pub data Sent (own : List Batch) (sent : Option Batch) : Type 0 where
  none_left : unjoined own sent ≡ [] → Sent own sent
  open_one : (b : Batch) → sent ≡ Some b → b.round ≡ length own + 1 → unjoined own sent ≡ b ∷ [] → Sent own sent

pub sent_cases : (own : List Batch) (sent : Option Batch) → Sent own sent
sent_cases own None = none_left refl
sent_cases own (Some b) = elim (cases_eq b.round (length own + 1)) [
  | inl next ↦ open_one b refl next (ap (λ (t : Bool). cond t (b ∷ []) []) (eq-eqb b.round (length own + 1) next))
  | inr other ↦ none_left (ap (λ (t : Bool). cond t (b ∷ []) []) (ne_eqb b.round (length own + 1) other))
]

pub next_base-tail : (batches : List Batch) (tail : Tail) (c : ℕ) (more : List Batch) → unjoined (of_client c batches) tail.sent ≡ more → next_base batches batches tail c ≡ base_of (slice_get (map stretch_of more ++ tail.now ∷ []) 0)
next_base-tail batches tail c more e = next_base-later batches batches [] tail c (sym (append-nil batches)) ∙ ap (λ (l : List Batch). base_of (slice_get (map stretch_of l ++ tail.now ∷ []) 0)) e

-- a draw that leaves the other clients and what is joined
abbrev pub Ends : (List Update → Query → Answer → Type 0) → ℕ → Draws → List Update → (ℕ → Status) → Type 0
Ends is_answer c draw log status = (v : Status) × Leads is_answer draw log status log (put c v status)

-- the stretch behind one that was sent
ends_parted : (is_answer : List Update → Query → Answer → Type 0) (c : ℕ) (is_first : Bool) (now : Stretch) (log : List Update) (status : ℕ → Status) (seen : List Update) → status c ≡ parted seen → now.base ≡ None → now.rest ≡ [] → RightEvents is_answer seen now.before → Ends is_answer c (run_stretch c is_first now) log status
ends_parted is_answer c is_first now log status seen at no_base no_rest right =
    let v : Status = parted (seen ++ updates_of now.before) in (
      v,
      subst (λ (o : Option ℕ). Leads is_answer (run_stretch c is_first (record { base = o; before = now.before; rest = now.rest })) log status log (put c v status)) (sym no_base)
          (subst (λ (r : List Event). Leads is_answer (run_stretch c is_first (record { base = None; before = now.before; rest = r })) log status log (put c v status)) (sym no_rest)
          (leads_before is_answer c is_first now.before log status v (leads_events_parted is_answer c now.before log status seen at right))),
    )

-- the stretch behind one whose push is joined, where its reply didn't come
ends_waiting : (is_answer : List Update → Query → Answer → Type 0) (c : ℕ) (is_first : Bool) (now : Stretch) (log : List Update) (status : ℕ → Status) (seen : List Update) → status c ≡ stands seen [] None true → now.base ≡ None → now.rest ≡ [] → RightEvents is_answer seen now.before → Ends is_answer c (run_stretch c is_first now) log status
ends_waiting is_answer c is_first now log status seen at no_base no_rest right =
    let v : Status = stands (seen ++ updates_of now.before) (updates_of now.before) None (marked_after true now.before) in (
      v,
      subst (λ (o : Option ℕ). Leads is_answer (run_stretch c is_first (record { base = o; before = now.before; rest = now.rest })) log status log (put c v status)) (sym no_base)
          (subst (λ (r : List Event). Leads is_answer (run_stretch c is_first (record { base = None; before = now.before; rest = r })) log status log (put c v status)) (sym no_rest)
          (leads_before is_answer c is_first now.before log status v (leads_events is_answer c now.before log status seen [] None true at right))),
    )

pub option_cases : {A : Type 0} (o : Option A) → (o ≡ None) ⊎ ((x : A) × (o ≡ Some x))
option_cases None = inl refl
option_cases (Some x) = inr (x, refl)

-- a next round is open
pub nothing_open : (batches : List Batch) (c : ℕ) (tail : Tail) (b : Batch) → of_client c batches ≡ [] → tail.sent ≡ Some b → b.client ≡ c → FitsBehind batches b → unjoined (of_client c batches) tail.sent ≡ [] → ⊥
nothing_open batches c tail b owns is_sent mine fits none_open =
    let next : b.round ≡ length (of_client c batches) + 1 = fits.round ∙ ap (λ (x : ℕ). length (of_client x batches) + 1) mine in
    let opened : unjoined (of_client c batches) tail.sent ≡ b ∷ [] = ap (unjoined (of_client c batches)) is_sent ∙ ap (λ (t : Bool). cond t (b ∷ []) []) (eq-eqb b.round (length (of_client c batches) + 1) next) in
    let e : b ∷ [] ≡ [] = sym opened ∙ none_open in cc

-- the last stretch, where all that was sent is joined
ends_last : (is_answer : List Update → Query → Answer → Type 0) (batches : List Batch) (c : ℕ) (tail : Tail) (status : ℕ → Status) (own : List Batch) (base : Option ℕ) → of_client c batches ≡ own → tail.now.base ≡ base → FittingTail batches c tail → RightTail is_answer batches c tail → unjoined (of_client c batches) tail.sent ≡ []
    → status c ≡ status_by batches (length batches + 1) own base → Ends is_answer c (run_stretch c (is_zero (length own)) tail.now) (flat batches (length batches)) status
ends_last is_answer batches c tail status [] None owns based sound right none_open at =
    let facts = sound.based based in
    elim (option_cases tail.sent) [
      | inl none ↦ absurd (facts.0 none)
      | inr some ↦ elim (sound.sent some.0 some.1) [
        | inl before ↦ absurd (before.1 owns)
        | inr next ↦ absurd (nothing_open batches c tail some.0 owns some.1 next.0 next.1 none_open)
      ]
    ]
ends_last is_answer batches c tail status (x ∷ own) None owns based sound right none_open at =
    ends_waiting is_answer c false tail.now (flat batches (length batches)) status (last_seen batches [] (x ∷ own)) at based (sound.based based).1
    (subst (λ (l : List Batch). RightEvents is_answer (last_seen batches [] l) tail.now.before) (ap (λ (l : List Batch). of_client c batches ++ l) none_open ∙ append-nil (of_client c batches) ∙ owns) right.before)
ends_last is_answer batches c tail status [] (Some n) owns based sound right none_open at =
    let log : List Update = flat batches (length batches) in
    let in_time : n ≤ length batches = sound.base n based in
    let empty : tail.now.before ≡ [] = sound.first n based owns in
    let now : status c ≡ stands (flat batches n) [] None false = at ∙ ap (λ (t : Bool). cond t (stands (flat batches n) [] None false) idle) (lt-ltb n (length batches + 1) (omega arith)) in
    let right_rest : RightEvents is_answer (flat batches n) tail.now.rest = subst (λ (l : List Update). RightEvents is_answer l tail.now.rest) (ap (λ (l : List Event). flat batches n ++ updates_of l) empty ∙ append-nil (flat batches n)) (right.rest n based) in (
      stands (flat batches n ++ updates_of tail.now.rest) (updates_of tail.now.rest) None (marked_after false tail.now.rest),
      leads_opening is_answer c tail.now log status (flat batches n) [] false now empty right_rest,
    )
ends_last is_answer batches c tail status (x ∷ own) (Some n) owns based sound right none_open at =
    let log : List Update = flat batches (length batches) in
    let seen : List Update = last_seen batches [] (x ∷ own) in
    let in_time : n ≤ length batches = sound.base n based in
    let now : status c ≡ stands (last_seen batches [] (x ∷ own)) [] (Some (flat batches n)) true = at ∙ ap (λ (t : Bool). stands seen [] (cond t (Some (flat batches n)) None) true) (lt-ltb n (length batches + 1) (omega arith)) in
    let right_before : RightEvents is_answer (last_seen batches [] (x ∷ own)) tail.now.before = subst (λ (l : List Batch). RightEvents is_answer (last_seen batches [] l) tail.now.before) (ap (λ (l : List Batch). of_client c batches ++ l) none_open ∙ append-nil (of_client c batches) ∙ owns) right.before in
    let v : Status = stands ((flat batches n ++ updates_of tail.now.before) ++ updates_of tail.now.rest) (updates_of tail.now.before ++ updates_of tail.now.rest) None (marked_after true tail.now.rest) in (
      v,
      subst (λ (o : Option ℕ). Leads is_answer (run_stretch c false (record { base = o; before = tail.now.before; rest = tail.now.rest })) log status log (put c v status)) (sym based)
          (leads_pulling is_answer c n tail.now.before tail.now.rest log status seen (flat batches n) now (sound.before n based) right_before (right.rest n based)),
    )

-- one client's tail
pub ends_tail : (is_answer : List Update → Query → Answer → Type 0) (batches : List Batch) (c : ℕ) (tail : Tail) (status : ℕ → Status) → FittingTail batches c tail → RightTail is_answer batches c tail → status c ≡ status_by batches (length batches + 1) (of_client c batches) (next_base batches batches tail c)
    → Ends is_answer c (run_sent c (is_zero (length (of_client c batches))) (unjoined (of_client c batches) tail.sent) then run_stretch c (is_zero (length (of_client c batches) + length (unjoined (of_client c batches) tail.sent))) tail.now) (flat batches (length batches)) status
ends_tail is_answer batches c tail status sound right at =
    let own : List Batch = of_client c batches in
    let log : List Update = flat batches (length batches) in
    elim (sent_cases (of_client c batches) tail.sent) [
      | none_left none_open ↦
          let at_now : status c ≡ status_by batches (length batches + 1) (of_client c batches) tail.now.base = at ∙ ap (λ (o : Option ℕ). status_by batches (length batches + 1) own o) (next_base-tail batches tail c [] none_open) in
          let last : Ends is_answer c (run_stretch c (is_zero (length (of_client c batches))) tail.now) (flat batches (length batches)) status = ends_last is_answer batches c tail status own tail.now.base refl refl sound right none_open at_now in
          let v : Status = last.0 in
          let count : length (of_client c batches) ≡ length (of_client c batches) + 0 = omega arith in (
            v,
            subst (λ (l : List Batch). Leads is_answer (run_sent c (is_zero (length own)) l then run_stretch c (is_zero (length own + length l)) tail.now) log status log (put c v status)) (sym none_open)
                (leads_then is_answer steps.idle (run_stretch c (is_zero (length own + 0)) tail.now) log log log status status (put c v status) (leads_idle is_answer log status)
                (subst (λ (n : ℕ). Leads is_answer (run_stretch c (is_zero n) tail.now) log status log (put c v status)) count last.1)),
          )
      | open_one b is_sent next opened ↦
          let facts : (b.client ≡ c) × FitsBehind batches b = elim (sound.sent b is_sent) [ inl before ↦ absurd (before.0 next) | inr fits ↦ fits ] in
          let seen : List Update = flat batches b.base ++ updates_in b in
          let at_sent : status c ≡ status_by batches (length batches + 1) (of_client c batches) (Some b.base) = at ∙ ap (λ (o : Option ℕ). status_by batches (length batches + 1) own o) (next_base-tail batches tail c (b ∷ []) opened) in
          let v : Status = stands (flat batches b.base ++ updates_in b) (updates_in b) None true in
          let w : Status = parted (flat batches b.base ++ updates_in b) in
          let ran : Leads is_answer (run_stretch c (is_zero (length (of_client c batches))) (stretch_of b)) (flat batches (length batches)) status (flat batches (length batches)) (put c (stands (flat batches b.base ++ updates_in b) (updates_in b) None true) status) =
          subst (λ (x : ℕ). Leads is_answer (run_stretch x (is_zero (length own)) (stretch_of b)) log status log (put x v status)) facts.0
          (run_batch is_answer batches b status own facts.1 (right.sent b opened) (ap (λ (x : ℕ). of_client x batches) facts.0) (ap status facts.0 ∙ at_sent)) in
          let no_base : tail.now.base ≡ None = elim (option_cases tail.now.base) [ inl none ↦ none | inr some ↦ let e : Some b ≡ None = sym is_sent ∙ sound.unsent some.0 some.1 in cc ] in
          let right_before : RightEvents is_answer (flat batches b.base ++ updates_in b) tail.now.before = subst (λ (l : List Update). RightEvents is_answer l tail.now.before) (ap (λ (l : List Batch). last_seen batches [] (own ++ l)) opened ∙ last_seen-last batches own [] b) right.before in
          let is_first : Bool = is_zero (length own + 1) in
          let last : Ends is_answer c (run_stretch c (is_zero (length (of_client c batches) + 1)) tail.now) (flat batches (length batches)) (put c (parted (flat batches b.base ++ updates_in b)) status) = ends_parted is_answer c is_first tail.now log (put c w status) seen (put-here c c w status refl) no_base (sound.based no_base).1 right_before in
          let z : Status = last.0 in (
            z,
            subst (λ (l : List Batch). Leads is_answer (run_sent c (is_zero (length own)) l then run_stretch c (is_zero (length own + length l)) tail.now) log status log (put c z status)) (sym opened)
                (leads_on is_answer c (run_stretch c (is_zero (length own)) (stretch_of b) then send c) (run_stretch c is_first tail.now) log log log status w z
                (leads_on is_answer c (run_stretch c (is_zero (length own)) (stretch_of b)) (send c) log log log status v w ran
                (leads_send is_answer c log (put c v status) seen (updates_in b) None (put-here c c v status refl)))
                last.1),
          )
    ]

-- all tails, from client c on
pub leads_tails : (is_answer : List Update → Query → Answer → Type 0) (batches : List Batch) (tails : List Tail) (c : ℕ) (status : ℕ → Status) → ((k : ℕ) (tail : Tail) → slice_get tails k ≡ Some tail → FittingTail batches (c + k) tail × RightTail is_answer batches (c + k) tail)
    → AreAt batches batches (length batches + 1) c tails status → (later : ℕ → Status) × Leads is_answer (tails_from batches tails c) (flat batches (length batches)) status (flat batches (length batches)) later
leads_tails is_answer batches [] c status facts at = (status, leads_idle is_answer (flat batches (length batches)) status)
leads_tails is_answer batches (tail ∷ tails) c status facts at =
    let log : List Update = flat batches (length batches) in
    let zero_here : c + 0 ≡ c = omega arith in
    let sound : FittingTail batches c tail = subst (λ (x : ℕ). FittingTail batches x tail) zero_here (facts 0 tail refl).0 in
    let right : RightTail is_answer batches c tail = subst (λ (x : ℕ). RightTail is_answer batches x tail) zero_here (facts 0 tail refl).1 in
    let here : status c ≡ status_by batches (length batches + 1) (of_client c batches) (next_base batches batches tail c) = subst (λ (x : ℕ). status x ≡ status_by batches (length batches + 1) (of_client x batches) (next_base batches batches tail x)) zero_here (at 0 tail refl) in
    let one = ends_tail is_answer batches c tail status sound right here in
    let v : Status = one.0 in
    let rest = leads_tails is_answer batches tails (c + 1) (put c v status)
    (λ k t e. let moved : c + suc k ≡ c + 1 + k = omega arith in subst (λ (x : ℕ). FittingTail batches x t × RightTail is_answer batches x t) moved (facts (suc k) t e))
    (λ k t e. let moved : c + suc k ≡ c + 1 + k = omega arith in let not_c : c + 1 + k ≢ c = λ w. omega arith in put-else c (c + 1 + k) v status not_c ∙ subst (λ (x : ℕ). status x ≡ status_by batches (length batches + 1) (of_client x batches) (next_base batches batches t x)) moved (at (suc k) t e)) in
    (rest.0, leads_then is_answer (run_sent c (is_zero (length (of_client c batches))) (unjoined (of_client c batches) tail.sent) then run_stretch c (is_zero (length (of_client c batches) + length (unjoined (of_client c batches) tail.sent))) tail.now) (tails_from batches tails (c + 1)) log log log status (put c v status) rest.0 one.1 rest.1)
