-- What the steps of a record tell: for each client what it did.
use Rattle.batch_history.specs.Batches.{flat, last_seen, of_client, stretch_of, unjoined, updates_in}
use Rattle.batch_history.specs.Right.{RightRecord, RightTail}
use Rattle.batch_history.specs.Sound.{FitsBehind}
use Rattle.cloud_base.specs.declared.batch.Batch.{Batch}
use Rattle.cloud_base.specs.declared.batch.Tail.{Tail}
use Rattle.cloud_base.specs.declared.update.Answer.{Answer}
use Rattle.cloud_base.specs.declared.update.Event.{Event}
use Rattle.cloud_base.specs.declared.update.Query.{Query}
use Rattle.cloud_base.specs.declared.update.Update.{Update}
use Rattle.record_diagram.proofs.BatchRun.{run_batch}
use Rattle.record_diagram.proofs.Batches.{next_base-batch}
use Rattle.record_diagram.proofs.Fitting.{FittingRecord, FittingTail}
use Rattle.record_diagram.proofs.ForkRow.{AreAt, slice_there}
use Rattle.record_diagram.proofs.Invariant.{Drawn, IsAt, Standing, Status, idle, stands}
use Rattle.record_diagram.proofs.Joining.{Cut, cut_on, leads_batches, leads_one}
use Rattle.record_diagram.proofs.Statuses.{Leads, status_at, status_by, status_of}
use Rattle.record_diagram.proofs.Tails.{ends_tail, next_base-tail, none_left, nothing_open, open_one, option_cases, sent_cases}
use Rattle.record_diagram.proofs.Theorem.{Any, any_record, drawn_first, last_at, leads_opens, tail_facts, whole_cut}
use Rattle.record_diagram.proofs.Told.{both, told_Fork, told_Join, told_stretch}
use Rattle.record_diagram.proofs.Did.{told, did_in, did_last, tail_events, told_by}
use Rattle.record_diagram.specs.Steps.{Drawing, Draws, base_of, batches_from, event_step, first_drawing, fork_for, fork_if, forks_at, is_zero, next_base, not_opening, push, run_sent, run_stretch, same_base, send, steps_of, tails_from, ◌then◌}
use Rattle.revision_diagram.proofs.Draws.{owner-Fork}
use Rattle.revision_diagram.proofs.KeepsOnce.{put-else, put-here}
use Rattle.revision_diagram.specs.Diagram.{owner, put, revisions}
use Rattle.revision_diagram.specs.Right.{log}
use Rattle.revision_diagram.specs.Story.{events}
use Rattle.revision_diagram.specs.declared.step.Step.{Step}
use Rattle.revision_diagram.specs.declared.step.Step.TheVariants.{Fork, Join}
use Rattle.std.proofs.Common.{Bool, List, None, Option, Some, [], ap, append-nil, arith, cond, false, inl, inr, length, refl, subst, sym, true, ℕ, ◌++◌, ◌+◌, ◌<◌, ◌∙◌, ◌∷◌, ◌≡◌, ◌≤◌}
use Rattle.std.proofs.lemmas.Bool.{false≢true, lt-ltb}
use Rattle.std.proofs.lemmas.List.{append_assoc}
use Rattle.std.specs.Prelude.{slice_get, suc, ◌==◌, ◌≢◌}
use Rattle.record_diagram.specs.Steps as steps

-- a draw here tells this of x
abbrev pub Tells : Draws → List Step → Drawing → ℕ → List Event → Type 0
Tells draw front d x more = events (front ++ (draw d).0) x ≡ events front x ++ more

pub tells_then : (first second : Draws) (front : List Step) (d : Drawing) (x : ℕ) (more further : List Event) → Tells first front d x more → Tells second (front ++ (first d).0) (first d).1 x further → Tells (first then second) front d x (more ++ further)
tells_then first second front d x more further h k =
    ap (λ (l : List Step). events l x) (sym (append_assoc front (first d).0 (second (first d).1).0)) ∙ k ∙ ap (λ (l : List Event). l ++ further) h ∙ append_assoc (events front x) more further

-- a draw that tells nothing, behind another one
pub tells_silent : (first second : Draws) (front : List Step) (d : Drawing) (x : ℕ) (more : List Event) → Tells first front d x more → Tells second (front ++ (first d).0) (first d).1 x [] → Tells (first then second) front d x more
tells_silent first second front d x more h k = tells_then first second front d x more [] h k ∙ ap (λ (l : List Event). events front x ++ l) (append-nil more)

tells_idle : (front : List Step) (d : Drawing) (x : ℕ) → Tells steps.idle front d x []
tells_idle front d x = ap (λ (l : List Step). events l x) (append-nil front) ∙ sym (append-nil (events front x))

tells_push : (c : ℕ) (front : List Step) (d : Drawing) (x : ℕ) → Tells (push c) front d x []
tells_push c front d x =
    let s : ℕ = d.standing c in
    ap (λ (l : List Step). events l x) (sym (append_assoc front (Fork s c ∷ []) (Join 0 s ∷ []))) ∙ told_Join (front ++ Fork s c ∷ []) 0 s x ∙ told_Fork front s c x ∙ sym (append-nil (events front x))

tells_fork : (is_due : Bool) (c : ℕ) (is_first : Bool) (front : List Step) (d : Drawing) (x : ℕ) → Tells (fork_if is_due c is_first) front d x []
tells_fork false c is_first front d x = tells_idle front d x
tells_fork true c true front d x = told_Fork front 0 c x ∙ sym (append-nil (events front x))
tells_fork true c false front d x = told_Fork front 0 c x ∙ sym (append-nil (events front x))

tells_forks : (batches joined : List Batch) (i : ℕ) (tails : List Tail) (c : ℕ) (front : List Step) (d : Drawing) (x : ℕ) → Tells (forks_at batches joined i tails c) front d x []
tells_forks batches joined i [] c front d x = tells_idle front d x
tells_forks batches joined i (tail ∷ tails) c front d x =
    let is_due : Bool = same_base i (next_base batches joined tail c) in
    let is_first : Bool = is_zero (length (of_client c joined)) in
    let draw : Draws = fork_if is_due c is_first in
    tells_silent draw (forks_at batches joined i tails (c + 1)) front d x []
    (tells_fork is_due c is_first front d x)
    (tells_forks batches joined i tails (c + 1) (front ++ (draw d).0) (draw d).1 x)

-- whose the revisions are that a stretch is on
pub record Owned (front : List Step) (d : Drawing) (c : ℕ) (pulls : Bool) : Type 0 where
  pub stands_owned : owner front (d.standing c) ≡ Some c
  pub received_owned : pulls ≡ true → owner front (d.received c) ≡ Some c

owned_at : (is_answer : List Update → Query → Answer → Type 0) (front : List Step) (d : Drawing) (log : List Update) (status : ℕ → Status) (c : ℕ) (v : Status) → Drawn is_answer front d log status → status c ≡ v → IsAt front c (d.standing c) (d.received c) v
owned_at is_answer front d log status c v h e = subst (λ (t : Status). IsAt front c (d.standing c) (d.received c) t) e (h.client c)

-- the client of a next stretch with a base below m
pub owned_based : (is_answer : List Update → Query → Answer → Type 0) (front : List Step) (d : Drawing) (log : List Update) (status : ℕ → Status) (c : ℕ) (joined own : List Batch) (n : ℕ) → n ≤ length joined → Drawn is_answer front d log status → status c ≡ status_by joined (length joined + 1) own (Some n) → Owned front d c (not_opening (is_zero (length own)) (Some n))
owned_based is_answer front d log status c joined [] n l h e =
    let now : Standing front c (d.standing c) (d.received c) (flat joined n) [] None false = owned_at is_answer front d log status c (stands (flat joined n) [] None false) h (e ∙ ap (λ (t : Bool). cond t (stands (flat joined n) [] None false) idle) (lt-ltb n (length joined + 1) (omega arith))) in
    record { stands_owned = now.stands.owner; received_owned = λ k. absurd (false≢true k) }
owned_based is_answer front d log status c joined (b ∷ own) n l h e =
    let seen : List Update = last_seen joined [] (b ∷ own) in
    let now : Standing front c (d.standing c) (d.received c) (last_seen joined [] (b ∷ own)) [] (Some (flat joined n)) true = owned_at is_answer front d log status c (stands seen [] (Some (flat joined n)) true) h (e ∙ ap (λ (t : Bool). stands seen [] (cond t (Some (flat joined n)) None) true) (lt-ltb n (length joined + 1) (omega arith))) in
    record { stands_owned = now.stands.owner; received_owned = λ k. now.awaits.received.owner }

pub tells_batches : (is_answer : List Update → Query → Answer → Type 0) (batches : List Batch) (tails : List Tail) (joined rest : List Batch) → Cut is_answer batches tails joined rest → (front : List Step) (d : Drawing) → Drawn is_answer front d (flat joined (length joined)) (status_at batches tails joined (length joined + 1)) → (x : ℕ) → Tells (batches_from batches tails joined rest) front d x (did_in x rest)
tells_batches is_answer batches tails joined [] cut front d h x = tells_idle front d x
tells_batches is_answer batches tails joined (b ∷ rest) cut front d h x =
    let c : ℕ = b.client in
    let after : List Batch = joined ++ b ∷ [] in
    let log : List Update = flat joined (length joined) in
    let status : ℕ → Status = status_at batches tails joined (length joined + 1) in
    let there : b.client < length tails = cut.clients.0 in
    let tail = slice_there tails b.client there in
    let at : status_at batches tails joined (length joined + 1) b.client ≡ status_by joined (length joined + 1) (of_client b.client joined) (Some b.base) =
    ap (status_of batches joined (length joined + 1) c) tail.1 ∙ ap (λ (o : Option ℕ). status_by joined (length joined + 1) (of_client c joined) o) (next_base-batch batches joined rest b tail.0 cut.whole) in
    let is_first : Bool = is_zero (length (of_client c joined)) in
    let run : Draws = run_stretch c is_first (stretch_of b) in
    let forks : Draws = forks_at batches after (length joined + 1) tails 0 in
    let whole : Draws = run then push c then forks in
    let mine : Owned front d b.client (not_opening (is_zero (length (of_client b.client joined))) (Some b.base)) = owned_based is_answer front d log status c joined (of_client c joined) b.base cut.each.0.base h at in
    let two : Draws = run then push c in
    tells_then whole (batches_from batches tails after rest) front d x (told_by c x (b.before ++ b.rest)) (did_in x rest)
    (tells_silent two forks front d x (told_by c x (b.before ++ b.rest))
    (tells_silent run (push c) front d x (told_by c x (b.before ++ b.rest)) (told_stretch front c x is_first (stretch_of b) d mine.stands_owned mine.received_owned) (tells_push c (front ++ (run d).0) (run d).1 x))
    (tells_forks batches after (length joined + 1) tails 0 (front ++ (two d).0) (two d).1 x))
    (tells_batches is_answer batches tails after rest (cut_on is_answer batches tails joined b rest cut) (front ++ (whole d).0) (whole d).1 (leads_one is_answer batches tails joined b rest cut front d h) x)

pub never_pulls : (is_first : Bool) (base : Option ℕ) → base ≡ None → not_opening is_first base ≡ true → ⊥
never_pulls true base e k = false≢true k
never_pulls false base e k = false≢true (sym (ap (not_opening false) e) ∙ k)

-- the client of a last stretch
pub owned_last : (is_answer : List Update → Query → Answer → Type 0) (front : List Step) (d : Drawing) (log : List Update) (status : ℕ → Status) (batches : List Batch) (c : ℕ) (tail : Tail) (own : List Batch) (base : Option ℕ) → of_client c batches ≡ own → tail.now.base ≡ base → FittingTail batches c tail → unjoined (of_client c batches) tail.sent ≡ [] → Drawn is_answer front d log status → status c ≡ status_by batches (length batches + 1) own base → Owned front d c (not_opening (is_zero (length own)) base)
owned_last is_answer front d log status batches c tail [] None owns based sound none_open h at = record {
  stands_owned = elim (option_cases tail.sent) [
    | inl none ↦ absurd ((sound.based based).0 none)
    | inr some ↦ elim (sound.sent some.0 some.1) [
      | inl before ↦ absurd (before.1 owns)
      | inr next ↦ absurd (nothing_open batches c tail some.0 owns some.1 next.0 next.1 none_open)
    ]
  ];
  received_owned = λ k. absurd (false≢true k);
}
owned_last is_answer front d log status batches c tail (b ∷ own) None owns based sound none_open h at =
    let now : Standing front c (d.standing c) (d.received c) (last_seen batches [] (b ∷ own)) [] None true = owned_at is_answer front d log status c (stands (last_seen batches [] (b ∷ own)) [] None true) h at in
    record { stands_owned = now.stands.owner; received_owned = λ k. absurd (false≢true k) }
owned_last is_answer front d log status batches c tail own (Some n) owns based sound none_open h at = owned_based is_answer front d log status c batches own n (sound.base n based) h at

pub tells_tail : (is_answer : List Update → Query → Answer → Type 0) (batches : List Batch) (c : ℕ) (tail : Tail) (front : List Step) (d : Drawing) (status : ℕ → Status) (x : ℕ) → FittingTail batches c tail → RightTail is_answer batches c tail → Drawn is_answer front d (flat batches (length batches)) status → status c ≡ status_by batches (length batches + 1) (of_client c batches) (next_base batches batches tail c)
    → Tells (run_sent c (is_zero (length (of_client c batches))) (unjoined (of_client c batches) tail.sent) then run_stretch c (is_zero (length (of_client c batches) + length (unjoined (of_client c batches) tail.sent))) tail.now) front d x (told_by c x (tail_events (unjoined (of_client c batches) tail.sent) tail.now))
tells_tail is_answer batches c tail front d status x sound right h at =
    let own : List Batch = of_client c batches in
    let log : List Update = flat batches (length batches) in
    elim (sent_cases (of_client c batches) tail.sent) [
      | none_left none_open ↦
          let at_now : status c ≡ status_by batches (length batches + 1) (of_client c batches) tail.now.base = at ∙ ap (λ (o : Option ℕ). status_by batches (length batches + 1) own o) (next_base-tail batches tail c [] none_open) in
          let mine : Owned front d c (not_opening (is_zero (length (of_client c batches))) tail.now.base) = owned_last is_answer front d log status batches c tail own tail.now.base refl refl sound none_open h at_now in
          let count : length (of_client c batches) ≡ length (of_client c batches) + 0 = omega arith in
          subst (λ (l : List Batch). Tells (run_sent c (is_zero (length own)) l then run_stretch c (is_zero (length own + length l)) tail.now) front d x (told_by c x (tail_events l tail.now))) (sym none_open)
          (subst (λ (n : ℕ). Tells (steps.idle then run_stretch c (is_zero n) tail.now) front d x (told_by c x (tail.now.before ++ tail.now.rest))) count
          (tells_then steps.idle (run_stretch c (is_zero (length own)) tail.now) front d x [] (told_by c x (tail.now.before ++ tail.now.rest)) (tells_idle front d x)
          (subst (λ (l : List Step). Tells (run_stretch c (is_zero (length own)) tail.now) l d x (told_by c x (tail.now.before ++ tail.now.rest))) (sym (append-nil front))
          (told_stretch front c x (is_zero (length own)) tail.now d mine.stands_owned mine.received_owned))))
      | open_one b is_sent next opened ↦
          let facts : (b.client ≡ c) × FitsBehind batches b = elim (sound.sent b is_sent) [ inl before ↦ absurd (before.0 next) | inr fits ↦ fits ] in
          let at_sent : status c ≡ status_by batches (length batches + 1) (of_client c batches) (Some b.base) = at ∙ ap (λ (o : Option ℕ). status_by batches (length batches + 1) own o) (next_base-tail batches tail c (b ∷ []) opened) in
          let v : Status = stands (flat batches b.base ++ updates_in b) (updates_in b) None true in
          let run : Draws = run_stretch c (is_zero (length own)) (stretch_of b) in
          let ran : Leads is_answer (run_stretch c (is_zero (length (of_client c batches))) (stretch_of b)) (flat batches (length batches)) status (flat batches (length batches)) (put c (stands (flat batches b.base ++ updates_in b) (updates_in b) None true) status) =
          subst (λ (y : ℕ). Leads is_answer (run_stretch y (is_zero (length own)) (stretch_of b)) log status log (put y v status)) facts.0
          (run_batch is_answer batches b status own facts.1 (right.sent b opened) (ap (λ (y : ℕ). of_client y batches) facts.0) (ap status facts.0 ∙ at_sent)) in
          let front_then : List Step = front ++ (run d).0 in
          let d_then : Drawing = (run d).1 in
          let s : ℕ = d_then.standing c in
          let n : ℕ = d_then.next in
          let then_drawn = ran front d h in
          let no_base : tail.now.base ≡ None = elim (option_cases tail.now.base) [ inl none ↦ none | inr some ↦ let e : Some b ≡ None = sym is_sent ∙ sound.unsent some.0 some.1 in cc ] in
          let mine : Owned front d c (not_opening (is_zero (length (of_client c batches))) (Some b.base)) = owned_based is_answer front d log status c batches own b.base facts.1.base h at_sent in
          let sent_front : List Step = front_then ++ Fork s c ∷ [] in
          let sent_d : Drawing = (send c d_then).1 in
          let new : owner ((front ++ ((run_stretch c (is_zero (length (of_client c batches))) (stretch_of b)) d).0) ++ Fork (((run_stretch c (is_zero (length (of_client c batches))) (stretch_of b)) d).1.standing c) c ∷ []) ((send c ((run_stretch c (is_zero (length (of_client c batches))) (stretch_of b)) d).1).1.standing c) ≡ Some c =
          ap (owner sent_front) (put-here c c n d_then.standing refl ∙ then_drawn.next) ∙ owner-Fork front_then s c (revisions front_then) ∙ put-here (revisions front_then) (revisions front_then) (Some c) (owner front_then) refl in
          let is_first : Bool = is_zero (length own + 1) in
          subst (λ (l : List Batch). Tells (run_sent c (is_zero (length own)) l then run_stretch c (is_zero (length own + length l)) tail.now) front d x (told_by c x (tail_events l tail.now))) (sym opened)
          (tells_then (run then send c) (run_stretch c is_first tail.now) front d x (told_by c x (b.before ++ b.rest)) (told_by c x (tail.now.before ++ tail.now.rest))
          (tells_silent run (send c) front d x (told_by c x (b.before ++ b.rest)) (told_stretch front c x (is_zero (length own)) (stretch_of b) d mine.stands_owned mine.received_owned) (told_Fork front_then s c x ∙ sym (append-nil (events front_then x))))
          (subst (λ (l : List Step). Tells (run_stretch c is_first tail.now) l sent_d x (told_by c x (tail.now.before ++ tail.now.rest))) (append_assoc front (run d).0 (Fork s c ∷ []))
          (told_stretch sent_front c x is_first tail.now sent_d new (λ k. absurd (never_pulls is_first tail.now.base no_base k))))
          ∙ ap (λ (l : List Event). events front x ++ l) (both (c == x) (b.before ++ b.rest) (tail.now.before ++ tail.now.rest)))
    ]

pub tells_tails : (is_answer : List Update → Query → Answer → Type 0) (batches : List Batch) (tails : List Tail) (c : ℕ) (status : ℕ → Status) → ((k : ℕ) (tail : Tail) → slice_get tails k ≡ Some tail → FittingTail batches (c + k) tail × RightTail is_answer batches (c + k) tail)
    → AreAt batches batches (length batches + 1) c tails status → (front : List Step) (d : Drawing) → Drawn is_answer front d (flat batches (length batches)) status → (x : ℕ) → Tells (tails_from batches tails c) front d x (did_last batches x c tails)
tells_tails is_answer batches [] c status facts at front d h x = tells_idle front d x
tells_tails is_answer batches (tail ∷ tails) c status facts at front d h x =
    let zero_here : c + 0 ≡ c = omega arith in
    let sound : FittingTail batches c tail = subst (λ (x : ℕ). FittingTail batches x tail) zero_here (facts 0 tail refl).0 in
    let right : RightTail is_answer batches c tail = subst (λ (x : ℕ). RightTail is_answer batches x tail) zero_here (facts 0 tail refl).1 in
    let here : status c ≡ status_by batches (length batches + 1) (of_client c batches) (next_base batches batches tail c) = subst (λ (x : ℕ). status x ≡ status_by batches (length batches + 1) (of_client x batches) (next_base batches batches tail x)) zero_here (at 0 tail refl) in
    let one = ends_tail is_answer batches c tail status sound right here in
    let v : Status = one.0 in
    let draw : Draws = run_sent c (is_zero (length (of_client c batches))) (unjoined (of_client c batches) tail.sent) then run_stretch c (is_zero (length (of_client c batches) + length (unjoined (of_client c batches) tail.sent))) tail.now in
    tells_then draw (tails_from batches tails (c + 1)) front d x (told_by c x (tail_events (unjoined (of_client c batches) tail.sent) tail.now)) (did_last batches x (c + 1) tails)
    (tells_tail is_answer batches c tail front d status x sound right h here)
    (tells_tails is_answer batches tails (c + 1) (put c v status)
    (λ k t e. let moved : c + suc k ≡ c + 1 + k = omega arith in subst (λ (x : ℕ). FittingTail batches x t × RightTail is_answer batches x t) moved (facts (suc k) t e))
    (λ k t e. let moved : c + suc k ≡ c + 1 + k = omega arith in let not_c : c + 1 + k ≢ c = λ w. omega arith in put-else c (c + 1 + k) v status not_c ∙ subst (λ (x : ℕ). status x ≡ status_by batches (length batches + 1) (of_client x batches) (next_base batches batches t x)) moved (at (suc k) t e))
    (front ++ (draw d).0) (draw d).1 (one.1 front d h) x)

-- THE THEOREM on what is told
pub events_of_record : (batches : List Batch) (tails : List Tail) → FittingRecord batches tails → (x : ℕ) → events (steps_of batches tails) x ≡ told batches tails x
events_of_record batches tails sound x =
    let right : RightRecord Any batches tails = any_record batches tails in
    let last : ℕ → Status = status_at batches tails batches (length batches + 1) in
    let forks : Draws = forks_at batches [] 0 tails 0 in
    let runs : Draws = batches_from batches tails [] batches in
    let cut : Cut Any batches tails [] batches = whole_cut Any batches tails sound right in
    let opened = leads_opens Any batches tails [] first_drawing (drawn_first Any) in
    let joined_all = leads_batches Any batches tails [] batches cut ([] ++ (forks first_drawing).0) (forks first_drawing).1 opened in
    tells_then (forks then runs) (tails_from batches tails 0) [] first_drawing x (did_in x batches) (did_last batches x 0 tails)
    (tells_then forks runs [] first_drawing x [] (did_in x batches) (tells_forks batches [] 0 tails 0 [] first_drawing x) (tells_batches Any batches tails [] batches cut ([] ++ (forks first_drawing).0) (forks first_drawing).1 opened x))
    (tells_tails Any batches tails 0 last (tail_facts Any batches tails sound right) (last_at batches tails) ([] ++ ((forks then runs) first_drawing).0) ((forks then runs) first_drawing).1
    joined_all x)
