-- The flush law of a record whose flushes were met.
use Rattle.std.proofs.Common.{arith, ◌≡◌, ℕ, zero, suc, ◌+◌, ◌<◌, ◌≤◌, Bool, true, false, List, [], ◌∷◌, ◌++◌, length, take, drop, refl, sym, ap, subst, ◌∙◌, Option, Some, None, inl, inr, append-nil}
use Rattle.std.specs.Prelude.{◌≢◌, is_some, map, slice_get}
use Rattle.std.proofs.lemmas.Bool.{lt-ltb, ltb-true, false≢true}
use Rattle.std.proofs.lemmas.List.{append_assoc, take-append-drop}
use Rattle.cloud_base.specs.declared.batch.Batch.{Batch}
use Rattle.cloud_base.specs.declared.batch.Stretch.{Stretch}
use Rattle.cloud_base.specs.declared.batch.Tail.{Tail}
use Rattle.cloud_base.specs.declared.update.Answer.{Answer}
use Rattle.cloud_base.specs.declared.update.Query.{Query}
use Rattle.cloud_base.specs.declared.update.Update.{Update}
use Rattle.revision_diagram.specs.declared.step.Step.{Step}
use Rattle.revision_diagram.specs.declared.step.Step.TheVariants.{Fork}
use Rattle.revision_diagram.specs.Diagram.{put, revisions, owner}
use Rattle.revision_diagram.specs.Meeting.{below_server, Flushed, FlushLaw}
use Rattle.revision_diagram.proofs.Draws.{owner-Fork}
use Rattle.revision_diagram.proofs.Flushes.{FlushLaw-by_place, Flushed-last}
use Rattle.revision_diagram.proofs.Kept.{owner-kept}
use Rattle.revision_diagram.proofs.KeepsOnce.{put-here, put-else}
use Rattle.revision_diagram.proofs.Owners.{owned_there}
use Rattle.batch_history.specs.Batches.{flat, of_client, unjoined, stretch_of, stretches}
use Rattle.batch_history.specs.Flushed.{BeginsReceived, FlushedStretches}
use Rattle.batch_history.specs.Flushed as history
use Rattle.batch_history.specs.Right.{RightRecord, RightTail}
use Rattle.batch_history.specs.Sound.{FitsBehind}
use Rattle.record_diagram.specs.Steps.{Drawing, Draws, ◌then◌, not_opening, run_stretch, run_sent, send, is_zero, forks_at, batches_from, tails_from, next_base, first_drawing, steps_of}
use Rattle.record_diagram.proofs.Invariant.{Status, Drawn}
use Rattle.record_diagram.proofs.Statuses.{status_by, status_at}
use Rattle.record_diagram.proofs.Batches.{tail_stretches}
use Rattle.record_diagram.proofs.Fitting.{FittingTail, FittingRecord}
use Rattle.record_diagram.proofs.ForkRow.{AreAt, slice_there}
use Rattle.record_diagram.proofs.Joining.{leads_batches, Cut}
use Rattle.record_diagram.proofs.Owned.{owned_record}
use Rattle.record_diagram.proofs.Tails.{none_left, open_one, sent_cases, next_base-tail, option_cases, ends_tail}
use Rattle.record_diagram.proofs.Theorem.{Any, any_record, drawn_first, whole_cut, leads_opens, last_at, tail_facts}
use Rattle.record_diagram.proofs.ToldAll.{Owned, never_pulls, owned_based, owned_last}
use Rattle.record_diagram.proofs.Owing.{Phase, calm, marked_flush, sent_up, come_down, has_met, Owes, Rests, Ran}
use Rattle.record_diagram.proofs.FlushRun.{Here, Ended, kept_stretch, kept_send, kept_idle, own_pulling, own_opening, own_before, own_send}
use Rattle.record_diagram.proofs.FlushAll.{FitsAt, At, starts_of, here_front, own_row, own_run, at_batches}

rests_of : (p : Phase) → Ran p → (p ≡ marked_flush → ⊥) → Rests p
rests_of calm ran h = tt
rests_of marked_flush ran h = absurd (h refl)
rests_of sent_up ran h = absurd ran
rests_of come_down ran h = absurd ran
rests_of (has_met true) ran h = absurd ran
rests_of (has_met false) ran h = tt

-- a client's whole tail
abbrev pub tail_draw : List Batch → Tail → ℕ → Draws
tail_draw batches tail c = run_sent c (is_zero (length (of_client c batches))) (unjoined (of_client c batches) tail.sent) then run_stretch c (is_zero (length (of_client c batches) + length (unjoined (of_client c batches) tail.sent))) tail.now

send_owner : (front : List Step) (d : Drawing) (c : ℕ) → d.next ≡ revisions front → owner (front ++ (send c d).0) ((send c d).1.standing c) ≡ Some c
send_owner front d c free =
    let s : ℕ = d.standing c in
    let n : ℕ = revisions front in
    ap (owner (front ++ Fork s c ∷ [])) (put-here c c d.next d.standing refl ∙ free) ∙ owner-Fork front s c n ∙ put-here n n (Some c) (owner front) refl

no_base_sent : (batches : List Batch) (c : ℕ) (tail : Tail) (b : Batch) → FittingTail batches c tail → tail.sent ≡ Some b → tail.now.base ≡ None
no_base_sent batches c tail b sound is_sent = elim (option_cases tail.now.base) [ inl none ↦ none | inr some ↦ let e : Some b ≡ None = sym is_sent ∙ sound.unsent some.0 some.1 in cc ]

sent_facts : (batches : List Batch) (c : ℕ) (tail : Tail) (b : Batch) → FittingTail batches c tail → tail.sent ≡ Some b → b.round ≡ length (of_client c batches) + 1 → (b.client ≡ c) × FitsBehind batches b
sent_facts batches c tail b sound is_sent next = elim (sound.sent b is_sent) [ inl before ↦ absurd (before.0 next) | inr fits ↦ fits ]

-- ---- another client's tail
kept_tail : (is_answer : List Update → Query → Answer → Type 0) (batches : List Batch) (c : ℕ) (tail : Tail) (front : List Step) (d : Drawing) (status : ℕ → Status) (x : ℕ) (p : Phase) → c ≢ x → FittingTail batches c tail → Drawn is_answer front d (flat batches (length batches)) status → status c ≡ status_by batches (length batches + 1) (of_client c batches) (next_base batches batches tail c)
    → Here front d x p → Here (front ++ (tail_draw batches tail c d).0) (tail_draw batches tail c d).1 x p
kept_tail is_answer batches c tail front d status x p other sound drawn at h =
    let own : List Batch = of_client c batches in
    let log : List Update = flat batches (length batches) in
    elim (sent_cases (of_client c batches) tail.sent) [
      | none_left none_open ↦
          let at_now : status c ≡ status_by batches (length batches + 1) (of_client c batches) tail.now.base = at ∙ ap (λ (o : Option ℕ). status_by batches (length batches + 1) own o) (next_base-tail batches tail c [] none_open) in
          let mine : Owned front d c (not_opening (is_zero (length (of_client c batches))) tail.now.base) = owned_last is_answer front d log status batches c tail own tail.now.base refl refl sound none_open drawn at_now in
          let count : length (of_client c batches) ≡ length (of_client c batches) + 0 = omega arith in
          subst (λ (l : List Batch). Here (front ++ ((run_sent c (is_zero (length own)) l then run_stretch c (is_zero (length own + length l)) tail.now) d).0) ((run_sent c (is_zero (length own)) l then run_stretch c (is_zero (length own + length l)) tail.now) d).1 x p) (sym none_open)
          (subst (λ (n : ℕ). Here (front ++ (run_stretch c (is_zero n) tail.now d).0) (run_stretch c (is_zero n) tail.now d).1 x p) count
          (kept_stretch front c x (is_zero (length own)) tail.now d p other mine.stands_owned mine.received_owned h))
      | open_one b is_sent next opened ↦
          let facts : (b.client ≡ c) × FitsBehind batches b = sent_facts batches c tail b sound is_sent next in
          let at_sent : status c ≡ status_by batches (length batches + 1) (of_client c batches) (Some b.base) = at ∙ ap (λ (o : Option ℕ). status_by batches (length batches + 1) own o) (next_base-tail batches tail c (b ∷ []) opened) in
          let mine : Owned front d c (not_opening (is_zero (length (of_client c batches))) (Some b.base)) = owned_based is_answer front d log status c batches own b.base facts.1.base drawn at_sent in
          let run : Draws = run_stretch c (is_zero (length (of_client c batches))) (stretch_of b) in
          let is_first : Bool = is_zero (length own + 1) in
          let last : Draws = run_stretch c (is_zero (length (of_client c batches) + 1)) tail.now in
          let one : Here (front ++ (run d).0) (run d).1 x p = kept_stretch front c x (is_zero (length own)) (stretch_of b) d p other mine.stands_owned mine.received_owned h in
          let two : Here (front ++ ((run then send c) d).0) ((run then send c) d).1 x p = here_front front (run d).0 (send c (run d).1).0 (send c (run d).1).1 x p (kept_send (front ++ (run d).0) c x (run d).1 p other one) in
          let whose : owner (front ++ ((run then send c) d).0) (((run then send c) d).1.standing c) ≡ Some c = ap (λ (l : List Step). owner l (((run then send c) d).1.standing c)) (sym (append_assoc front (run d).0 (send c (run d).1).0)) ∙ send_owner (front ++ (run d).0) (run d).1 c one.free in
          subst (λ (l : List Batch). Here (front ++ ((run_sent c (is_zero (length own)) l then run_stretch c (is_zero (length own + length l)) tail.now) d).0) ((run_sent c (is_zero (length own)) l then run_stretch c (is_zero (length own + length l)) tail.now) d).1 x p) (sym opened)
          (here_front front ((run then send c) d).0 (last ((run then send c) d).1).0 (last ((run then send c) d).1).1 x p
          (kept_stretch (front ++ ((run then send c) d).0) c x is_first tail.now ((run then send c) d).1 p other whose (λ k. absurd (never_pulls is_first tail.now.base (no_base_sent batches c tail b sound is_sent) k)) two))
    ]

-- ---- its own tail
pub record Rested (front : List Step) (d : Drawing) (x : ℕ) : Type 0 where
  pub phase : Phase
  pub rests : Rests phase
  pub here : Here front d x phase

fits_none : (p : Phase) (w : Bool) (s : Stretch) (more : List Stretch) → w ≡ false → s.base ≡ None → FitsAt p w (s ∷ more) → Rests p
fits_none calm w s more none no_base h = tt
fits_none marked_flush w s more none no_base h = absurd h
fits_none sent_up w s more none no_base h = absurd (false≢true (sym (ap (λ (o : Option ℕ). is_some o) no_base) ∙ h.1.1))
fits_none come_down w s more none no_base h = absurd (false≢true (sym none ∙ h.0))
fits_none (has_met true) w s more none no_base h = absurd (false≢true (sym (h ∙ none)))
fits_none (has_met false) w s more none no_base h = tt

last_alone : (batches : List Batch) (c : ℕ) (tail : Tail) (front : List Step) (d : Drawing) (own : List Batch) (base : Option ℕ) → of_client c batches ≡ own → tail.now.base ≡ base → FittingTail batches c tail → FlushedStretches (tail.now ∷ []) → Owned front d c (not_opening (is_zero (length own)) base) → At front d c own (length batches + 1) base (tail.now ∷ [])
    → Ended front d c (run_stretch c (is_zero (length own)) tail.now) (tail.now.before ++ tail.now.rest)
last_alone batches c tail front d [] None owns based sound flushed mine h = own_before front d c true tail.now calm based (sound.based based).1 tt flushed.0 mine.stands_owned (subst (Here front d c) h.fits h.here)
last_alone batches c tail front d (y ∷ own) None owns based sound flushed mine h = own_before front d c false tail.now h.phase based (sound.based based).1 (fits_none h.phase false tail.now [] refl based h.fits) flushed.0 mine.stands_owned h.here
last_alone batches c tail front d [] (Some n) owns based sound flushed mine h = own_opening front d c tail.now (sound.first n based owns) flushed.0 mine.stands_owned (subst (Here front d c) h.fits h.here)
last_alone batches c tail front d (y ∷ own) (Some n) owns based sound flushed mine h =
    let in_time : n ≤ length batches = sound.base n based in
    subst (λ (o : Option ℕ). Ended front d c (run_stretch c false (record { base = o; before = tail.now.before; rest = tail.now.rest })) (tail.now.before ++ tail.now.rest)) (sym based)
    (own_pulling front d c n tail.now.before tail.now.rest h.phase (starts_of h.phase _ tail.now [] (lt-ltb n (length batches + 1) (omega arith)) h.fits) flushed.0 mine.stands_owned (mine.received_owned refl) h.here)

own_tail : (is_answer : List Update → Query → Answer → Type 0) (batches : List Batch) (c : ℕ) (tail : Tail) (front : List Step) (d : Drawing) (status : ℕ → Status) → FittingTail batches c tail → Drawn is_answer front d (flat batches (length batches)) status → status c ≡ status_by batches (length batches + 1) (of_client c batches) (next_base batches batches tail c)
    → FlushedStretches (tail_stretches batches tail c) → At front d c (of_client c batches) (length batches + 1) (next_base batches batches tail c) (tail_stretches batches tail c) → Rested (front ++ (tail_draw batches tail c d).0) (tail_draw batches tail c d).1 c
own_tail is_answer batches c tail front d status sound drawn at flushed h =
    let own : List Batch = of_client c batches in
    let log : List Update = flat batches (length batches) in
    elim (sent_cases (of_client c batches) tail.sent) [
      | none_left none_open ↦
          let base : next_base batches batches tail c ≡ tail.now.base = next_base-tail batches tail c [] none_open in
          let alone : tail_stretches batches tail c ≡ tail.now ∷ [] = ap (λ (l : List Batch). map stretch_of l ++ tail.now ∷ []) none_open in
          let at_now : status c ≡ status_by batches (length batches + 1) (of_client c batches) tail.now.base = at ∙ ap (λ (o : Option ℕ). status_by batches (length batches + 1) own o) base in
          let mine : Owned front d c (not_opening (is_zero (length (of_client c batches))) tail.now.base) = owned_last is_answer front d log status batches c tail own tail.now.base refl refl sound none_open drawn at_now in
          let met : FlushedStretches (tail.now ∷ []) = subst FlushedStretches alone flushed in
          let here : At front d c (of_client c batches) (length batches + 1) tail.now.base (tail.now ∷ []) = subst (λ (o : Option ℕ). At front d c own (length batches + 1) o (tail.now ∷ [])) base (subst (λ (l : List Stretch). At front d c own (length batches + 1) (next_base batches batches tail c) l) alone h) in
          let ended : Ended front d c (run_stretch c (is_zero (length (of_client c batches))) tail.now) (tail.now.before ++ tail.now.rest) = last_alone batches c tail front d own tail.now.base refl refl sound met mine here in
          let count : length (of_client c batches) ≡ length (of_client c batches) + 0 = omega arith in
          subst (λ (l : List Batch). Rested (front ++ ((run_sent c (is_zero (length own)) l then run_stretch c (is_zero (length own + length l)) tail.now) d).0) ((run_sent c (is_zero (length own)) l then run_stretch c (is_zero (length own + length l)) tail.now) d).1 c) (sym none_open)
          (subst (λ (n : ℕ). Rested (front ++ (run_stretch c (is_zero n) tail.now d).0) (run_stretch c (is_zero n) tail.now d).1 c) count
          (record { phase = ended.phase; rests = rests_of ended.phase ended.ran (λ e. met.1 (ended.flushed e)); here = ended.here }))
      | open_one b is_sent next opened ↦
          let facts : (b.client ≡ c) × FitsBehind batches b = sent_facts batches c tail b sound is_sent next in
          let in_time : b.base ≤ length batches = facts.1.base in
          let base : next_base batches batches tail c ≡ Some b.base = next_base-tail batches tail c (b ∷ []) opened in
          let both : tail_stretches batches tail c ≡ stretch_of b ∷ tail.now ∷ [] = ap (λ (l : List Batch). map stretch_of l ++ tail.now ∷ []) opened in
          let no_base : tail.now.base ≡ None = no_base_sent batches c tail b sound is_sent in
          let at_sent : status c ≡ status_by batches (length batches + 1) (of_client c batches) (Some b.base) = at ∙ ap (λ (o : Option ℕ). status_by batches (length batches + 1) own o) base in
          let mine : Owned front d c (not_opening (is_zero (length (of_client c batches))) (Some b.base)) = owned_based is_answer front d log status c batches own b.base facts.1.base drawn at_sent in
          let met : FlushedStretches (stretch_of b ∷ tail.now ∷ []) = subst FlushedStretches both flushed in
          let here : At front d c (of_client c batches) (length batches + 1) (Some b.base) (stretch_of b ∷ tail.now ∷ []) = subst (λ (o : Option ℕ). At front d c own (length batches + 1) o (stretch_of b ∷ tail.now ∷ [])) base (subst (λ (l : List Stretch). At front d c own (length batches + 1) (next_base batches batches tail c) l) both h) in
          let run : Draws = run_stretch c (is_zero (length (of_client c batches))) (stretch_of b) in
          let is_first : Bool = is_zero (length own + 1) in
          let last : Draws = run_stretch c (is_zero (length (of_client c batches) + 1)) tail.now in
          let one : Ended front d c (run_stretch c (is_zero (length (of_client c batches))) (stretch_of b)) (b.before ++ b.rest) = own_run front d b c (length batches + 1) own (tail.now ∷ [])
          (λ none. (facts.1.first (facts.1.round ∙ ap (λ (y : ℕ). length (of_client y batches) + 1) facts.0 ∙ ap (λ (l : List Batch). length l + 1) none)).0) (omega arith) met mine here in
          let rests : Rests one.phase = rests_of one.phase one.ran (λ e. false≢true (sym (ap (λ (o : Option ℕ). is_some o) no_base) ∙ (met.1 (one.flushed e)).1)) in
          let two : Here (front ++ ((run then send c) d).0) ((run then send c) d).1 c one.phase = here_front front (run d).0 (send c (run d).1).0 (send c (run d).1).1 c one.phase (own_send (front ++ (run d).0) (run d).1 c one.phase rests one.here) in
          let whose : owner (front ++ ((run then send c) d).0) (((run then send c) d).1.standing c) ≡ Some c = ap (λ (l : List Step). owner l (((run then send c) d).1.standing c)) (sym (append_assoc front (run d).0 (send c (run d).1).0)) ∙ send_owner (front ++ (run d).0) (run d).1 c one.here.free in
          let ended : Ended (front ++ ((run then send c) d).0) ((run then send c) d).1 c (run_stretch c (is_zero (length (of_client c batches) + 1)) tail.now) (tail.now.before ++ tail.now.rest) = own_before (front ++ ((run then send c) d).0) ((run then send c) d).1 c is_first tail.now one.phase no_base (sound.based no_base).1 rests met.2.0 whose two in
          subst (λ (l : List Batch). Rested (front ++ ((run_sent c (is_zero (length own)) l then run_stretch c (is_zero (length own + length l)) tail.now) d).0) ((run_sent c (is_zero (length own)) l then run_stretch c (is_zero (length own + length l)) tail.now) d).1 c) (sym opened)
          (record { phase = ended.phase; rests = rests_of ended.phase ended.ran (λ e. met.2.1 (ended.flushed e)); here = here_front front ((run then send c) d).0 (last ((run then send c) d).1).0 (last ((run then send c) d).1).1 c ended.phase ended.here })
    ]

rested_front : (front first second : List Step) (d : Drawing) (x : ℕ) → Rested ((front ++ first) ++ second) d x → Rested (front ++ (first ++ second)) d x
rested_front front first second d x h = subst (λ (t : List Step). Rested t d x) (append_assoc front first second) h

-- ---- all tails
abbrev Facts : (List Update → Query → Answer → Type 0) → List Batch → ℕ → List Tail → Type 0
Facts is_answer batches c tails = (k : ℕ) (tail : Tail) → slice_get tails k ≡ Some tail → FittingTail batches (c + k) tail × RightTail is_answer batches (c + k) tail

-- behind the tail of c
record Next (is_answer : List Update → Query → Answer → Type 0) (batches : List Batch) (tail : Tail) (tails : List Tail) (c : ℕ) (front : List Step) (d : Drawing) : Type 0 where
  status : ℕ → Status
  facts : Facts is_answer batches (c + 1) tails
  at : AreAt batches batches (length batches + 1) (c + 1) tails status
  drawn : Drawn is_answer (front ++ (tail_draw batches tail c d).0) (tail_draw batches tail c d).1 (flat batches (length batches)) status

first_fact : (is_answer : List Update → Query → Answer → Type 0) (batches : List Batch) (tail : Tail) (tails : List Tail) (c : ℕ) → Facts is_answer batches c (tail ∷ tails) → FittingTail batches c tail × RightTail is_answer batches c tail
first_fact is_answer batches tail tails c facts = let zero_here : c + 0 ≡ c = omega arith in subst (λ (x : ℕ). FittingTail batches x tail × RightTail is_answer batches x tail) zero_here (facts 0 tail refl)

first_at : (batches : List Batch) (tail : Tail) (tails : List Tail) (c : ℕ) (status : ℕ → Status) → AreAt batches batches (length batches + 1) c (tail ∷ tails) status → status c ≡ status_by batches (length batches + 1) (of_client c batches) (next_base batches batches tail c)
first_at batches tail tails c status at = let zero_here : c + 0 ≡ c = omega arith in subst (λ (x : ℕ). status x ≡ status_by batches (length batches + 1) (of_client x batches) (next_base batches batches tail x)) zero_here (at 0 tail refl)

next_tail : (is_answer : List Update → Query → Answer → Type 0) (batches : List Batch) (tail : Tail) (tails : List Tail) (c : ℕ) (status : ℕ → Status) (front : List Step) (d : Drawing) → Facts is_answer batches c (tail ∷ tails) → AreAt batches batches (length batches + 1) c (tail ∷ tails) status → Drawn is_answer front d (flat batches (length batches)) status → Next is_answer batches tail tails c front d
next_tail is_answer batches tail tails c status front d facts at drawn =
    let first : FittingTail batches c tail × RightTail is_answer batches c tail = first_fact is_answer batches tail tails c facts in
    let one = ends_tail is_answer batches c tail status first.0 first.1 (first_at batches tail tails c status at) in
    let v : Status = one.0 in
    record {
      status = put c v status;
      facts = λ k t e. let moved : c + suc k ≡ c + 1 + k = omega arith in subst (λ (x : ℕ). FittingTail batches x t × RightTail is_answer batches x t) moved (facts (suc k) t e);
      at = λ k t e. let moved : c + suc k ≡ c + 1 + k = omega arith in let not_c : c + 1 + k ≢ c = λ w. omega arith in put-else c (c + 1 + k) v status not_c ∙ subst (λ (x : ℕ). status x ≡ status_by batches (length batches + 1) (of_client x batches) (next_base batches batches t x)) moved (at (suc k) t e);
      drawn = one.1 front d drawn;
    }

kept_tails : (is_answer : List Update → Query → Answer → Type 0) (batches : List Batch) (tails : List Tail) (c : ℕ) (status : ℕ → Status) (front : List Step) (d : Drawing) (x : ℕ) (p : Phase) → x < c → Facts is_answer batches c tails → AreAt batches batches (length batches + 1) c tails status → Drawn is_answer front d (flat batches (length batches)) status
    → Here front d x p → Here (front ++ (tails_from batches tails c d).0) (tails_from batches tails c d).1 x p
kept_tails is_answer batches [] c status front d x p l facts at drawn h = kept_idle front d x p h
kept_tails is_answer batches (tail ∷ tails) c status front d x p l facts at drawn h =
    let draw : Draws = tail_draw batches tail c in
    let next : Next is_answer batches tail tails c front d = next_tail is_answer batches tail tails c status front d facts at drawn in
    here_front front (draw d).0 (tails_from batches tails (c + 1) (draw d).1).0 (tails_from batches tails (c + 1) (draw d).1).1 x p
    (kept_tails is_answer batches tails (c + 1) next.status (front ++ (draw d).0) (draw d).1 x p (omega arith) next.facts next.at next.drawn
    (kept_tail is_answer batches c tail front d status x p (λ e. omega arith) (first_fact is_answer batches tail tails c facts).0 drawn (first_at batches tail tails c status at) h))

own_tails : (is_answer : List Update → Query → Answer → Type 0) (batches : List Batch) (tails : List Tail) (c k : ℕ) (status : ℕ → Status) (front : List Step) (d : Drawing) (x : ℕ) (mine : Tail) → slice_get tails k ≡ Some mine → c + k ≡ x → Facts is_answer batches c tails → AreAt batches batches (length batches + 1) c tails status → Drawn is_answer front d (flat batches (length batches)) status
    → FlushedStretches (tail_stretches batches mine x) → At front d x (of_client x batches) (length batches + 1) (next_base batches batches mine x) (tail_stretches batches mine x) → Rested (front ++ (tails_from batches tails c d).0) (tails_from batches tails c d).1 x
own_tails is_answer batches [] c k status front d x mine e at_x facts at drawn flushed h = absurd cc
own_tails is_answer batches (tail ∷ tails) c zero status front d x mine e at_x facts at drawn flushed h =
    let here : x ≡ c = omega arith in
    let same : mine ≡ tail = cc in
    let draw : Draws = tail_draw batches tail c in
    let next : Next is_answer batches tail tails c front d = next_tail is_answer batches tail tails c status front d facts at drawn in
    let met : FlushedStretches (tail_stretches batches tail c) = subst (λ (t : Tail). FlushedStretches (tail_stretches batches t c)) same (subst (λ (y : ℕ). FlushedStretches (tail_stretches batches mine y)) here flushed) in
    let bound : At front d c (of_client c batches) (length batches + 1) (next_base batches batches tail c) (tail_stretches batches tail c) = subst (λ (t : Tail). At front d c (of_client c batches) (length batches + 1) (next_base batches batches t c) (tail_stretches batches t c)) same
    (subst (λ (y : ℕ). At front d y (of_client y batches) (length batches + 1) (next_base batches batches mine y) (tail_stretches batches mine y)) here h) in
    let one : Rested (front ++ (tail_draw batches tail c d).0) (tail_draw batches tail c d).1 c = own_tail is_answer batches c tail front d status (first_fact is_answer batches tail tails c facts).0 drawn (first_at batches tail tails c status at) met bound in
    rested_front front (draw d).0 (tails_from batches tails (c + 1) (draw d).1).0 (tails_from batches tails (c + 1) (draw d).1).1 x
    (record {
      phase = one.phase;
      rests = one.rests;
      here = kept_tails is_answer batches tails (c + 1) next.status (front ++ (draw d).0) (draw d).1 x one.phase (omega arith) next.facts next.at next.drawn (subst (λ (y : ℕ). Here (front ++ (draw d).0) (draw d).1 y one.phase) (sym here) one.here);
    })
own_tails is_answer batches (tail ∷ tails) c (suc k) status front d x mine e at_x facts at drawn flushed h =
    let draw : Draws = tail_draw batches tail c in
    let next : Next is_answer batches tail tails c front d = next_tail is_answer batches tail tails c status front d facts at drawn in
    rested_front front (draw d).0 (tails_from batches tails (c + 1) (draw d).1).0 (tails_from batches tails (c + 1) (draw d).1).1 x
    (own_tails is_answer batches tails (c + 1) k next.status (front ++ (draw d).0) (draw d).1 x mine e (omega arith) next.facts next.at next.drawn flushed
    (record {
      phase = h.phase;
      fits = h.fits;
      here = kept_tail is_answer batches c tail front d status x h.phase (λ w. omega arith) (first_fact is_answer batches tail tails c facts).0 drawn (first_at batches tail tails c status at) h.here;
    }))

-- ---- the whole record
first_here : (x : ℕ) → Here [] first_drawing x calm
first_here x = record { state = record { owed = λ i r e o. absurd cc }; free = refl }

rested_record : (batches : List Batch) (tails : List Tail) (tail : Tail) (x : ℕ) → FittingRecord batches tails → slice_get tails x ≡ Some tail → FlushedStretches (stretches batches tail x) → Rested (steps_of batches tails) ((forks_at batches [] 0 tails 0 then batches_from batches tails [] batches then tails_from batches tails 0) first_drawing).1 x
rested_record batches tails tail x sound e flushed =
    let right : RightRecord Any batches tails = any_record batches tails in
    let last : ℕ → Status = status_at batches tails batches (length batches + 1) in
    let forks : Draws = forks_at batches [] 0 tails 0 in
    let runs : Draws = batches_from batches tails [] batches in
    let cut : Cut Any batches tails [] batches = whole_cut Any batches tails sound right in
    let opened = leads_opens Any batches tails [] first_drawing (drawn_first Any) in
    let joined_all = leads_batches Any batches tails [] batches cut ([] ++ (forks first_drawing).0) (forks first_drawing).1 opened in
    let row : At ([] ++ (forks first_drawing).0) (forks first_drawing).1 x [] (0 + 1) (next_base batches [] tail x) (stretches batches tail x) = own_row batches [] 0 tails 0 x [] first_drawing x tail (stretches batches tail x) e (omega arith) (record { phase = calm; fits = refl; here = first_here x }) in
    let bound = at_batches Any batches tails [] batches tail x cut ([] ++ (forks first_drawing).0) (forks first_drawing).1 opened e flushed row in
    own_tails Any batches tails 0 x last ([] ++ ((forks then runs) first_drawing).0) ((forks then runs) first_drawing).1 x tail e (omega arith) (tail_facts Any batches tails sound right) (last_at batches tails) joined_all bound.0 bound.1

met_last : (steps : List Step) (x s q i : ℕ) (p : Phase) → Rests p → Owes steps x s q p i → Flushed below_server steps i x
met_last steps x s q i calm rests h = absurd h
met_last steps x s q i marked_flush rests h = absurd rests
met_last steps x s q i sent_up rests h = absurd rests
met_last steps x s q i come_down rests h = absurd rests
met_last steps x s q i (has_met true) rests h = absurd rests
met_last steps x s q i (has_met false) rests h = Flushed-last below_server steps s x i h.at_join h.at_fork h.last h.newest_is h.up h.down h.later h.knows

owner_on : (front more : List Step) (r x : ℕ) → owner front r ≡ Some x → owner (front ++ more) r ≡ Some x
owner_on front [] r x h = ap (λ (l : List Step). owner l r) (append-nil front) ∙ h
owner_on front (t ∷ more) r x h = ap (λ (l : List Step). owner l r) (sym (append_assoc front (t ∷ []) more)) ∙ owner_on (front ++ t ∷ []) more r x (owner-kept front t r (owned_there front r x h) ∙ h)

-- THE FLUSH LAW
pub flush_law_of_record : (batches : List Batch) (tails : List Tail) → FittingRecord batches tails → history.Flushed batches tails → FlushLaw below_server (steps_of batches tails)
flush_law_of_record batches tails sound flushed =
    let steps : List Step = steps_of batches tails in
    (FlushLaw-by_place below_server steps).1 (λ i r x at whose.
    let owned : owner (steps_of batches tails) r ≡ Some x = ap (λ (l : List Step). owner l r) (sym (take-append-drop i steps)) ∙ owner_on (take i steps) (drop i steps) r x whose in
    let there : x < length tails = ltb-true x (length tails) (owned_record batches tails sound r x owned) in
    let tail = slice_there tails x there in
    let rested = rested_record batches tails tail.0 x sound tail.1 (flushed x tail.0 tail.1) in
    elim (rested.here.state.owed i r at whose) [
      | inl met ↦ subst (λ (l : List Step). Flushed below_server l i x) (append-nil steps) (met [])
      | inr owes ↦ met_last steps x _ _ i rested.phase rested.rests owes
    ])
