-- Batch after batch: how far a client's flush is met.
use Rattle.std.proofs.Common.{arith, ◌≡◌, ℕ, zero, suc, ◌+◌, ◌<◌, ◌≤◌, Bool, true, false, List, [], ◌∷◌, ◌++◌, length, refl, sym, ap, subst, ◌∙◌, Option, Some, None, ◌⊎◌, inl, inr, append-nil, nat_lt}
use Rattle.std.specs.Prelude.{◌≢◌, ◌==◌, map, slice_get}
use Rattle.std.proofs.lemmas.Bool.{cases_eq, eq-eqb, ne_eqb, lt-ltb, le-ltb, false≢true}
use Rattle.std.proofs.lemmas.List.{append_assoc, length-append}
use Rattle.cloud_base.specs.declared.batch.Batch.{Batch}
use Rattle.cloud_base.specs.declared.batch.Stretch.{Stretch}
use Rattle.cloud_base.specs.declared.batch.Tail.{Tail}
use Rattle.cloud_base.specs.declared.update.Answer.{Answer}
use Rattle.cloud_base.specs.declared.update.Event.{Event}
use Rattle.cloud_base.specs.declared.update.Query.{Query}
use Rattle.cloud_base.specs.declared.update.Update.{Update}
use Rattle.revision_diagram.specs.declared.step.Step.{Step}
use Rattle.revision_diagram.specs.declared.step.Step.TheVariants.{Join}
use Rattle.revision_diagram.specs.Diagram.{put, owner}
use Rattle.revision_diagram.proofs.Draws.{owner-Join}
use Rattle.revision_diagram.proofs.KeepsOnce.{put-here}
use Rattle.batch_history.specs.Batches.{flat, of_client, stretch_of}
use Rattle.batch_history.specs.Flushed.{BeginsReceived, FlushedStretches}
use Rattle.batch_history.proofs.Clients.{of_client-here, of_client-else, of_client-last, of_client-other}
use Rattle.record_diagram.specs.Steps.{Drawing, Draws, ◌then◌, event_step, events_on, pull_if, not_opening, run_stretch, push, fork_if, same_base, base_of, next_base, is_zero, forks_at, batches_from}
use Rattle.record_diagram.proofs.Invariant.{Status, Drawn}
use Rattle.record_diagram.proofs.Statuses.{status_by, status_of, status_at}
use Rattle.record_diagram.proofs.Batches.{later_stretches, tail_stretches, next_base-batch, next_base-other}
use Rattle.record_diagram.proofs.ForkRow.{below_more, slice_there}
use Rattle.record_diagram.proofs.Joining.{Cut, cut_on, next_later, leads_one}
use Rattle.record_diagram.proofs.Told.{owner_events}
use Rattle.record_diagram.proofs.ToldAll.{Owned, owned_based}
use Rattle.record_diagram.proofs.Owing.{Phase, calm, marked_flush, sent_up, come_down, has_met, pushed_phase, Ran, received_phase, Awaits}
use Rattle.record_diagram.proofs.FlushRun.{Here, Starts, Ended, kept_stretch, kept_push, kept_idle, kept_fork, own_pulling, own_opening, own_push, own_receive, own_open}

-- the base of the next of these stretches
abbrev pub first_base : List Stretch → Option ℕ
first_base l = base_of (slice_get l 0)

-- the fork of this base is made, once those below m are
abbrev pub waits : ℕ → Option ℕ → Bool
waits m (Some n) = nat_lt n m
waits m None = false

-- a phase between stretches; whether a revision waits; the stretches that come
abbrev pub FitsAt : Phase → Bool → List Stretch → Type 0
FitsAt calm w l = Unit {0}
FitsAt marked_flush w l = ⊥
FitsAt sent_up w l = (w ≡ false) × BeginsReceived l
FitsAt come_down w l = (w ≡ true) × BeginsReceived l
FitsAt (has_met v) w l = v ≡ w

-- of a client whose batches so far are these
abbrev pub FitsBy : List Batch → Phase → Bool → List Stretch → Type 0
FitsBy [] p w l = p ≡ calm
FitsBy (b ∷ own) p w l = FitsAt p w l

pub record At (front : List Step) (d : Drawing) (x : ℕ) (own : List Batch) (m : ℕ) (o : Option ℕ) (l : List Stretch) : Type 0 where
  pub phase : Phase
  pub fits : FitsBy own phase (waits m o) l
  pub here : Here front d x phase

pub at_front : (front first second : List Step) (d : Drawing) (x : ℕ) (own : List Batch) (m : ℕ) (o : Option ℕ) (l : List Stretch) → At ((front ++ first) ++ second) d x own m o l → At (front ++ (first ++ second)) d x own m o l
at_front front first second d x own m o l h = subst (λ (t : List Step). At t d x own m o l) (append_assoc front first second) h

pub here_front : (front first second : List Step) (d : Drawing) (x : ℕ) (p : Phase) → Here ((front ++ first) ++ second) d x p → Here (front ++ (first ++ second)) d x p
here_front front first second d x p h = subst (λ (t : List Step). Here t d x p) (append_assoc front first second) h

-- ---- the row of forks
fits_received : (p : Phase) (w : Bool) (l : List Stretch) → w ≡ false → FitsAt p w l → Awaits p × FitsAt (received_phase p) true l
fits_received calm w l none h = (tt, tt)
fits_received marked_flush w l none h = absurd h
fits_received sent_up w l none h = (tt, (refl, h.1))
fits_received come_down w l none h = absurd (false≢true (sym none ∙ h.0))
fits_received (has_met true) w l none h = absurd (false≢true (sym (h ∙ none)))
fits_received (has_met false) w l none h = (tt, refl)

not_due : (front : List Step) (d : Drawing) (x i : ℕ) (own : List Batch) (o : Option ℕ) (l : List Stretch) (is_due : Bool) → is_due ≡ false → waits i o ≡ waits (i + 1) o → At front d x own i o l → At (front ++ (fork_if is_due x (is_zero (length own)) d).0) (fork_if is_due x (is_zero (length own)) d).1 x own (i + 1) o l
not_due front d x i own o l is_due none same h =
    subst (λ (t : Bool). At (front ++ (fork_if t x (is_zero (length own)) d).0) (fork_if t x (is_zero (length own)) d).1 x own (i + 1) o l) (sym none)
    (record { phase = h.phase; fits = subst (λ (w : Bool). FitsBy own h.phase w l) same h.fits; here = kept_idle front d x h.phase h.here })

is_due_now : (front : List Step) (d : Drawing) (x i n : ℕ) (own : List Batch) (l : List Stretch) → n ≡ i → At front d x own i (Some n) l → At (front ++ (fork_if true x (is_zero (length own)) d).0) (fork_if true x (is_zero (length own)) d).1 x own (i + 1) (Some n) l
is_due_now front d x i n [] l same h = record { phase = calm; fits = refl; here = own_open front d x (subst (Here front d x) h.fits h.here) }
is_due_now front d x i n (b ∷ own) l same h =
    let both : Awaits h.phase × FitsAt (received_phase h.phase) true l = fits_received h.phase (nat_lt n i) l (le-ltb n i (omega arith)) h.fits in
    record {
      phase = received_phase h.phase;
      fits = subst (λ (w : Bool). FitsAt (received_phase h.phase) w l) (sym (lt-ltb n (i + 1) (omega arith))) both.1;
      here = own_receive front d x h.phase both.0 h.here;
    }

one_fork : (front : List Step) (d : Drawing) (x i : ℕ) (own : List Batch) (o : Option ℕ) (l : List Stretch) → At front d x own i o l → At (front ++ (fork_if (same_base i o) x (is_zero (length own)) d).0) (fork_if (same_base i o) x (is_zero (length own)) d).1 x own (i + 1) o l
one_fork front d x i own None l h = not_due front d x i own None l false refl refl h
one_fork front d x i own (Some n) l h = elim (cases_eq n i) [
  | inl same ↦ subst (λ (t : Bool). At (front ++ (fork_if t x (is_zero (length own)) d).0) (fork_if t x (is_zero (length own)) d).1 x own (i + 1) (Some n) l) (sym (eq-eqb n i same)) (is_due_now front d x i n own l same h)
  | inr other ↦ not_due front d x i own (Some n) l (n == i) (ne_eqb n i other) (below_more n i other) h
]

pub kept_row : (batches joined : List Batch) (i : ℕ) (tails : List Tail) (c : ℕ) (front : List Step) (d : Drawing) (x : ℕ) (p : Phase) → (x < c) ⊎ (c + length tails ≤ x) → Here front d x p → Here (front ++ (forks_at batches joined i tails c d).0) (forks_at batches joined i tails c d).1 x p
kept_row batches joined i [] c front d x p where_x h = kept_idle front d x p h
kept_row batches joined i (tail ∷ tails) c front d x p where_x h =
    let draw : Draws = fork_if (same_base i (next_base batches joined tail c)) c (is_zero (length (of_client c joined))) in
    let other : c ≢ x = λ e. elim where_x [ inl less ↦ omega arith | inr more ↦ omega arith ] in
    let next : (x < c + 1) ⊎ (c + 1 + length tails ≤ x) = elim where_x [ inl less ↦ inl (omega arith) | inr more ↦ inr (omega arith) ] in
    here_front front (draw d).0 (forks_at batches joined i tails (c + 1) (draw d).1).0 (forks_at batches joined i tails (c + 1) (draw d).1).1 x p
    (kept_row batches joined i tails (c + 1) (front ++ (draw d).0) (draw d).1 x p next
    (kept_fork front (same_base i (next_base batches joined tail c)) c x (is_zero (length (of_client c joined))) d p other h))

at_here : (front longer : List Step) (d d_then : Drawing) (x : ℕ) (own : List Batch) (m : ℕ) (o : Option ℕ) (l : List Stretch) → ((p : Phase) → Here front d x p → Here longer d_then x p) → At front d x own m o l → At longer d_then x own m o l
at_here front longer d d_then x own m o l keep h = record { phase = h.phase; fits = h.fits; here = keep h.phase h.here }

pub own_row : (batches joined : List Batch) (i : ℕ) (tails : List Tail) (c k : ℕ) (front : List Step) (d : Drawing) (x : ℕ) (tail : Tail) (l : List Stretch) → slice_get tails k ≡ Some tail → c + k ≡ x → At front d x (of_client x joined) i (next_base batches joined tail x) l
    → At (front ++ (forks_at batches joined i tails c d).0) (forks_at batches joined i tails c d).1 x (of_client x joined) (i + 1) (next_base batches joined tail x) l
own_row batches joined i [] c k front d x tail l e at h = absurd cc
own_row batches joined i (t ∷ tails) c zero front d x tail l e at h =
    let here : c ≡ x = omega arith in
    let same : t ≡ tail = cc in
    let draw : Draws = fork_if (same_base i (next_base batches joined t c)) c (is_zero (length (of_client c joined))) in
    let one : At (front ++ (fork_if (same_base i (next_base batches joined t c)) c (is_zero (length (of_client c joined))) d).0) (fork_if (same_base i (next_base batches joined t c)) c (is_zero (length (of_client c joined))) d).1 x (of_client x joined) (i + 1) (next_base batches joined tail x) l =
    subst (λ (y : ℕ). At (front ++ (fork_if (same_base i (next_base batches joined t y)) y (is_zero (length (of_client y joined))) d).0) (fork_if (same_base i (next_base batches joined t y)) y (is_zero (length (of_client y joined))) d).1 x (of_client x joined) (i + 1) (next_base batches joined tail x) l) (sym here)
    (subst (λ (u : Tail). At (front ++ (fork_if (same_base i (next_base batches joined u x)) x (is_zero (length (of_client x joined))) d).0) (fork_if (same_base i (next_base batches joined u x)) x (is_zero (length (of_client x joined))) d).1 x (of_client x joined) (i + 1) (next_base batches joined tail x) l) (sym same)
    (one_fork front d x i (of_client x joined) (next_base batches joined tail x) l h)) in
    at_front front (draw d).0 (forks_at batches joined i tails (c + 1) (draw d).1).0 (forks_at batches joined i tails (c + 1) (draw d).1).1 x (of_client x joined) (i + 1) (next_base batches joined tail x) l
    (at_here (front ++ (draw d).0) ((front ++ (draw d).0) ++ (forks_at batches joined i tails (c + 1) (draw d).1).0) (draw d).1 (forks_at batches joined i tails (c + 1) (draw d).1).1 x (of_client x joined) (i + 1) (next_base batches joined tail x) l
    (λ p k. kept_row batches joined i tails (c + 1) (front ++ (draw d).0) (draw d).1 x p (inl (omega arith)) k) one)
own_row batches joined i (t ∷ tails) c (suc k) front d x tail l e at h =
    let other : c ≢ x = λ w. omega arith in
    let draw : Draws = fork_if (same_base i (next_base batches joined t c)) c (is_zero (length (of_client c joined))) in
    at_front front (draw d).0 (forks_at batches joined i tails (c + 1) (draw d).1).0 (forks_at batches joined i tails (c + 1) (draw d).1).1 x (of_client x joined) (i + 1) (next_base batches joined tail x) l
    (own_row batches joined i tails (c + 1) k (front ++ (draw d).0) (draw d).1 x tail l e (omega arith)
    (at_here front (front ++ (draw d).0) d (draw d).1 x (of_client x joined) i (next_base batches joined tail x) l
    (λ p here. kept_fork front (same_base i (next_base batches joined t c)) c x (is_zero (length (of_client c joined))) d p other here) h))

-- ---- whose a stretch leaves standing
owner_run : (front : List Step) (c : ℕ) (pulls : Bool) (before rest : List Event) (d : Drawing) (y : ℕ) → owner (front ++ ((events_on c before then pull_if pulls c then events_on c rest) d).0) y ≡ owner front y
owner_run front c false before rest d y =
    let early : List Step = map (event_step (d.standing c)) before in
    ap (λ (l : List Step). owner l y) (sym (append_assoc front (early ++ []) (map (event_step (d.standing c)) rest)))
    ∙ owner_events (front ++ (early ++ [])) (d.standing c) y rest ∙ ap (λ (l : List Step). owner (front ++ l) y) (append-nil early) ∙ owner_events front (d.standing c) y before
owner_run front c true before rest d y =
    let s : ℕ = d.standing c in
    let q : ℕ = d.received c in
    let r : ℕ = put c (d.received c) d.standing c in
    let early : List Step = map (event_step (d.standing c)) before in
    ap (λ (l : List Step). owner l y) (sym (append_assoc front (early ++ Join q s ∷ []) (map (event_step r) rest)))
    ∙ owner_events (front ++ (early ++ Join q s ∷ [])) r y rest ∙ ap (λ (l : List Step). owner l y) (sym (append_assoc front early (Join q s ∷ []))) ∙ owner-Join (front ++ early) q s y ∙ owner_events front s y before

standing_run : (front : List Step) (c : ℕ) (pulls : Bool) (before rest : List Event) (d : Drawing) → Owned front d c pulls → owner front (((events_on c before then pull_if pulls c then events_on c rest) d).1.standing c) ≡ Some c
standing_run front c false before rest d h = h.stands_owned
standing_run front c true before rest d h = ap (owner front) (put-here c c (d.received c) d.standing refl) ∙ h.received_owned refl

pub owner_stretch : (front : List Step) (c : ℕ) (opening : Bool) (s : Stretch) (d : Drawing) → Owned front d c (not_opening opening s.base) → owner (front ++ (run_stretch c opening s d).0) ((run_stretch c opening s d).1.standing c) ≡ Some c
owner_stretch front c opening s d h =
    owner_run front c (not_opening opening s.base) s.before s.rest d ((run_stretch c opening s d).1.standing c) ∙ standing_run front c (not_opening opening s.base) s.before s.rest d h

-- ---- a batch of its own
pub starts_of : (p : Phase) (w : Bool) (s : Stretch) (more : List Stretch) → w ≡ true → FitsAt p w (s ∷ more) → Starts p s.before
starts_of calm w s more now h = tt
starts_of marked_flush w s more now h = absurd h
starts_of sent_up w s more now h = absurd (false≢true (sym h.0 ∙ now))
starts_of come_down w s more now h = h.1.0
starts_of (has_met true) w s more now h = tt
starts_of (has_met false) w s more now h = absurd (false≢true (h ∙ now))

pub own_run : (front : List Step) (d : Drawing) (b : Batch) (x m : ℕ) (own : List Batch) (more : List Stretch) → (own ≡ [] → b.before ≡ []) → b.base < m → FlushedStretches (stretch_of b ∷ more) → Owned front d x (not_opening (is_zero (length own)) (Some b.base)) → At front d x own m (Some b.base) (stretch_of b ∷ more)
    → Ended front d x (run_stretch x (is_zero (length own)) (stretch_of b)) (b.before ++ b.rest)
own_run front d b x m [] more none l flushed mine h = own_opening front d x (stretch_of b) (none refl) flushed.0 mine.stands_owned (subst (Here front d x) h.fits h.here)
own_run front d b x m (y ∷ own) more none l flushed mine h =
    own_pulling front d x b.base b.before b.rest h.phase (starts_of h.phase (nat_lt b.base m) (stretch_of b) more (lt-ltb b.base m l) h.fits) flushed.0 mine.stands_owned (mine.received_owned refl) h.here

fits_pushed : (p : Phase) (l : List Stretch) → Ran p → (p ≡ marked_flush → BeginsReceived l) → FitsAt (pushed_phase p) false l
fits_pushed calm l ran h = tt
fits_pushed marked_flush l ran h = (refl, h refl)
fits_pushed sent_up l ran h = absurd ran
fits_pushed come_down l ran h = absurd ran
fits_pushed (has_met true) l ran h = absurd ran
fits_pushed (has_met false) l ran h = refl

fits_some : (own : List Batch) (b : Batch) (p : Phase) (w : Bool) (l : List Stretch) → FitsAt p w l → FitsBy (own ++ b ∷ []) p w l
fits_some [] b p w l h = h
fits_some (y ∷ own) b p w l h = h

none_waits : (m : ℕ) (o : Option ℕ) → ((n : ℕ) → o ≡ Some n → m ≤ n) → waits m o ≡ false
none_waits m None h = refl
none_waits m (Some n) h = le-ltb n m (h n refl)

own_batch : (front : List Step) (d : Drawing) (b : Batch) (m m_then : ℕ) (own : List Batch) (o : Option ℕ) (more : List Stretch) → (own ≡ [] → b.before ≡ []) → b.base < m → FlushedStretches (stretch_of b ∷ more) → ((n : ℕ) → o ≡ Some n → m_then ≤ n) → Owned front d b.client (not_opening (is_zero (length own)) (Some b.base)) → At front d b.client own m (Some b.base) (stretch_of b ∷ more)
    → At (front ++ ((run_stretch b.client (is_zero (length own)) (stretch_of b) then push b.client) d).0) ((run_stretch b.client (is_zero (length own)) (stretch_of b) then push b.client) d).1 b.client (own ++ b ∷ []) m_then o more
own_batch front d b m m_then own o more none l flushed later mine h =
    let x : ℕ = b.client in
    let run : Draws = run_stretch b.client (is_zero (length own)) (stretch_of b) in
    let ended : Ended front d b.client (run_stretch b.client (is_zero (length own)) (stretch_of b)) (b.before ++ b.rest) = own_run front d b x m own more none l flushed mine h in
    at_front front (run d).0 (push x (run d).1).0 (push x (run d).1).1 x (own ++ b ∷ []) m_then o more
    (record {
      phase = pushed_phase ended.phase;
      fits = fits_some own b (pushed_phase ended.phase) (waits m_then o) more (subst (λ (w : Bool). FitsAt (pushed_phase ended.phase) w more) (sym (none_waits m_then o later)) (fits_pushed ended.phase more ended.ran (λ e. flushed.1 (ended.flushed e))));
      here = own_push (front ++ (run d).0) (run d).1 x ended.phase ended.ran (owner_stretch front x (is_zero (length own)) (stretch_of b) d mine) ended.here;
    })

-- ---- one batch more
abbrev pub left_of : List Batch → Tail → List Batch → ℕ → List Stretch
left_of batches tail rest x = later_stretches x rest (tail_stretches batches tail x)

abbrev pub one_more : List Batch → List Tail → List Batch → Batch → Draws
one_more batches tails joined b =
    run_stretch b.client (is_zero (length (of_client b.client joined))) (stretch_of b) then push b.client then forks_at batches (joined ++ b ∷ []) (length joined + 1) tails 0

-- where x is when some batches are joined
abbrev pub Bound : List Batch → Tail → List Batch → List Batch → List Step → Drawing → ℕ → Type 0
Bound batches tail joined rest front d x = At front d x (of_client x joined) (length joined + 1) (next_base batches joined tail x) (left_of batches tail rest x)

row_on : (batches : List Batch) (tails : List Tail) (joined : List Batch) (b : Batch) (rest : List Batch) (tail : Tail) (front : List Step) (d : Drawing) (x : ℕ) (two : Draws) → slice_get tails x ≡ Some tail
    → At (front ++ (two d).0) (two d).1 x (of_client x (joined ++ b ∷ [])) (length joined + 1) (next_base batches (joined ++ b ∷ []) tail x) (left_of batches tail rest x)
    → Bound batches tail (joined ++ b ∷ []) rest (front ++ ((two then forks_at batches (joined ++ b ∷ []) (length joined + 1) tails 0) d).0) ((two then forks_at batches (joined ++ b ∷ []) (length joined + 1) tails 0) d).1 x
row_on batches tails joined b rest tail front d x two e h =
    let after : List Batch = joined ++ b ∷ [] in
    let forks : Draws = forks_at batches after (length joined + 1) tails 0 in
    let longer : length (joined ++ b ∷ []) ≡ length joined + 1 = length-append joined (b ∷ []) in
    let whole : Draws = two then forks in
    subst (λ (k : ℕ). At (front ++ (whole d).0) (whole d).1 x (of_client x after) (k + 1) (next_base batches after tail x) (left_of batches tail rest x)) (sym longer)
    (at_front front (two d).0 (forks (two d).1).0 (forks (two d).1).1 x (of_client x after) (length joined + 1 + 1) (next_base batches after tail x) (left_of batches tail rest x)
    (own_row batches after (length joined + 1) tails 0 x (front ++ (two d).0) (two d).1 x tail (left_of batches tail rest x) e (omega arith) h))

one_mine : (is_answer : List Update → Query → Answer → Type 0) (batches : List Batch) (tails : List Tail) (joined : List Batch) (b : Batch) (rest : List Batch) (tail : Tail) (front : List Step) (d : Drawing) → Cut is_answer batches tails joined (b ∷ rest) → Owned front d b.client (not_opening (is_zero (length (of_client b.client joined))) (Some b.base)) → slice_get tails b.client ≡ Some tail
    → FlushedStretches (stretch_of b ∷ left_of batches tail rest b.client) → At front d b.client (of_client b.client joined) (length joined + 1) (Some b.base) (stretch_of b ∷ left_of batches tail rest b.client)
    → Bound batches tail (joined ++ b ∷ []) rest (front ++ (one_more batches tails joined b d).0) (one_more batches tails joined b d).1 b.client
one_mine is_answer batches tails joined b rest tail front d cut mine e flushed h =
    let x : ℕ = b.client in
    let after : List Batch = joined ++ b ∷ [] in
    let own : List Batch = of_client b.client joined in
    let base : b.base ≤ length joined = cut.each.0.base in
    let longer : length (joined ++ b ∷ []) ≡ length joined + 1 = length-append joined (b ∷ []) in
    let two : Draws = run_stretch b.client (is_zero (length (of_client b.client joined))) (stretch_of b) then push b.client in
    row_on batches tails joined b rest tail front d x two e
    (subst (λ (l : List Batch). At (front ++ (two d).0) (two d).1 x l (length joined + 1) (next_base batches after tail x) (left_of batches tail rest x)) (sym (of_client-last joined b))
    (own_batch front d b (length joined + 1) (length joined + 1) own (next_base batches after tail x) (left_of batches tail rest x)
    (λ none. (cut.each.0.first (cut.each.0.round ∙ ap (λ (l : List Batch). length l + 1) none)).0) (omega arith) flushed
    (λ n at. let more : length (joined ++ b ∷ []) ≤ n = next_later is_answer batches tails joined b rest tail cut e n at in omega arith) mine h))

one_other : (is_answer : List Update → Query → Answer → Type 0) (batches : List Batch) (tails : List Tail) (joined : List Batch) (b : Batch) (rest : List Batch) (tail : Tail) (front : List Step) (d : Drawing) (x : ℕ) → b.client ≢ x → Owned front d b.client (not_opening (is_zero (length (of_client b.client joined))) (Some b.base)) → slice_get tails x ≡ Some tail
    → At front d x (of_client x joined) (length joined + 1) (next_base batches joined tail x) (left_of batches tail rest x)
    → Bound batches tail (joined ++ b ∷ []) rest (front ++ (one_more batches tails joined b d).0) (one_more batches tails joined b d).1 x
one_other is_answer batches tails joined b rest tail front d x other mine e h =
    let c : ℕ = b.client in
    let after : List Batch = joined ++ b ∷ [] in
    let is_first : Bool = is_zero (length (of_client c joined)) in
    let run : Draws = run_stretch b.client (is_zero (length (of_client b.client joined))) (stretch_of b) in
    let two : Draws = run then push b.client in
    let own_same : of_client x (joined ++ b ∷ []) ≡ of_client x joined = of_client-other x joined b other in
    let base_same : next_base batches (joined ++ b ∷ []) tail x ≡ next_base batches joined tail x = next_base-other batches joined b tail x other in
    row_on batches tails joined b rest tail front d x two e
    (subst (λ (l : List Batch). At (front ++ (two d).0) (two d).1 x l (length joined + 1) (next_base batches after tail x) (left_of batches tail rest x)) (sym own_same)
    (subst (λ (o : Option ℕ). At (front ++ (two d).0) (two d).1 x (of_client x joined) (length joined + 1) o (left_of batches tail rest x)) (sym base_same)
    (at_here front (front ++ (two d).0) d (two d).1 x (of_client x joined) (length joined + 1) (next_base batches joined tail x) (left_of batches tail rest x)
    (λ p here. here_front front (run d).0 (push c (run d).1).0 (push c (run d).1).1 x p (kept_push (front ++ (run d).0) c x (run d).1 p other (kept_stretch front c x is_first (stretch_of b) d p other mine.stands_owned mine.received_owned here))) h)))

one_either : (is_answer : List Update → Query → Answer → Type 0) (batches : List Batch) (tails : List Tail) (joined : List Batch) (b : Batch) (rest : List Batch) (tail : Tail) (front : List Step) (d : Drawing) (x : ℕ) → Cut is_answer batches tails joined (b ∷ rest) → Owned front d b.client (not_opening (is_zero (length (of_client b.client joined))) (Some b.base)) → slice_get tails x ≡ Some tail
    → FlushedStretches (left_of batches tail (b ∷ rest) x) → Bound batches tail joined (b ∷ rest) front d x
    → FlushedStretches (left_of batches tail rest x) × Bound batches tail (joined ++ b ∷ []) rest (front ++ (one_more batches tails joined b d).0) (one_more batches tails joined b d).1 x
one_either is_answer batches tails joined b rest tail front d x cut mine e flushed h = elim (cases_eq b.client x) [
  | inl same ↦
      subst (λ (y : ℕ). slice_get tails y ≡ Some tail → FlushedStretches (left_of batches tail (b ∷ rest) y) → Bound batches tail joined (b ∷ rest) front d y → FlushedStretches (left_of batches tail rest y) × Bound batches tail (joined ++ b ∷ []) rest (front ++ (one_more batches tails joined b d).0) (one_more batches tails joined b d).1 y) same
      (λ there all at.
      let first : left_of batches tail (b ∷ rest) b.client ≡ stretch_of b ∷ left_of batches tail rest b.client = ap (λ (l : List Batch). map stretch_of l ++ tail_stretches batches tail b.client) (of_client-here b.client b rest refl) in
      let met : FlushedStretches (stretch_of b ∷ left_of batches tail rest b.client) = subst FlushedStretches first all in (
        met.2,
        one_mine is_answer batches tails joined b rest tail front d cut mine there met
            (subst (λ (l : List Stretch). At front d b.client (of_client b.client joined) (length joined + 1) (Some b.base) l) first
            (subst (λ (o : Option ℕ). At front d b.client (of_client b.client joined) (length joined + 1) o (left_of batches tail (b ∷ rest) b.client)) (next_base-batch batches joined rest b tail cut.whole) at)),
      ))
      e flushed h
  | inr other ↦
      let still : left_of batches tail (b ∷ rest) x ≡ left_of batches tail rest x = ap (λ (l : List Batch). map stretch_of l ++ tail_stretches batches tail x) (of_client-else x b rest other) in (
        subst FlushedStretches still flushed,
        one_other is_answer batches tails joined b rest tail front d x other mine e (subst (λ (l : List Stretch). At front d x (of_client x joined) (length joined + 1) (next_base batches joined tail x) l) still h),
      )
]

-- all batches
pub at_batches : (is_answer : List Update → Query → Answer → Type 0) (batches : List Batch) (tails : List Tail) (joined rest : List Batch) (tail : Tail) (x : ℕ) → Cut is_answer batches tails joined rest → (front : List Step) (d : Drawing) → Drawn is_answer front d (flat joined (length joined)) (status_at batches tails joined (length joined + 1)) → slice_get tails x ≡ Some tail
    → FlushedStretches (left_of batches tail rest x) → Bound batches tail joined rest front d x
    → FlushedStretches (tail_stretches batches tail x) × Bound batches tail batches [] (front ++ (batches_from batches tails joined rest d).0) (batches_from batches tails joined rest d).1 x
at_batches is_answer batches tails joined [] tail x cut front d drawn e flushed h =
    let same : joined ≡ batches = sym (append-nil joined) ∙ sym cut.whole in (
      flushed,
      subst (λ (l : List Batch). Bound batches tail l [] (front ++ []) d x) same (subst (λ (l : List Step). Bound batches tail joined [] l d x) (sym (append-nil front)) h),
    )
at_batches is_answer batches tails joined (b ∷ rest) tail x cut front d drawn e flushed h =
    let c : ℕ = b.client in
    let after : List Batch = joined ++ b ∷ [] in
    let log : List Update = flat joined (length joined) in
    let status : ℕ → Status = status_at batches tails joined (length joined + 1) in
    let there : b.client < length tails = cut.clients.0 in
    let its = slice_there tails b.client there in
    let at : status_at batches tails joined (length joined + 1) b.client ≡ status_by joined (length joined + 1) (of_client b.client joined) (Some b.base) =
    ap (status_of batches joined (length joined + 1) c) its.1 ∙ ap (λ (o : Option ℕ). status_by joined (length joined + 1) (of_client c joined) o) (next_base-batch batches joined rest b its.0 cut.whole) in
    let mine : Owned front d b.client (not_opening (is_zero (length (of_client b.client joined))) (Some b.base)) = owned_based is_answer front d log status c joined (of_client c joined) b.base cut.each.0.base drawn at in
    let one : Draws = one_more batches tails joined b in
    let now = one_either is_answer batches tails joined b rest tail front d x cut mine e flushed h in
    let more = at_batches is_answer batches tails after rest tail x (cut_on is_answer batches tails joined b rest cut) (front ++ (one d).0) (one d).1 (leads_one is_answer batches tails joined b rest cut front d drawn) e now.0 now.1 in (
      more.0,
      at_front front (one d).0 (batches_from batches tails after rest (one d).1).0 (batches_from batches tails after rest (one d).1).1 x (of_client x batches) (length batches + 1) (next_base batches batches tail x) (left_of batches tail [] x) more.1,
    )
