-- How far a client's flush is met, over a stretch and what comes behind it.
use Rattle.record_diagram.proofs.Onward.{acts_event}
use Rattle.std.proofs.Common.{◌≡◌, ℕ, ◌+◌, ◌<◌, Bool, true, false, List, [], ◌∷◌, ◌++◌, refl, sym, ap, subst, ◌∙◌, Option, Some, None, ◌⊎◌, inl, inr, append-nil}
use Rattle.std.specs.Prelude.{◌≢◌, map}
use Rattle.std.specs.List.{last_or}
use Rattle.std.proofs.lemmas.Bool.{ne_eqb}
use Rattle.std.proofs.lemmas.List.{append_assoc}
use Rattle.cloud_base.specs.declared.batch.Stretch.{Stretch}
use Rattle.cloud_base.specs.declared.update.Event.{Event}
use Rattle.cloud_base.specs.declared.update.Event.TheVariants as event
use Rattle.revision_diagram.specs.declared.step.Step.{Step}
use Rattle.revision_diagram.specs.declared.step.Step.TheVariants.{Fork, Join}
use Rattle.revision_diagram.specs.Diagram.{put, is_of, revisions, owner}
use Rattle.revision_diagram.specs.Story.{is_told, is_act_of}
use Rattle.revision_diagram.proofs.Draws.{revisions-Fork, revisions-Join, revisions-act, owner-Join}
use Rattle.revision_diagram.proofs.Flushes.{newest-Join, newest-act, newest-other}
use Rattle.revision_diagram.proofs.KeepsOnce.{put-here, put-else}
use Rattle.revision_diagram.proofs.Owners.{owned_there}
use Rattle.batch_history.specs.Flushed.{FlushesEnd}
use Rattle.record_diagram.specs.Steps.{Drawing, Draws, ◌then◌, event_step, events_on, pull_if, not_opening, run_stretch, push, send, fork_for, fork_if}
use Rattle.record_diagram.proofs.Told.{owner_events}
use Rattle.record_diagram.proofs.Owing.{Phase, calm, marked_flush, sent_up, come_down, has_met, State, state_kept, Ready, phase_of, state_event, pulled_phase, Waits, state_pull, Rests, state_send, pushed_phase, Ran, state_push, received_phase, Awaits, state_receive, state_calm}

-- x is at this phase here
pub record Here (front : List Step) (d : Drawing) (x : ℕ) (phase : Phase) : Type 0 where
  pub state : State front x (d.standing x) (d.received x) phase
  pub free : d.next ≡ revisions front

pub revisions_events : (front : List Step) (s : ℕ) (es : List Event) → revisions (front ++ map (event_step s) es) ≡ revisions front
revisions_events front s [] = ap (λ (l : List Step). revisions l) (append-nil front)
revisions_events front s (e ∷ es) =
    ap (λ (l : List Step). revisions l) (sym (append_assoc front (event_step s e ∷ []) (map (event_step s) es)))
    ∙ revisions_events (front ++ event_step s e ∷ []) s es ∙ revisions-act front (event_step s e) s (acts_event s e)

-- ---- another client's stretch
untold_event : (front : List Step) (s c x : ℕ) (e : Event) → owner front s ≡ Some c → c ≢ x → is_told x front (event_step s e) ≡ false
untold_event front s c x e mine other = ap (is_act_of x front) (acts_event s e) ∙ ap (is_of x) mine ∙ ne_eqb c x other

kept_events : (front : List Step) (s c x a b : ℕ) (es : List Event) (p : Phase) → owner front s ≡ Some c → c ≢ x → State front x a b p → State (front ++ map (event_step s) es) x a b p
kept_events front s c x a b [] p mine other h = subst (λ (l : List Step). State l x a b p) (sym (append-nil front)) h
kept_events front s c x a b (e ∷ es) p mine other h =
    subst (λ (l : List Step). State l x a b p) (append_assoc front (event_step s e ∷ []) (map (event_step s) es))
    (kept_events (front ++ event_step s e ∷ []) s c x a b es p (owner_events front s s (e ∷ []) ∙ mine) other
    (state_kept front (event_step s e) x a b p (untold_event front s c x e mine other) (newest-act front (event_step s e) s x (acts_event s e)) h))

kept_rest : (front : List Step) (c x : ℕ) (pulls : Bool) (rest : List Event) (d : Drawing) (p : Phase) → c ≢ x → owner front (d.standing c) ≡ Some c → (pulls ≡ true → owner front (d.received c) ≡ Some c) → Here front d x p → Here (front ++ ((pull_if pulls c then events_on c rest) d).0) ((pull_if pulls c then events_on c rest) d).1 x p
kept_rest front c x false rest d p other mine theirs h = record {
  state = kept_events front (d.standing c) c x (d.standing x) (d.received x) rest p mine other h.state;
  free = h.free ∙ sym (revisions_events front (d.standing c) rest);
}
kept_rest front c x true rest d p other mine theirs h =
    let q : ℕ = d.received c in
    let s : ℕ = d.standing c in
    let longer : List Step = front ++ Join (d.received c) (d.standing c) ∷ [] in
    let here : put c (d.received c) d.standing c ≡ d.received c = put-here c c q d.standing refl in
    let still : put c (d.received c) d.standing x ≡ d.standing x = put-else c x q d.standing (λ e. other (sym e)) in
    let back : (front ++ Join q s ∷ []) ++ map (event_step (put c (d.received c) d.standing c)) rest ≡ front ++ (Join q s ∷ [] ++ map (event_step (put c (d.received c) d.standing c)) rest) = append_assoc front (Join q s ∷ []) (map (event_step (put c q d.standing c)) rest) in
    let whose : owner (front ++ Join (d.received c) (d.standing c) ∷ []) (put c (d.received c) d.standing c) ≡ Some c = ap (owner longer) here ∙ owner-Join front q s q ∙ theirs refl in
    record {
      state = subst (λ (l : List Step). State l x (put c q d.standing x) (d.received x) p) back
          (subst (λ (k : ℕ). State (longer ++ map (event_step (put c q d.standing c)) rest) x k (d.received x) p) (sym still)
          (kept_events longer (put c q d.standing c) c x (d.standing x) (d.received x) rest p whose other (state_kept front (Join q s) x (d.standing x) (d.received x) p refl (newest-Join front q s x) h.state)));
      free = h.free ∙ sym (ap (λ (l : List Step). revisions l) (sym back) ∙ revisions_events longer (put c q d.standing c) rest ∙ revisions-Join front q s);
    }

-- a stretch of c leaves x
pub kept_stretch : (front : List Step) (c x : ℕ) (opening : Bool) (s : Stretch) (d : Drawing) (p : Phase) → c ≢ x → owner front (d.standing c) ≡ Some c → (not_opening opening s.base ≡ true → owner front (d.received c) ≡ Some c) → Here front d x p → Here (front ++ (run_stretch c opening s d).0) (run_stretch c opening s d).1 x p
kept_stretch front c x opening s d p other mine theirs h =
    let pulls : Bool = not_opening opening s.base in
    let before : List Step = map (event_step (d.standing c)) s.before in
    let later : List Step = ((pull_if pulls c then events_on c s.rest) d).0 in
    let same : (front ++ map (event_step (d.standing c)) s.before) ++ ((pull_if (not_opening opening s.base) c then events_on c s.rest) d).0 ≡ front ++ (run_stretch c opening s d).0 =
    append_assoc front before later ∙ ap (λ (l : List Step). front ++ l) (sym (append_assoc before ((pull_if pulls c) d).0 ((events_on c s.rest) ((pull_if pulls c) d).1).0)) in
    subst (λ (l : List Step). Here l (run_stretch c opening s d).1 x p) same
    (kept_rest (front ++ before) c x pulls s.rest d p other (owner_events front (d.standing c) (d.standing c) s.before ∙ mine) (λ e. owner_events front (d.standing c) (d.received c) s.before ∙ theirs e)
    (record { state = kept_events front (d.standing c) c x (d.standing x) (d.received x) s.before p mine other h.state; free = h.free ∙ sym (revisions_events front (d.standing c) s.before) }))

pub kept_push : (front : List Step) (c x : ℕ) (d : Drawing) (p : Phase) → c ≢ x → Here front d x p → Here (front ++ (push c d).0) (push c d).1 x p
kept_push front c x d p other h =
    let s : ℕ = d.standing c in
    let still : put c d.next d.standing x ≡ d.standing x = put-else c x d.next d.standing (λ e. other (sym e)) in
    let mid : List Step = front ++ Fork (d.standing c) c ∷ [] in
    let back : (front ++ Fork (d.standing c) c ∷ []) ++ Join 0 (d.standing c) ∷ [] ≡ front ++ Fork (d.standing c) c ∷ Join 0 (d.standing c) ∷ [] = append_assoc front (Fork s c ∷ []) (Join 0 s ∷ []) in
    let first : State (front ++ Fork (d.standing c) c ∷ []) x (d.standing x) (d.received x) p = state_kept front (Fork s c) x (d.standing x) (d.received x) p refl (newest-other front s c x other) h.state in
    record {
      state = subst (λ (l : List Step). State l x (put c d.next d.standing x) (d.received x) p) back
          (subst (λ (k : ℕ). State (mid ++ Join 0 s ∷ []) x k (d.received x) p) (sym still) (state_kept mid (Join 0 s) x (d.standing x) (d.received x) p refl (newest-Join mid 0 s x) first));
      free = ap (λ (k : ℕ). k + 1) h.free ∙ sym (ap (λ (l : List Step). revisions l) (sym back) ∙ revisions-Join mid 0 s ∙ revisions-Fork front s c);
    }

pub kept_send : (front : List Step) (c x : ℕ) (d : Drawing) (p : Phase) → c ≢ x → Here front d x p → Here (front ++ (send c d).0) (send c d).1 x p
kept_send front c x d p other h =
    let s : ℕ = d.standing c in
    let still : put c d.next d.standing x ≡ d.standing x = put-else c x d.next d.standing (λ e. other (sym e)) in
    record {
      state = subst (λ (k : ℕ). State (front ++ Fork s c ∷ []) x k (d.received x) p) (sym still) (state_kept front (Fork s c) x (d.standing x) (d.received x) p refl (newest-other front s c x other) h.state);
      free = ap (λ (k : ℕ). k + 1) h.free ∙ sym (revisions-Fork front s c);
    }

pub kept_idle : (front : List Step) (d : Drawing) (x : ℕ) (p : Phase) → Here front d x p → Here (front ++ []) d x p
kept_idle front d x p h = subst (λ (l : List Step). Here l d x p) (sym (append-nil front)) h

pub kept_fork : (front : List Step) (is_due : Bool) (c x : ℕ) (opening : Bool) (d : Drawing) (p : Phase) → c ≢ x → Here front d x p → Here (front ++ (fork_if is_due c opening d).0) (fork_if is_due c opening d).1 x p
kept_fork front false c x opening d p other h = kept_idle front d x p h
kept_fork front true c x true d p other h =
    let still : put c d.next d.standing x ≡ d.standing x = put-else c x d.next d.standing (λ e. other (sym e)) in
    record {
      state = subst (λ (k : ℕ). State (front ++ Fork 0 c ∷ []) x k (d.received x) p) (sym still) (state_kept front (Fork 0 c) x (d.standing x) (d.received x) p refl (newest-other front 0 c x other) h.state);
      free = ap (λ (k : ℕ). k + 1) h.free ∙ sym (revisions-Fork front 0 c);
    }
kept_fork front true c x false d p other h =
    let still : put c d.next d.received x ≡ d.received x = put-else c x d.next d.received (λ e. other (sym e)) in
    record {
      state = subst (λ (k : ℕ). State (front ++ Fork 0 c ∷ []) x (d.standing x) k p) (sym still) (state_kept front (Fork 0 c) x (d.standing x) (d.received x) p refl (newest-other front 0 c x other) h.state);
      free = ap (λ (k : ℕ). k + 1) h.free ∙ sym (revisions-Fork front 0 c);
    }

-- ---- its own events
abbrev pub phase_after : Phase → List Event → Phase
phase_after p [] = p
phase_after p (e ∷ es) = phase_after (phase_of e) es

run_more : (front : List Step) (x s q : ℕ) (e : Event) (es : List Event) (p : Phase) → State ((front ++ event_step s e ∷ []) ++ map (event_step s) es) x s q p → State (front ++ map (event_step s) (e ∷ es)) x s q p
run_more front x s q e es p h = subst (λ (l : List Step). State l x s q p) (append_assoc front (event_step s e ∷ []) (map (event_step s) es)) h

pub run_events : (front : List Step) (x s q : ℕ) (es : List Event) (p : Phase) → Ready p → FlushesEnd es → owner front s ≡ Some x → State front x s q p → State (front ++ map (event_step s) es) x s q (phase_after p es)
run_events front x s q [] p ready ends mine h = subst (λ (l : List Step). State l x s q p) (sym (append-nil front)) h
run_events front x s q (event.Do u ∷ es) p ready ends mine h =
    run_more front x s q (event.Do u) es (phase_after calm es) (run_events (front ++ event_step s (event.Do u) ∷ []) x s q es calm tt ends (owner_events front s s (event.Do u ∷ []) ∙ mine) (state_event front x s q (event.Do u) p ready mine (owned_there front s x mine) h))
run_events front x s q (event.Ask r a ∷ es) p ready ends mine h =
    run_more front x s q (event.Ask r a) es (phase_after calm es) (run_events (front ++ event_step s (event.Ask r a) ∷ []) x s q es calm tt ends (owner_events front s s (event.Ask r a ∷ []) ∙ mine) (state_event front x s q (event.Ask r a) p ready mine (owned_there front s x mine) h))
run_events front x s q (event.Say v ∷ es) p ready ends mine h =
    run_more front x s q (event.Say v) es (phase_after calm es) (run_events (front ++ event_step s (event.Say v) ∷ []) x s q es calm tt ends (owner_events front s s (event.Say v ∷ []) ∙ mine) (state_event front x s q (event.Say v) p ready mine (owned_there front s x mine) h))
run_events front x s q (event.Yield ∷ es) p ready ends mine h =
    run_more front x s q event.Yield es (phase_after calm es) (run_events (front ++ event_step s event.Yield ∷ []) x s q es calm tt ends (owner_events front s s (event.Yield ∷ []) ∙ mine) (state_event front x s q event.Yield p ready mine (owned_there front s x mine) h))
run_events front x s q (event.Flush ∷ es) p ready ends mine h =
    subst (λ (l : List Event). State (front ++ map (event_step s) (event.Flush ∷ l)) x s q (phase_after marked_flush l)) (sym ends) (state_event front x s q event.Flush p ready mine (owned_there front s x mine) h)

rests_ready : (p : Phase) → Rests p → Ready p
rests_ready calm h = tt
rests_ready marked_flush h = absurd h
rests_ready sent_up h = absurd h
rests_ready come_down h = absurd h
rests_ready (has_met w) h = tt

rests_ran : (p : Phase) → Rests p → Ran p
rests_ran calm h = tt
rests_ran marked_flush h = absurd h
rests_ran sent_up h = absurd h
rests_ran come_down h = absurd h
rests_ran (has_met true) h = absurd h
rests_ran (has_met false) h = tt

rests_no_flush : (p : Phase) → Rests p → p ≡ marked_flush → ⊥
rests_no_flush p h e = subst Rests e h

-- where it ends flushed, the last event is a flush
ends_by : (p : Phase) (es : List Event) (o : Option Event) → Rests p → FlushesEnd es → Ran (phase_after p es) × (phase_after p es ≡ marked_flush → last_or o es ≡ Some event.Flush)
ends_by p [] o rests ends = (rests_ran p rests, λ e. absurd (rests_no_flush p rests e))
ends_by p (event.Do u ∷ es) o rests ends = ends_by calm es (Some (event.Do u)) tt ends
ends_by p (event.Ask q a ∷ es) o rests ends = ends_by calm es (Some (event.Ask q a)) tt ends
ends_by p (event.Say v ∷ es) o rests ends = ends_by calm es (Some (event.Say v)) tt ends
ends_by p (event.Yield ∷ es) o rests ends = ends_by calm es (Some event.Yield) tt ends
ends_by p (event.Flush ∷ es) o rests ends = subst (λ (l : List Event). Ran (phase_after marked_flush l) × (phase_after marked_flush l ≡ marked_flush → last_or (Some event.Flush) l ≡ Some event.Flush)) (sym ends) (tt, λ e. refl)

last_append : (o : Option Event) (xs ys : List Event) → last_or o (xs ++ ys) ≡ last_or (last_or o xs) ys
last_append o [] ys = refl
last_append o (x ∷ xs) ys = last_append (Some x) xs ys

-- what a pull comes behind
pub data Before (p : Phase) (o : Option Event) (before rest : List Event) : Type 0 where
  flushes : phase_after p before ≡ marked_flush → rest ≡ [] → last_or o (before ++ rest) ≡ Some event.Flush → FlushesEnd before → Before p o before rest
  goes_on : (phase_after p before ≡ calm) ⊎ (phase_after p before ≡ p) → FlushesEnd before → FlushesEnd rest → Before p o before rest

from_calm : {p : Phase} {o oo : Option Event} {e : Event} (before rest : List Event) → phase_of e ≡ calm → (FlushesEnd before → FlushesEnd (e ∷ before)) → oo ≡ Some e → Before calm oo before rest → Before p o (e ∷ before) rest
from_calm {p} {o} {oo} {e} before rest same ends is_some (flushes h k l m) = flushes (ap (λ (t : Phase). phase_after t before) same ∙ h) k (ap (λ (t : Option Event). last_or t (before ++ rest)) (sym is_some) ∙ l) (ends m)
from_calm {p} {o} {oo} {e} before rest same ends is_some (goes_on h k l) = goes_on (inl (ap (λ (t : Phase). phase_after t before) same ∙ elim h [ inl a ↦ a | inr b ↦ b ])) (ends k) l

nothing_first : (xs ys : List Event) → xs ++ ys ≡ [] → xs ≡ []
nothing_first [] ys e = refl
nothing_first (x ∷ xs) ys e = absurd cc

pub before_cases : (p : Phase) (o : Option Event) (before rest : List Event) → FlushesEnd (before ++ rest) → Before p o before rest
before_cases p o [] rest ends = goes_on (inr refl) tt ends
before_cases p o (event.Do u ∷ before) rest ends = from_calm before rest refl (λ h. h) refl (before_cases calm (Some (event.Do u)) before rest ends)
before_cases p o (event.Ask q a ∷ before) rest ends = from_calm before rest refl (λ h. h) refl (before_cases calm (Some (event.Ask q a)) before rest ends)
before_cases p o (event.Say v ∷ before) rest ends = from_calm before rest refl (λ h. h) refl (before_cases calm (Some (event.Say v)) before rest ends)
before_cases p o (event.Yield ∷ before) rest ends = from_calm before rest refl (λ h. h) refl (before_cases calm (Some event.Yield) before rest ends)
before_cases p o (event.Flush ∷ before) rest ends =
    let none : before ≡ [] = nothing_first before rest ends in
    let no_rest : rest ≡ [] = sym (ap (λ (l : List Event). l ++ rest) none) ∙ ends in
    flushes (ap (phase_after marked_flush) none) no_rest (ap (last_or (Some event.Flush)) ends) none

-- ---- its own stretch: what it starts at, and where it ends
abbrev pub Starts : Phase → List Event → Type 0
Starts calm before = Unit {0}
Starts marked_flush before = ⊥
Starts sent_up before = ⊥
Starts come_down before = before ≡ []
Starts (has_met true) before = Unit {0}
Starts (has_met false) before = ⊥

pub record Ended (front : List Step) (d : Drawing) (x : ℕ) (draw : Draws) (events : List Event) : Type 0 where
  pub phase : Phase
  pub ran : Ran phase
  pub flushed : phase ≡ marked_flush → last_or None events ≡ Some event.Flush
  pub here : Here (front ++ (draw d).0) (draw d).1 x phase

run_before : (front : List Step) (x s q : ℕ) (before : List Event) (p : Phase) → Starts p before → FlushesEnd before → owner front s ≡ Some x → State front x s q p → State (front ++ map (event_step s) before) x s q (phase_after p before)
run_before front x s q before calm starts ends mine h = run_events front x s q before calm tt ends mine h
run_before front x s q before marked_flush starts ends mine h = absurd starts
run_before front x s q before sent_up starts ends mine h = absurd starts
run_before front x s q before come_down starts ends mine h = subst (λ (l : List Event). State (front ++ map (event_step s) l) x s q (phase_after come_down l)) (sym starts) (subst (λ (l : List Step). State l x s q come_down) (sym (append-nil front)) h)
run_before front x s q before (has_met w) starts ends mine h = run_events front x s q before (has_met w) tt ends mine h

starts_wait : (p : Phase) (before : List Event) → Starts p before → Waits p × Rests (pulled_phase p)
starts_wait calm before h = (tt, tt)
starts_wait marked_flush before h = absurd h
starts_wait sent_up before h = absurd h
starts_wait come_down before h = (tt, tt)
starts_wait (has_met true) before h = (tt, tt)
starts_wait (has_met false) before h = absurd h

-- behind its pull
behind_pull : (front : List Step) (x s q : ℕ) (before rest : List Event) (p : Phase) → Starts p before → FlushesEnd (before ++ rest) → owner front s ≡ Some x → owner front q ≡ Some x → State front x s q p
    → (last : Phase) × (Ran last × (last ≡ marked_flush → last_or None (before ++ rest) ≡ Some event.Flush)) × State (((front ++ map (event_step s) before) ++ Join q s ∷ []) ++ map (event_step q) rest) x q q last
behind_pull front x s q before rest p starts ends mine theirs h =
    let front_1 : List Step = front ++ map (event_step s) before in
    let front_2 : List Step = front_1 ++ Join q s ∷ [] in
    let there : q < revisions (front ++ map (event_step s) before) = owned_there front_1 q x (owner_events front s q before ∙ theirs) in
    let whose : owner ((front ++ map (event_step s) before) ++ Join q s ∷ []) q ≡ Some x = owner-Join front_1 q s q ∙ owner_events front s q before ∙ theirs in
    elim (before_cases p None before rest ends) [
      | flushes at none last ends_before ↦
          let now : State (front ++ map (event_step s) before) x s q marked_flush = subst (State front_1 x s q) at (run_before front x s q before p starts ends_before mine h) in (
            marked_flush,
            (tt, λ e. last),
            subst (λ (l : List Event). State (front_2 ++ map (event_step q) l) x q q marked_flush) (sym none) (subst (λ (l : List Step). State l x q q marked_flush) (sym (append-nil front_2)) (state_pull front_1 x s q marked_flush tt there now)),
          )
      | goes_on at ends_before ends_rest ↦
          let p_then : Phase = phase_after p before in
          let both : Waits p_then × Rests (pulled_phase p_then) = elim at [
            | inl is_calm ↦ subst (λ (t : Phase). Waits t × Rests (pulled_phase t)) (sym is_calm) (tt, tt)
            | inr same ↦ subst (λ (t : Phase). Waits t × Rests (pulled_phase t)) (sym same) (starts_wait p before starts)
          ] in
          let last = ends_by (pulled_phase p_then) rest (last_or None before) both.1 ends_rest in (
            phase_after (pulled_phase p_then) rest,
            (last.0, λ e. last_append None before rest ∙ last.1 e),
            run_events front_2 x q q rest (pulled_phase p_then) (rests_ready (pulled_phase p_then) both.1) ends_rest whose (state_pull front_1 x s q p_then both.0 there (run_before front x s q before p starts ends_before mine h)),
          )
    ]

pub own_pulling : (front : List Step) (d : Drawing) (x n : ℕ) (before rest : List Event) (p : Phase) → Starts p before → FlushesEnd (before ++ rest) → owner front (d.standing x) ≡ Some x → owner front (d.received x) ≡ Some x → Here front d x p → Ended front d x (run_stretch x false (record { base = Some n; before = before; rest = rest })) (before ++ rest)
own_pulling front d x n before rest p starts ends mine theirs h =
    let s : ℕ = d.standing x in
    let q : ℕ = d.received x in
    let r : ℕ = put x (d.received x) d.standing x in
    let here : put x (d.received x) d.standing x ≡ d.received x = put-here x x q d.standing refl in
    let run = behind_pull front x s q before rest p starts ends mine theirs h.state in
    let early : List Step = map (event_step s) before in
    let front_1 : List Step = front ++ map (event_step s) before in
    let same : ((front ++ map (event_step s) before) ++ Join q s ∷ []) ++ map (event_step r) rest ≡ front ++ ((map (event_step s) before ++ Join q s ∷ []) ++ map (event_step r) rest) =
    ap (λ (l : List Step). l ++ map (event_step r) rest) (append_assoc front early (Join q s ∷ [])) ∙ append_assoc front (early ++ Join q s ∷ []) (map (event_step r) rest) in
    record {
      phase = run.0;
      ran = run.1.0;
      flushed = run.1.1;
      here = record {
        state = subst (λ (l : List Step). State l x r q run.0) same (subst (λ (k : ℕ). State (((front ++ map (event_step s) before) ++ Join q s ∷ []) ++ map (event_step k) rest) x k q run.0) (sym here) run.2);
        free = h.free ∙ sym (ap (λ (l : List Step). revisions l) (sym same) ∙ revisions_events (front_1 ++ Join q s ∷ []) r rest ∙ revisions-Join front_1 q s ∙ revisions_events front s before);
      };
    }

-- without a pull
own_silent : (front : List Step) (d : Drawing) (x : ℕ) (es : List Event) (p : Phase) → Rests p → FlushesEnd es → owner front (d.standing x) ≡ Some x → Here front d x p → Ended front d x (events_on x es) es
own_silent front d x es p rests ends mine h =
    let last = ends_by p es None rests ends in
    record {
      phase = phase_after p es;
      ran = last.0;
      flushed = last.1;
      here = record { state = run_events front x (d.standing x) (d.received x) es p (rests_ready p rests) ends mine h.state; free = h.free ∙ sym (revisions_events front (d.standing x) es) };
    }

pub own_opening : (front : List Step) (d : Drawing) (x : ℕ) (s : Stretch) → s.before ≡ [] → FlushesEnd (s.before ++ s.rest) → owner front (d.standing x) ≡ Some x → Here front d x calm → Ended front d x (run_stretch x true s) (s.before ++ s.rest)
own_opening front d x s none ends mine h =
    subst (λ (l : List Event). Ended front d x ((events_on x l then pull_if false x) then events_on x s.rest) (l ++ s.rest)) (sym none)
    (let run : Ended front d x (events_on x s.rest) s.rest = own_silent front d x s.rest calm tt (subst (λ (l : List Event). FlushesEnd (l ++ s.rest)) none ends) mine h in
    record { phase = run.phase; ran = run.ran; flushed = run.flushed; here = run.here })

pub own_before : (front : List Step) (d : Drawing) (x : ℕ) (opening : Bool) (s : Stretch) (p : Phase) → s.base ≡ None → s.rest ≡ [] → Rests p → FlushesEnd (s.before ++ s.rest) → owner front (d.standing x) ≡ Some x → Here front d x p → Ended front d x (run_stretch x opening s) (s.before ++ s.rest)
own_before front d x opening s p no_base no_rest rests ends mine h =
    let pulls : not_opening opening s.base ≡ false = ap (not_opening opening) no_base ∙ never opening in
    let alone : s.before ++ s.rest ≡ s.before = ap (λ (l : List Event). s.before ++ l) no_rest ∙ append-nil s.before in
    let run : Ended front d x (events_on x s.before) s.before = own_silent front d x s.before p rests (subst FlushesEnd alone ends) mine h in
    let same : front ++ map (event_step (d.standing x)) s.before ≡ front ++ ((map (event_step (d.standing x)) s.before ++ []) ++ []) = ap (λ (l : List Step). front ++ l) (sym (append-nil (map (event_step (d.standing x)) s.before ++ []) ∙ append-nil (map (event_step (d.standing x)) s.before))) in
    subst (λ (b : Bool). Ended front d x ((events_on x s.before then pull_if b x) then events_on x s.rest) (s.before ++ s.rest)) (sym pulls)
    (subst (λ (l : List Event). Ended front d x ((events_on x s.before then pull_if false x) then events_on x l) (s.before ++ l)) (sym no_rest)
    (record { phase = run.phase; ran = run.ran; flushed = λ e. ap (last_or None) (append-nil s.before) ∙ run.flushed e; here = subst (λ (l : List Step). Here l d x run.phase) same run.here })) where
      never : (opening : Bool) → not_opening opening None ≡ false
      never true = refl
      never false = refl

-- ---- what comes behind its stretch
pub own_push : (front : List Step) (d : Drawing) (x : ℕ) (p : Phase) → Ran p → owner front (d.standing x) ≡ Some x → Here front d x p → Here (front ++ (push x d).0) (push x d).1 x (pushed_phase p)
own_push front d x p ran mine h =
    let s : ℕ = d.standing x in
    let mid : List Step = front ++ Fork (d.standing x) x ∷ [] in
    let new : put x d.next d.standing x ≡ revisions front = put-here x x d.next d.standing refl ∙ h.free in
    let back : (front ++ Fork (d.standing x) x ∷ []) ++ Join 0 (d.standing x) ∷ [] ≡ front ++ Fork (d.standing x) x ∷ Join 0 (d.standing x) ∷ [] = append_assoc front (Fork s x ∷ []) (Join 0 s ∷ []) in
    record {
      state = subst (λ (l : List Step). State l x (put x d.next d.standing x) (d.received x) (pushed_phase p)) back
          (subst (λ (k : ℕ). State (mid ++ Join 0 s ∷ []) x k (d.received x) (pushed_phase p)) (sym new) (state_push front x s (d.received x) p ran mine (owned_there front s x mine) h.state));
      free = ap (λ (k : ℕ). k + 1) h.free ∙ sym (ap (λ (l : List Step). revisions l) (sym back) ∙ revisions-Join mid 0 s ∙ revisions-Fork front s x);
    }

pub own_send : (front : List Step) (d : Drawing) (x : ℕ) (p : Phase) → Rests p → Here front d x p → Here (front ++ (send x d).0) (send x d).1 x p
own_send front d x p rests h =
    let s : ℕ = d.standing x in
    let new : put x d.next d.standing x ≡ revisions front = put-here x x d.next d.standing refl ∙ h.free in
    record {
      state = subst (λ (k : ℕ). State (front ++ Fork s x ∷ []) x k (d.received x) p) (sym new) (state_send front x s (d.received x) p rests h.state);
      free = ap (λ (k : ℕ). k + 1) h.free ∙ sym (revisions-Fork front s x);
    }

pub own_receive : (front : List Step) (d : Drawing) (x : ℕ) (p : Phase) → Awaits p → Here front d x p → Here (front ++ (fork_for x false d).0) (fork_for x false d).1 x (received_phase p)
own_receive front d x p awaits h =
    let new : put x d.next d.received x ≡ revisions front = put-here x x d.next d.received refl ∙ h.free in
    record {
      state = subst (λ (k : ℕ). State (front ++ Fork 0 x ∷ []) x (d.standing x) k (received_phase p)) (sym new) (state_receive front x (d.standing x) (d.received x) p awaits h.state);
      free = ap (λ (k : ℕ). k + 1) h.free ∙ sym (revisions-Fork front 0 x);
    }

pub own_open : (front : List Step) (d : Drawing) (x : ℕ) → Here front d x calm → Here (front ++ (fork_for x true d).0) (fork_for x true d).1 x calm
own_open front d x h = record {
  state = state_calm front (Fork 0 x) x (d.standing x) (d.received x) (put x d.next d.standing x) (d.received x) refl h.state;
  free = ap (λ (k : ℕ). k + 1) h.free ∙ sym (revisions-Fork front 0 x);
}
