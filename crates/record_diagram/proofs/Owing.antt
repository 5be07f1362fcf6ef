-- How far a client's flush is met, at one step more.
use Rattle.record_diagram.proofs.Onward.{acts_event}
use Rattle.std.proofs.Common.{arith, ◌≡◌, ℕ, ◌+◌, ◌<◌, ◌≤◌, Bool, true, false, cond, List, [], ◌∷◌, ◌++◌, length, take, refl, sym, ap, subst, ◌∙◌, Option, Some, None, ◌⊎◌, inl, inr, length-append, nat_lt}
use Rattle.std.specs.Prelude.{◌==◌, ◌||◌, ◌&&◌, IsTrue, slice_get}
use Rattle.std.proofs.lemmas.Bool.{cases_eq, cases_lt, eq-eqb, false≢true, or_left, or_right, and_from, lt-ltb}
use Rattle.std.proofs.lemmas.List.{append_assoc, take-append-le}
use Rattle.std.proofs.Math.Seq.{take-append_seam}
use Rattle.cloud_base.specs.declared.update.Event.{Event}
use Rattle.cloud_base.specs.declared.update.Event.TheVariants as event
use Rattle.revision_diagram.specs.declared.step.Step.{Step}
use Rattle.revision_diagram.specs.declared.step.Step.TheVariants.{Fork, Join, Mark}
use Rattle.revision_diagram.specs.Diagram.{acts_on, is_of, revisions, owner, past, with_place, with_past, put}
use Rattle.revision_diagram.specs.Story.{is_told, is_act_of, story}
use Rattle.revision_diagram.specs.Meeting.{below_server, same_node, first_above, newest, is_join_up, joins_up, is_fork_down, forks_down, Flushed}
use Rattle.revision_diagram.proofs.Draws.{revisions-Fork, past-Fork, past-Join, past-act, past-grows}
use Rattle.revision_diagram.proofs.Flushes.{first_above-next, first_above-untold, joins_up-kept, forks_down-kept, Flushed-kept, Flushed-next, newest-Join, newest-Fork}
use Rattle.revision_diagram.proofs.KeepsOnce.{put-here}
use Rattle.revision_diagram.proofs.Kept.{served, owner-kept, revisions-grow}
use Rattle.revision_diagram.proofs.Logs.{slice_get-front, slice_get-last, slice_get-none}
use Rattle.revision_diagram.proofs.Stories.{story-told}
use Rattle.record_diagram.specs.Steps.{event_step}

-- how far the last thing that a client did is met, if it is a flush
pub data Phase : Type 0 where
  -- all its flushes are met
  calm : Phase
  -- it flushed
  marked_flush : Phase
  -- and was joined into the server
  sent_up : Phase
  -- and then got a fork of it, which waits
  come_down : Phase
  -- its standing revision has seen that fork; whether another one waits
  has_met : Bool → Phase

-- a flush that is met, whatever comes
abbrev pub Met : List Step → ℕ → ℕ → Type 0
Met front x i = (more : List Step) → Flushed below_server (front ++ more) i x

pub record Fresh (front : List Step) (x i s : ℕ) : Type 0 where
  pub last : first_above i (story front x) ≡ None
  pub there : s < revisions front
  pub knows : IsTrue (past front s i)

pub record SentUp (front : List Step) (x i : ℕ) : Type 0 where
  pub last : first_above i (story front x) ≡ None
  pub at_join : ℕ
  pub up : IsTrue (joins_up below_server front x i at_join)

-- r has seen the fork, and n is the newest
pub record ComeDown (front : List Step) (x i r n : ℕ) : Type 0 where
  pub last : first_above i (story front x) ≡ None
  pub at_join : ℕ
  pub at_fork : ℕ
  pub up : IsTrue (joins_up below_server front x i at_join)
  pub down : IsTrue (forks_down below_server front x at_fork)
  pub later : at_join < at_fork
  pub there : r < revisions front
  pub knows : IsTrue (past front r at_fork)
  pub newest_is : newest front x ≡ Some n

abbrev pub Owes : List Step → ℕ → ℕ → ℕ → Phase → ℕ → Type 0
Owes front x s q calm i = ⊥
Owes front x s q marked_flush i = Fresh front x i s
Owes front x s q sent_up i = SentUp front x i
Owes front x s q come_down i = ComeDown front x i q q
Owes front x s q (has_met w) i = ComeDown front x i s (cond w q s)

-- each flush of x is met, or is the one that its phase speaks of; s stands for x, and q is received
pub record State (front : List Step) (x s q : ℕ) (phase : Phase) : Type 0 where
  pub owed : (i r : ℕ) → slice_get front i ≡ Some (Mark r true) → owner (take i front) r ≡ Some x → Met front x i ⊎ Owes front x s q phase i

met_kept : (front : List Step) (t : Step) (x i : ℕ) → Met front x i → Met (front ++ t ∷ []) x i
met_kept front t x i h more = subst (λ (l : List Step). Flushed below_server l i x) (sym (append_assoc front (t ∷ []) more)) (h (t ∷ more))

-- the flushes of x at one step more
flush_place : (front : List Step) (t : Step) (x : ℕ) (P : ℕ → Type 0) → ((i r : ℕ) → slice_get front i ≡ Some (Mark r true) → owner (take i front) r ≡ Some x → P i) → ((r : ℕ) → t ≡ Mark r true → owner front r ≡ Some x → P (length front))
    → (i r : ℕ) → slice_get (front ++ t ∷ []) i ≡ Some (Mark r true) → owner (take i (front ++ t ∷ [])) r ≡ Some x → P i
flush_place front t x P old new i r e o = elim (cases_lt i (length front)) [
  | inl within ↦ old i r (sym (slice_get-front front (t ∷ []) i within) ∙ e) (sym (ap (λ (l : List Step). owner l r) (take-append-le i front (t ∷ []) (omega arith))) ∙ o)
  | inr past_end ↦ elim (cases_eq i (length front)) [
    | inl same ↦
        let is_t : Some t ≡ Some (Mark r true) = sym (slice_get-last front t) ∙ ap (λ (k : ℕ). slice_get (front ++ t ∷ []) k) (sym same) ∙ e in
        let mark : t ≡ Mark r true = cc in
        subst P (sym same) (new r mark (sym (ap (λ (l : List Step). owner l r) (ap (λ (k : ℕ). take k (front ++ t ∷ [])) same ∙ take-append_seam front (t ∷ []))) ∙ o))
    | inr beyond ↦ let none : None ≡ Some (Mark r true) = sym (slice_get-none (front ++ t ∷ []) i (omega (arith, length-append front (t ∷ [])))) ∙ e in absurd cc
  ]
]

-- a step that x doesn't tell
pub state_moved : (front : List Step) (t : Step) (x s q s_then q_then : ℕ) (phase phase_then : Phase) → is_told x front t ≡ false → ((i : ℕ) → Owes front x s q phase i → Owes (front ++ t ∷ []) x s_then q_then phase_then i) → State front x s q phase → State (front ++ t ∷ []) x s_then q_then phase_then
state_moved front t x s q s_then q_then phase phase_then untold move h = record {
  owed = flush_place front t x (λ i. Met (front ++ t ∷ []) x i ⊎ Owes (front ++ t ∷ []) x s_then q_then phase_then i)
      (λ i r e o. elim (h.owed i r e o) [ inl met ↦ inl (met_kept front t x i met) | inr owes ↦ inr (move i owes) ])
      (λ r mark mine. let told : is_told x front t ≡ true = ap (is_told x front) mark ∙ ap (is_of x) mine ∙ eq-eqb x x refl in absurd (false≢true (sym untold ∙ told)));
}

down_moved : (front : List Step) (t : Step) (x i r n r_then n_then : ℕ) → is_told x front t ≡ false → r_then < revisions (front ++ t ∷ []) → ((k : ℕ) → IsTrue (past front r k) → IsTrue (past (front ++ t ∷ []) r_then k)) → newest (front ++ t ∷ []) x ≡ Some n_then → ComeDown front x i r n → ComeDown (front ++ t ∷ []) x i r_then n_then
down_moved front t x i r n r_then n_then untold there pasts is_newest h = record {
  last = first_above-untold front t i x untold ∙ h.last;
  at_join = h.at_join;
  at_fork = h.at_fork;
  up = joins_up-kept below_server front (t ∷ []) x i h.at_join h.up;
  down = forks_down-kept below_server front (t ∷ []) x h.at_fork h.down;
  later = h.later;
  there = there;
  knows = pasts h.at_fork h.knows;
  newest_is = is_newest;
}

still_there : (front : List Step) (t : Step) (r : ℕ) → r < revisions front → r < revisions (front ++ t ∷ [])
still_there front t r l = let grow : revisions front ≤ revisions (front ++ t ∷ []) = revisions-grow front t in omega arith

down_kept : (front : List Step) (t : Step) (x i r n : ℕ) → is_told x front t ≡ false → newest (front ++ t ∷ []) x ≡ newest front x → ComeDown front x i r n → ComeDown (front ++ t ∷ []) x i r n
down_kept front t x i r n untold same h = down_moved front t x i r n r n untold (still_there front t r h.there) (λ k known. past-grows front t r k h.there known) (same ∙ h.newest_is) h

fresh_kept : (front : List Step) (t : Step) (x i s : ℕ) → is_told x front t ≡ false → Fresh front x i s → Fresh (front ++ t ∷ []) x i s
fresh_kept front t x i s untold h = record { last = first_above-untold front t i x untold ∙ h.last; there = still_there front t s h.there; knows = past-grows front t s i h.there h.knows }

owes_kept : (front : List Step) (t : Step) (x s q : ℕ) (phase : Phase) → is_told x front t ≡ false → newest (front ++ t ∷ []) x ≡ newest front x → (i : ℕ) → Owes front x s q phase i → Owes (front ++ t ∷ []) x s q phase i
owes_kept front t x s q calm untold same i h = absurd h
owes_kept front t x s q marked_flush untold same i h = fresh_kept front t x i s untold h
owes_kept front t x s q sent_up untold same i h = record { last = first_above-untold front t i x untold ∙ h.last; at_join = h.at_join; up = joins_up-kept below_server front (t ∷ []) x i h.at_join h.up }
owes_kept front t x s q come_down untold same i h = down_kept front t x i q q untold same h
owes_kept front t x s q (has_met w) untold same i h = down_kept front t x i s (cond w q s) untold same h

-- OTHERS: a step of another client
pub state_kept : (front : List Step) (t : Step) (x s q : ℕ) (phase : Phase) → is_told x front t ≡ false → newest (front ++ t ∷ []) x ≡ newest front x → State front x s q phase → State (front ++ t ∷ []) x s q phase
state_kept front t x s q phase untold same h = state_moved front t x s q s q phase phase untold (owes_kept front t x s q phase untold same) h

-- EVENTS: what x does next meets the flush before
first_above-last : (i n : ℕ) (xs : List ℕ) → first_above i xs ≡ None → i < n → first_above i (xs ++ n ∷ []) ≡ Some n
first_above-last i n [] e l = ap (λ (b : Bool). cond b (Some n) None) (lt-ltb i n l)
first_above-last i n (x ∷ xs) e l = above_by (nat_lt i x) x n (first_above i xs) (first_above i (xs ++ n ∷ [])) e (λ k. first_above-last i n xs k l) where
  above_by : (b : Bool) (x n : ℕ) (o p : Option ℕ) → cond b (Some x) o ≡ None → (o ≡ None → p ≡ Some n) → cond b (Some x) p ≡ Some n
  above_by true x n o p e h = let none : Some x ≡ None = e in absurd cc
  above_by false x n o p e h = h e

met_next : (front : List Step) (t : Step) (x i s n : ℕ) → acts_on t ≡ Some s → owner front s ≡ Some x → i < length front → ComeDown front x i s n → Met (front ++ t ∷ []) x i
met_next front t x i s n acts mine within h more =
    let told : is_told x front t ≡ true = ap (is_act_of x front) acts ∙ ap (is_of x) mine ∙ eq-eqb x x refl in
    Flushed-kept below_server (front ++ t ∷ []) more i x (length front)
    (ap (first_above i) (story-told front t x told) ∙ first_above-last i (length front) (story front x) h.last within)
    (Flushed-next below_server front t s x i h.at_join h.at_fork acts mine within h.last h.up h.down h.later h.knows)

within_by : (front : List Step) (i : ℕ) (t : Step) → slice_get front i ≡ Some t → i < length front
within_by front i t e = elim (cases_lt i (length front)) [ inl within ↦ within | inr past_end ↦ let none : None ≡ Some t = sym (slice_get-none front i past_end) ∙ e in absurd cc ]

-- a flush may come
abbrev pub Ready : Phase → Type 0
Ready calm = Unit {0}
Ready marked_flush = ⊥
Ready sent_up = ⊥
Ready come_down = ⊥
Ready (has_met w) = Unit {0}

met_ready : (front : List Step) (t : Step) (x i s q : ℕ) (phase : Phase) → Ready phase → acts_on t ≡ Some s → owner front s ≡ Some x → i < length front → Owes front x s q phase i → Met (front ++ t ∷ []) x i
met_ready front t x i s q calm ready acts mine within h = absurd h
met_ready front t x i s q marked_flush ready acts mine within h = absurd ready
met_ready front t x i s q sent_up ready acts mine within h = absurd ready
met_ready front t x i s q come_down ready acts mine within h = absurd ready
met_ready front t x i s q (has_met w) ready acts mine within h = met_next front t x i s (cond w q s) acts mine within h

abbrev pub phase_of : Event → Phase
phase_of (event.Do u) = calm
phase_of (event.Ask q a) = calm
phase_of (event.Say v) = calm
phase_of event.Yield = calm
phase_of event.Flush = marked_flush

new_flush : (front : List Step) (x s q : ℕ) (e : Event) → s < revisions front → (r : ℕ) → event_step s e ≡ Mark r true → Owes (front ++ event_step s e ∷ []) x s q (phase_of e) (length front)
new_flush front x s q (event.Do u) l r mark = absurd cc
new_flush front x s q (event.Ask p a) l r mark = absurd cc
new_flush front x s q (event.Say v) l r mark = absurd cc
new_flush front x s q event.Yield l r mark = let no : false ≡ true = cc in absurd (false≢true no)
new_flush front x s q event.Flush l r mark =
    let more : ℕ → Bool = with_place (past front s) (length front) in
    record {
      last = first_above-next front (Mark s true) x;
      there = still_there front (Mark s true) s l;
      knows = past-act front (Mark s true) s s (length front) refl ∙ ap (λ (p : ℕ → Bool). p (length front)) (put-here s s more (past front) refl) ∙ or_right (past front s (length front)) (length front == length front) (eq-eqb (length front) (length front) refl);
    }

pub state_event : (front : List Step) (x s q : ℕ) (e : Event) (phase : Phase) → Ready phase → owner front s ≡ Some x → s < revisions front → State front x s q phase → State (front ++ event_step s e ∷ []) x s q (phase_of e)
state_event front x s q e phase ready mine there h = record {
  owed = flush_place front (event_step s e) x (λ i. Met (front ++ event_step s e ∷ []) x i ⊎ Owes (front ++ event_step s e ∷ []) x s q (phase_of e) i)
      (λ i r at o. inl (elim (h.owed i r at o) [
        | inl met ↦ met_kept front (event_step s e) x i met
        | inr owes ↦ met_ready front (event_step s e) x i s q phase ready (acts_event s e) mine (within_by front i (Mark r true) at) owes
      ]))
      (λ r mark whose. inr (new_flush front x s q e there r mark));
}

-- PULL
pulled_past : (front : List Step) (s q i : ℕ) → IsTrue (past front s i) → IsTrue (past (front ++ Join q s ∷ []) q i)
pulled_past front s q i k = past-Join front q s q i ∙ ap (λ (p : ℕ → Bool). p i) (put-here q q (with_place (with_past (past front q) (past front s)) (length front)) (past front) refl) ∙ or_left (past front q i || past front s i) (i == length front) (or_right (past front q i) (past front s i) k)

abbrev pub pulled_phase : Phase → Phase
pulled_phase calm = calm
pulled_phase marked_flush = marked_flush
pulled_phase sent_up = sent_up
pulled_phase come_down = has_met false
pulled_phase (has_met w) = has_met false

-- a revision waits
abbrev pub Waits : Phase → Type 0
Waits calm = Unit {0}
Waits marked_flush = Unit {0}
Waits sent_up = ⊥
Waits come_down = Unit {0}
Waits (has_met true) = Unit {0}
Waits (has_met false) = ⊥

owes_pulled : (front : List Step) (x s q : ℕ) (phase : Phase) → Waits phase → q < revisions front → (i : ℕ) → Owes front x s q phase i → Owes (front ++ Join q s ∷ []) x q q (pulled_phase phase) i
owes_pulled front x s q calm waits l i h = absurd h
owes_pulled front x s q marked_flush waits l i h = record { last = first_above-untold front (Join q s) i x refl ∙ h.last; there = still_there front (Join q s) q l; knows = pulled_past front s q i h.knows }
owes_pulled front x s q sent_up waits l i h = absurd waits
owes_pulled front x s q come_down waits l i h = down_kept front (Join q s) x i q q refl (newest-Join front q s x) h
owes_pulled front x s q (has_met true) waits l i h = down_moved front (Join q s) x i s q q q refl (still_there front (Join q s) q l) (λ k known. pulled_past front s q k known) (newest-Join front q s x ∙ h.newest_is) h
owes_pulled front x s q (has_met false) waits l i h = absurd waits

pub state_pull : (front : List Step) (x s q : ℕ) (phase : Phase) → Waits phase → q < revisions front → State front x s q phase → State (front ++ Join q s ∷ []) x q q (pulled_phase phase)
state_pull front x s q phase waits l h = state_moved front (Join q s) x s q q q phase (pulled_phase phase) refl (owes_pulled front x s q phase waits l) h

-- a fork of the standing revision stands
forked_past : (front : List Step) (s x i : ℕ) → IsTrue (past front s i) → IsTrue (past (front ++ Fork s x ∷ []) (revisions front) i)
forked_past front s x i k =
    let n : ℕ = revisions front in
    let more : ℕ → Bool = with_place (past front s) (length front) in
    past-Fork front s x n i ∙ ap (λ (p : ℕ → Bool). p i) (put-here n n more (put s more (past front)) refl) ∙ or_left (past front s i) (i == length front) k

made_there : (front : List Step) (s x : ℕ) → revisions front < revisions (front ++ Fork s x ∷ [])
made_there front s x = let e : revisions (front ++ Fork s x ∷ []) ≡ revisions front + 1 = revisions-Fork front s x in omega arith

-- nothing is owed, or what is met is seen
abbrev pub Rests : Phase → Type 0
Rests calm = Unit {0}
Rests marked_flush = ⊥
Rests sent_up = ⊥
Rests come_down = ⊥
Rests (has_met true) = ⊥
Rests (has_met false) = Unit {0}

owes_forked : (front : List Step) (x s q : ℕ) (phase : Phase) → Rests phase → (i : ℕ) → Owes front x s q phase i → Owes (front ++ Fork s x ∷ []) x (revisions front) q phase i
owes_forked front x s q calm rests i h = absurd h
owes_forked front x s q marked_flush rests i h = absurd rests
owes_forked front x s q sent_up rests i h = absurd rests
owes_forked front x s q come_down rests i h = absurd rests
owes_forked front x s q (has_met true) rests i h = absurd rests
owes_forked front x s q (has_met false) rests i h = down_moved front (Fork s x) x i s s (revisions front) (revisions front) refl (made_there front s x) (λ k known. forked_past front s x k known) (newest-Fork front s x) h

pub state_send : (front : List Step) (x s q : ℕ) (phase : Phase) → Rests phase → State front x s q phase → State (front ++ Fork s x ∷ []) x (revisions front) q phase
state_send front x s q phase rests h = state_moved front (Fork s x) x s q (revisions front) q phase phase refl (owes_forked front x s q phase rests) h

-- PUSH
abbrev pub pushed_phase : Phase → Phase
pushed_phase calm = calm
pushed_phase marked_flush = sent_up
pushed_phase sent_up = sent_up
pushed_phase come_down = come_down
pushed_phase (has_met w) = has_met w

-- nothing waits, and nothing is under way
abbrev pub Ran : Phase → Type 0
Ran calm = Unit {0}
Ran marked_flush = Unit {0}
Ran sent_up = ⊥
Ran come_down = ⊥
Ran (has_met true) = ⊥
Ran (has_met false) = Unit {0}

joins_here : (front : List Step) (x s i : ℕ) → owner front s ≡ Some x → IsTrue (past front s i) → IsTrue (joins_up below_server (front ++ Join 0 s ∷ []) x i (length front))
joins_here front x s i mine knows =
    let none : owner front 0 ≡ None = (served front).nobodys in
    ap (λ (o : Option Step). is_join_up below_server (take (length front) (front ++ Join 0 s ∷ [])) x i o) (slice_get-last front (Join 0 s))
    ∙ ap (λ (l : List Step). is_join_up below_server l x i (Some (Join 0 s))) (take-append_seam front (Join 0 s ∷ []))
    ∙ and_from (same_node (owner front s) (Some x) && same_node (owner front 0) None) (past front s i)
    (and_from (same_node (owner front s) (Some x)) (same_node (owner front 0) None) (ap (λ (o : Option ℕ). same_node o (Some x)) mine ∙ eq-eqb x x refl) (ap (λ (o : Option ℕ). same_node o None) none)) knows

pub state_push : (front : List Step) (x s q : ℕ) (phase : Phase) → Ran phase → owner front s ≡ Some x → s < revisions front → State front x s q phase → State ((front ++ Fork s x ∷ []) ++ Join 0 s ∷ []) x (revisions front) q (pushed_phase phase)
state_push front x s q calm ran mine l h =
    state_moved (front ++ Fork s x ∷ []) (Join 0 s) x (revisions front) q (revisions front) q calm calm refl (λ i no_debt. absurd no_debt) (state_send front x s q calm tt h)
state_push front x s q marked_flush ran mine l h =
    let mid : List Step = front ++ Fork s x ∷ [] in
    let first : State (front ++ Fork s x ∷ []) x s q marked_flush = state_moved front (Fork s x) x s q s q marked_flush marked_flush refl (λ i k. fresh_kept front (Fork s x) x i s refl k) h in
    state_moved (front ++ Fork s x ∷ []) (Join 0 s) x s q (revisions front) q marked_flush sent_up refl
    (λ i k. record { last = first_above-untold mid (Join 0 s) i x refl ∙ k.last; at_join = length mid; up = joins_here mid x s i (owner-kept front (Fork s x) s l ∙ mine) k.knows }) first
state_push front x s q sent_up ran mine l h = absurd ran
state_push front x s q come_down ran mine l h = absurd ran
state_push front x s q (has_met true) ran mine l h = absurd ran
state_push front x s q (has_met false) ran mine l h =
    state_kept (front ++ Fork s x ∷ []) (Join 0 s) x (revisions front) q (has_met false) refl (newest-Join (front ++ Fork s x ∷ []) 0 s x) (state_send front x s q (has_met false) tt h)

-- RECEIVING
abbrev pub received_phase : Phase → Phase
received_phase calm = calm
received_phase marked_flush = marked_flush
received_phase sent_up = come_down
received_phase come_down = come_down
received_phase (has_met w) = has_met true

-- nothing waits
abbrev pub Awaits : Phase → Type 0
Awaits calm = Unit {0}
Awaits marked_flush = ⊥
Awaits sent_up = Unit {0}
Awaits come_down = ⊥
Awaits (has_met true) = ⊥
Awaits (has_met false) = Unit {0}

forks_here : (front : List Step) (x : ℕ) → IsTrue (forks_down below_server (front ++ Fork 0 x ∷ []) x (length front))
forks_here front x =
    let none : owner front 0 ≡ None = (served front).nobodys in
    ap (λ (o : Option Step). is_fork_down below_server (take (length front) (front ++ Fork 0 x ∷ [])) x o) (slice_get-last front (Fork 0 x))
    ∙ ap (λ (l : List Step). is_fork_down below_server l x (Some (Fork 0 x))) (take-append_seam front (Fork 0 x ∷ []))
    ∙ and_from (x == x) (same_node (owner front 0) None) (eq-eqb x x refl) (ap (λ (o : Option ℕ). same_node o None) none)

join_within : (front : List Step) (x i j : ℕ) → IsTrue (joins_up below_server front x i j) → j < length front
join_within front x i j h = elim (cases_lt j (length front)) [
  | inl within ↦ within
  | inr past_end ↦ absurd (false≢true (ap (λ (o : Option Step). is_join_up below_server (take j front) x i o) (sym (slice_get-none front j past_end)) ∙ h))
]

knows_fork : (front : List Step) (x : ℕ) → IsTrue (past (front ++ Fork 0 x ∷ []) (revisions front) (length front))
knows_fork front x =
    let n : ℕ = revisions front in
    let more : ℕ → Bool = with_place (past front 0) (length front) in
    past-Fork front 0 x n (length front) ∙ ap (λ (p : ℕ → Bool). p (length front)) (put-here n n more (put 0 more (past front)) refl) ∙ or_right (past front 0 (length front)) (length front == length front) (eq-eqb (length front) (length front) refl)

owes_received : (front : List Step) (x s q : ℕ) (phase : Phase) → Awaits phase → (i : ℕ) → Owes front x s q phase i → Owes (front ++ Fork 0 x ∷ []) x s (revisions front) (received_phase phase) i
owes_received front x s q calm awaits i h = absurd h
owes_received front x s q marked_flush awaits i h = absurd awaits
owes_received front x s q sent_up awaits i h = record {
  last = first_above-untold front (Fork 0 x) i x refl ∙ h.last;
  at_join = h.at_join;
  at_fork = length front;
  up = joins_up-kept below_server front (Fork 0 x ∷ []) x i h.at_join h.up;
  down = forks_here front x;
  later = join_within front x i h.at_join h.up;
  there = made_there front 0 x;
  knows = knows_fork front x;
  newest_is = newest-Fork front 0 x;
}
owes_received front x s q come_down awaits i h = absurd awaits
owes_received front x s q (has_met true) awaits i h = absurd awaits
owes_received front x s q (has_met false) awaits i h = down_moved front (Fork 0 x) x i s s s (revisions front) refl (still_there front (Fork 0 x) s h.there) (λ k known. past-grows front (Fork 0 x) s k h.there known) (newest-Fork front 0 x) h

pub state_receive : (front : List Step) (x s q : ℕ) (phase : Phase) → Awaits phase → State front x s q phase → State (front ++ Fork 0 x ∷ []) x s (revisions front) (received_phase phase)
state_receive front x s q phase awaits h = state_moved front (Fork 0 x) x s q s (revisions front) phase (received_phase phase) refl (owes_received front x s q phase awaits) h

-- nothing owed stays nothing
pub state_calm : (front : List Step) (t : Step) (x s q s_then q_then : ℕ) → is_told x front t ≡ false → State front x s q calm → State (front ++ t ∷ []) x s_then q_then calm
state_calm front t x s q s_then q_then untold h = state_moved front t x s q s_then q_then calm calm untold (λ i no_debt. absurd no_debt) h
