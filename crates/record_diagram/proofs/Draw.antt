-- Draws, one after another, and the events of a stretch.
use Rattle.batch_history.specs.Right.{RightEvents}
use Rattle.cloud_base.specs.Events.{updates_of}
use Rattle.cloud_base.specs.declared.update.Answer.{Answer}
use Rattle.cloud_base.specs.declared.update.Event.{Event}
use Rattle.cloud_base.specs.declared.update.Query.{Query}
use Rattle.cloud_base.specs.declared.update.Update.{Update}
use Rattle.record_diagram.proofs.Forking.{drawn_opened, drawn_pushed, drawn_received, drawn_sent}
use Rattle.record_diagram.proofs.Invariant.{Drawn, RightAt, Status, idle, is_mark_event, noted, parted, stands}
use Rattle.record_diagram.proofs.Onward.{drawn_event, drawn_event_parted, drawn_pull}
use Rattle.record_diagram.proofs.Statuses.{Leads}
use Rattle.record_diagram.specs.Steps.{Drawing, Draws, event_step, events_on, fork_for, pull, push, send, ◌then◌}
use Rattle.revision_diagram.proofs.KeepsOnce.{put-else, put-here}
use Rattle.revision_diagram.specs.Diagram.{put}
use Rattle.revision_diagram.specs.declared.step.Step.{Step}
use Rattle.std.proofs.Common.{Bool, List, None, Option, Some, [], ap, append-nil, cond, false, inl, inr, refl, subst, sym, true, ℕ, ◌++◌, ◌∙◌, ◌∷◌, ◌≡◌}
use Rattle.std.proofs.lemmas.Bool.{cases_eq}
use Rattle.std.proofs.lemmas.List.{append_assoc}
use Rattle.std.specs.Prelude.{map, ◌==◌}
use Rattle.cloud_base.specs.declared.update.Event.TheVariants as event
use Rattle.record_diagram.specs.Steps as steps

pub leads_idle : (is_answer : List Update → Query → Answer → Type 0) (joined : List Update) (status : ℕ → Status) → Leads is_answer steps.idle joined status joined status
leads_idle is_answer joined status front d h = subst (λ (l : List Step). Drawn is_answer l d joined status) (sym (append-nil front)) h

pub leads_then : (is_answer : List Update → Query → Answer → Type 0) (first second : Draws) (joined joined_mid joined_then : List Update) (status status_mid status_then : ℕ → Status) → Leads is_answer first joined status joined_mid status_mid → Leads is_answer second joined_mid status_mid joined_then status_then → Leads is_answer (first then second) joined status joined_then status_then
leads_then is_answer first second joined joined_mid joined_then status status_mid status_then h k front d now =
    subst (λ (l : List Step). Drawn is_answer l (second (first d).1).1 joined_then status_then) (append_assoc front (first d).0 (second (first d).1).0)
    (k (front ++ (first d).0) (first d).1 (h front d now))

-- the same statuses
pub same_statuses : (f g : ℕ → Status) → ((x : ℕ) → f x ≡ g x) → f ≡ g
same_statuses f g h = λ i x. h x i

pub leads_to : (is_answer : List Update → Query → Answer → Type 0) (draw : Draws) (joined joined_then : List Update) (status f g : ℕ → Status) → ((x : ℕ) → f x ≡ g x) → Leads is_answer draw joined status joined_then f → Leads is_answer draw joined status joined_then g
leads_to is_answer draw joined joined_then status f g e h front d now = subst (λ (s : ℕ → Status). Drawn is_answer (front ++ (draw d).0) (draw d).1 joined_then s) (same_statuses f g e) (h front d now)

pub put-put : (c : ℕ) (v w : Status) (f : ℕ → Status) (x : ℕ) → put c v (put c w f) x ≡ put c v f x
put-put c v w f x = elim (x == c) as (λ b. cond b v (cond b w (f x)) ≡ cond b v (f x)) [ true ↦ refl | false ↦ refl ]

-- whether a client is at a mark after some events
abbrev pub marked_after : Bool → List Event → Bool
marked_after marked [] = marked
marked_after marked (e ∷ events) = marked_after (is_mark_event e) events

pub noted_all : (seen : List Update) (e : Event) (events : List Event) → noted seen e ++ updates_of events ≡ seen ++ updates_of (e ∷ events)
noted_all seen (event.Do u) events = append_assoc seen (u ∷ []) (updates_of events)
noted_all seen (event.Ask q a) events = refl
noted_all seen (event.Say v) events = refl
noted_all seen event.Yield events = refl
noted_all seen event.Flush events = refl

pub right_first : (is_answer : List Update → Query → Answer → Type 0) (seen : List Update) (e : Event) (events : List Event) → RightEvents is_answer seen (e ∷ events) → RightAt is_answer seen e × RightEvents is_answer (noted seen e) events
right_first is_answer seen (event.Do u) events h = (tt, h)
right_first is_answer seen (event.Ask q a) events h = (h.0, h.1)
right_first is_answer seen (event.Say v) events h = (tt, h)
right_first is_answer seen event.Yield events h = (tt, h)
right_first is_answer seen event.Flush events h = (tt, h)

-- put again where it is
pub put_same : (c : ℕ) (v : Status) (f : ℕ → Status) (x : ℕ) → f c ≡ v → f x ≡ put c v f x
put_same c v f x e = elim (cases_eq x c) [ inl same ↦ ap f same ∙ e ∙ sym (put-here c x v f same) | inr other ↦ sym (put-else c x v f other) ]

pub leads_events : (is_answer : List Update → Query → Answer → Type 0) (c : ℕ) (events : List Event) (joined : List Update) (status : ℕ → Status) (seen own : List Update) (base : Option (List Update)) (marked : Bool) → status c ≡ stands seen own base marked → RightEvents is_answer seen events → Leads is_answer (events_on c events) joined status joined (put c (stands (seen ++ updates_of events) (own ++ updates_of events) base (marked_after marked events)) status)
leads_events is_answer c [] joined status seen own base marked at right front d h =
    leads_to is_answer (events_on c []) joined joined status status (put c (stands (seen ++ []) (own ++ []) base marked) status)
    (λ x. put_same c (stands (seen ++ []) (own ++ []) base marked) status x (at ∙ ap (λ (l : List Update). stands l own base marked) (sym (append-nil seen)) ∙ ap (λ (l : List Update). stands (seen ++ []) l base marked) (sym (append-nil own))))
    (leads_idle is_answer joined status) front d h
leads_events is_answer c (e ∷ events) joined status seen own base marked at right front d h =
    let s : ℕ = d.standing c in
    let now : Status = stands (noted seen e) (noted own e) base (is_mark_event e) in
    let both : RightAt is_answer seen e × RightEvents is_answer (noted seen e) events = right_first is_answer seen e events right in
    let v : Status = stands (seen ++ updates_of (e ∷ events)) (own ++ updates_of (e ∷ events)) base (marked_after (is_mark_event e) events) in
    let w : Status = stands (noted seen e ++ updates_of events) (noted own e ++ updates_of events) base (marked_after (is_mark_event e) events) in
    let same : w ≡ v = ap (λ (l : List Update). stands l (noted own e ++ updates_of events) base (marked_after (is_mark_event e) events)) (noted_all seen e events) ∙ ap (λ (l : List Update). stands (seen ++ updates_of (e ∷ events)) l base (marked_after (is_mark_event e) events)) (noted_all own e events) in
    let rest : Drawn is_answer ((front ++ event_step (d.standing c) e ∷ []) ++ map (event_step (d.standing c)) events) d joined (put c w (put c now status)) = leads_events is_answer c events joined (put c now status) (noted seen e) (noted own e) base (is_mark_event e) (put-here c c now status refl) both.1 (front ++ event_step s e ∷ []) d (drawn_event is_answer front d joined status c e seen own base marked at both.0 h) in
    subst (λ (l : List Step). Drawn is_answer l d joined (put c v status)) (append_assoc front (event_step s e ∷ []) (map (event_step s) events))
    (subst (λ (f : ℕ → Status). Drawn is_answer ((front ++ event_step s e ∷ []) ++ map (event_step s) events) d joined f) (same_statuses (put c w (put c now status)) (put c v status) (λ x. put-put c w now status x ∙ ap (λ (t : Status). put c t status x) same)) rest)

pub leads_events_parted : (is_answer : List Update → Query → Answer → Type 0) (c : ℕ) (events : List Event) (joined : List Update) (status : ℕ → Status) (seen : List Update) → status c ≡ parted seen → RightEvents is_answer seen events → Leads is_answer (events_on c events) joined status joined (put c (parted (seen ++ updates_of events)) status)
leads_events_parted is_answer c [] joined status seen at right front d h =
    leads_to is_answer (events_on c []) joined joined status status (put c (parted (seen ++ [])) status)
    (λ x. put_same c (parted (seen ++ [])) status x (at ∙ ap parted (sym (append-nil seen))))
    (leads_idle is_answer joined status) front d h
leads_events_parted is_answer c (e ∷ events) joined status seen at right front d h =
    let s : ℕ = d.standing c in
    let now : Status = parted (noted seen e) in
    let both : RightAt is_answer seen e × RightEvents is_answer (noted seen e) events = right_first is_answer seen e events right in
    let v : Status = parted (seen ++ updates_of (e ∷ events)) in
    let w : Status = parted (noted seen e ++ updates_of events) in
    let rest : Drawn is_answer ((front ++ event_step (d.standing c) e ∷ []) ++ map (event_step (d.standing c)) events) d joined (put c w (put c now status)) = leads_events_parted is_answer c events joined (put c now status) (noted seen e) (put-here c c now status refl) both.1 (front ++ event_step s e ∷ []) d (drawn_event_parted is_answer front d joined status c e seen at both.0 h) in
    subst (λ (l : List Step). Drawn is_answer l d joined (put c v status)) (append_assoc front (event_step s e ∷ []) (map (event_step s) events))
    (subst (λ (f : ℕ → Status). Drawn is_answer ((front ++ event_step s e ∷ []) ++ map (event_step s) events) d joined f) (same_statuses (put c w (put c now status)) (put c v status) (λ x. put-put c w now status x ∙ ap (λ (t : Status). put c t status x) (ap parted (noted_all seen e events)))) rest)

-- a pull, a push, and what is sent
pub leads_pull : (is_answer : List Update → Query → Answer → Type 0) (c : ℕ) (joined : List Update) (status : ℕ → Status) (seen own base : List Update) → status c ≡ stands seen own (Some base) true → Leads is_answer (pull c) joined status joined (put c (stands (base ++ own) own None true) status)
leads_pull is_answer c joined status seen own base at front d h = drawn_pull is_answer front d joined status c seen own base at h

pub leads_push : (is_answer : List Update → Query → Answer → Type 0) (c : ℕ) (joined : List Update) (status : ℕ → Status) (seen own : List Update) → status c ≡ stands seen own None true → Leads is_answer (push c) joined status (joined ++ own) (put c (stands seen [] None true) status)
leads_push is_answer c joined status seen own at front d h = drawn_pushed is_answer front d joined status c seen own at h

pub leads_send : (is_answer : List Update → Query → Answer → Type 0) (c : ℕ) (joined : List Update) (status : ℕ → Status) (seen own : List Update) (base : Option (List Update)) → status c ≡ stands seen own base true → Leads is_answer (send c) joined status joined (put c (parted seen) status)
leads_send is_answer c joined status seen own base at front d h = drawn_sent is_answer front d joined status c seen own base at h

-- a fork of the server, for a client that opens and for one that will pull
pub leads_open : (is_answer : List Update → Query → Answer → Type 0) (c : ℕ) (joined : List Update) (status : ℕ → Status) → status c ≡ idle → Leads is_answer (fork_for c true) joined status joined (put c (stands joined [] None false) status)
leads_open is_answer c joined status at front d h = drawn_opened is_answer front d joined status c at h

pub leads_receive : (is_answer : List Update → Query → Answer → Type 0) (c : ℕ) (joined : List Update) (status : ℕ → Status) (seen own : List Update) (marked : Bool) → status c ≡ stands seen own None marked → Leads is_answer (fork_for c false) joined status joined (put c (stands seen own (Some joined) marked) status)
leads_receive is_answer c joined status seen own marked at front d h = drawn_received is_answer front d joined status c seen own marked at h
