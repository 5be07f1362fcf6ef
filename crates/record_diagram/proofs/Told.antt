-- What a stretch tells: its events, of its client. It needs the owners of two revisions alone.
use Rattle.cloud_base.specs.declared.batch.Stretch.{Stretch}
use Rattle.cloud_base.specs.declared.update.Event.{Event}
use Rattle.record_diagram.proofs.Did.{told_by}
use Rattle.record_diagram.specs.Steps.{Drawing, event_step, events_on, not_opening, pull_if, run_stretch, ◌then◌}
use Rattle.revision_diagram.proofs.Draws.{owner-Join, owner-act}
use Rattle.revision_diagram.proofs.KeepsOnce.{put-here}
use Rattle.revision_diagram.proofs.Stories.{events-step}
use Rattle.revision_diagram.specs.Diagram.{is_of, owner}
use Rattle.revision_diagram.specs.Story.{events}
use Rattle.revision_diagram.specs.declared.step.Step.{Step}
use Rattle.revision_diagram.specs.declared.step.Step.TheVariants.{Ask, Do, Fork, Join, Mark, Say}
use Rattle.std.proofs.Common.{Bool, List, Option, Some, [], ap, append-nil, append_assoc, cond, false, refl, sym, true, ℕ, ◌++◌, ◌∙◌, ◌∷◌, ◌≡◌}
use Rattle.std.specs.Prelude.{map, ◌==◌}
use Rattle.cloud_base.specs.declared.update.Event.TheVariants as event

pub both : (b : Bool) (xs ys : List Event) → cond b xs [] ++ cond b ys [] ≡ cond b (xs ++ ys) []
both true xs ys = refl
both false xs ys = refl

told_event : (front : List Step) (s c x : ℕ) (e : Event) → owner front s ≡ Some c → events (front ++ event_step s e ∷ []) x ≡ events front x ++ told_by c x (e ∷ [])
told_event front s c x (event.Do u) mine = events-step front (Do s u) x ∙ ap (λ (o : Option ℕ). events front x ++ cond (is_of x o) (event.Do u ∷ []) []) mine
told_event front s c x (event.Ask q a) mine = events-step front (Ask s q a) x ∙ ap (λ (o : Option ℕ). events front x ++ cond (is_of x o) (event.Ask q a ∷ []) []) mine
told_event front s c x (event.Say v) mine = events-step front (Say s v) x ∙ ap (λ (o : Option ℕ). events front x ++ cond (is_of x o) (event.Say v ∷ []) []) mine
told_event front s c x event.Yield mine = events-step front (Mark s false) x ∙ ap (λ (o : Option ℕ). events front x ++ cond (is_of x o) (event.Yield ∷ []) []) mine
told_event front s c x event.Flush mine = events-step front (Mark s true) x ∙ ap (λ (o : Option ℕ). events front x ++ cond (is_of x o) (event.Flush ∷ []) []) mine

owner_event : (front : List Step) (s x : ℕ) (e : Event) → owner (front ++ event_step s e ∷ []) x ≡ owner front x
owner_event front s x (event.Do u) = owner-act front (Do s u) s x refl
owner_event front s x (event.Ask q a) = owner-act front (Ask s q a) s x refl
owner_event front s x (event.Say v) = owner-act front (Say s v) s x refl
owner_event front s x event.Yield = owner-act front (Mark s false) s x refl
owner_event front s x event.Flush = owner-act front (Mark s true) s x refl

none_told : (b : Bool) → cond {A = List Event} b [] [] ≡ []
none_told true = refl
none_told false = refl

pub owner_events : (front : List Step) (s x : ℕ) (es : List Event) → owner (front ++ map (event_step s) es) x ≡ owner front x
owner_events front s x [] = ap (λ (l : List Step). owner l x) (append-nil front)
owner_events front s x (e ∷ es) = ap (λ (l : List Step). owner l x) (sym (append_assoc front (event_step s e ∷ []) (map (event_step s) es))) ∙ owner_events (front ++ event_step s e ∷ []) s x es ∙ owner_event front s x e

pub told_events : (front : List Step) (s c x : ℕ) (es : List Event) → owner front s ≡ Some c → events (front ++ map (event_step s) es) x ≡ events front x ++ told_by c x es
told_events front s c x [] mine = ap (λ (l : List Step). events l x) (append-nil front) ∙ sym (ap (λ (l : List Event). events front x ++ l) (none_told (c == x)) ∙ append-nil (events front x))
told_events front s c x (e ∷ es) mine =
    ap (λ (l : List Step). events l x) (sym (append_assoc front (event_step s e ∷ []) (map (event_step s) es)))
    ∙ told_events (front ++ event_step s e ∷ []) s c x es (owner_event front s s e ∙ mine)
    ∙ ap (λ (l : List Event). l ++ told_by c x es) (told_event front s c x e mine)
    ∙ append_assoc (events front x) (told_by c x (e ∷ [])) (told_by c x es)
    ∙ ap (λ (l : List Event). events front x ++ l) (both (c == x) (e ∷ []) es)

-- a join tells nothing, a fork neither
pub told_Join : (front : List Step) (r s x : ℕ) → events (front ++ Join r s ∷ []) x ≡ events front x
told_Join front r s x = events-step front (Join r s) x ∙ append-nil (events front x)

pub told_Fork : (front : List Step) (r c x : ℕ) → events (front ++ Fork r c ∷ []) x ≡ events front x
told_Fork front r c x = events-step front (Fork r c) x ∙ append-nil (events front x)

told_rest : (front : List Step) (c x : ℕ) (pulls : Bool) (rest : List Event) (d : Drawing) → owner front (d.standing c) ≡ Some c → (pulls ≡ true → owner front (d.received c) ≡ Some c) → events (front ++ ((pull_if pulls c then events_on c rest) d).0) x ≡ events front x ++ told_by c x rest
told_rest front c x false rest d mine theirs = told_events front (d.standing c) c x rest mine
told_rest front c x true rest d mine theirs =
    let q : ℕ = d.received c in
    let s : ℕ = d.standing c in
    let longer : List Step = front ++ Join q s ∷ [] in
    ap (λ (k : ℕ). events (front ++ (Join q s ∷ [] ++ map (event_step k) rest)) x) (put-here c c q d.standing refl)
    ∙ ap (λ (l : List Step). events l x) (sym (append_assoc front (Join q s ∷ []) (map (event_step q) rest)))
    ∙ told_events longer q c x rest (owner-Join front q s q ∙ theirs refl)
    ∙ ap (λ (l : List Event). l ++ told_by c x rest) (told_Join front q s x)

-- THE STRETCH
pub told_stretch : (front : List Step) (c x : ℕ) (opening : Bool) (p : Stretch) (d : Drawing) → owner front (d.standing c) ≡ Some c → (not_opening opening p.base ≡ true → owner front (d.received c) ≡ Some c) → events (front ++ (run_stretch c opening p d).0) x ≡ events front x ++ told_by c x (p.before ++ p.rest)
told_stretch front c x opening p d mine theirs =
    let s : ℕ = d.standing c in
    let pulls : Bool = not_opening opening p.base in
    let before : List Step = map (event_step s) p.before in
    let later : List Step = ((pull_if pulls c then events_on c p.rest) d).0 in
    ap (λ (l : List Step). events (front ++ l) x) (append_assoc before ((pull_if pulls c) d).0 ((events_on c p.rest) ((pull_if pulls c) d).1).0)
    ∙ ap (λ (l : List Step). events l x) (sym (append_assoc front before later))
    ∙ told_rest (front ++ before) c x pulls p.rest d (owner_events front s s p.before ∙ mine) (λ e. owner_events front s (d.received c) p.before ∙ theirs e)
    ∙ ap (λ (l : List Event). l ++ told_by c x p.rest) (told_events front s c x p.before mine)
    ∙ append_assoc (events front x) (told_by c x p.before) (told_by c x p.rest)
    ∙ ap (λ (l : List Event). events front x ++ l) (both (c == x) p.before p.rest)
