-- What a further step adds to a client's story.
use Rattle.std.proofs.Common.{◌≡◌, ℕ, ◌+◌, ◌<◌, ◌≤◌, Bool, true, false, cond, List, [], ◌∷◌, ◌++◌, length, refl, sym, ap, subst, ◌∙◌, arith, Option, Some, None, append-nil, length-append}
use Rattle.std.specs.Prelude.{slice_get}
use Rattle.std.specs.List.{filter_map, last_or, cons_option}
use Rattle.std.proofs.lemmas.List.Elements.{filter_map-append}
use Rattle.cloud_base.specs.declared.update.Event.{Event}
use Rattle.revision_diagram.specs.declared.step.Step.{Step}
use Rattle.revision_diagram.specs.declared.step.Step.TheVariants.{Mark}
use Rattle.revision_diagram.specs.Diagram.{places_of, is_of, owner}
use Rattle.revision_diagram.specs.Story.{is_told, story, event_of, events}
use Rattle.revision_diagram.specs.Meeting.{is_flush, flushes, is_mark, is_mark_at}
use Rattle.revision_diagram.proofs.Steps.{by_steps, places_of-step}
use Rattle.revision_diagram.proofs.Logs.{slice_get-front, slice_get-last}

pub story-step : (steps : List Step) (s : Step) (c : ℕ) → story (steps ++ s ∷ []) c ≡ story steps c ++ cond (is_told c steps s) (length steps ∷ []) []
story-step steps s c = places_of-step (is_told c) steps s

pub flushes-step : (steps : List Step) (s : Step) → flushes (steps ++ s ∷ []) ≡ flushes steps ++ cond (is_flush s) (length steps ∷ []) []
flushes-step steps s = places_of-step (λ front t. is_flush t) steps s

-- the places are those of the first n steps
abbrev pub all_under : ℕ → List ℕ → Type 0
all_under n [] = Unit {0}
all_under n (i ∷ places) = (i < n) × all_under n places

all_under-append : (n : ℕ) (xs ys : List ℕ) → all_under n xs → all_under n ys → all_under n (xs ++ ys)
all_under-append n [] ys h k = k
all_under-append n (x ∷ xs) ys h k = (h.0, all_under-append n xs ys h.1 k)

all_under-more : (n m : ℕ) (xs : List ℕ) → n ≤ m → all_under n xs → all_under m xs
all_under-more n m [] l h = tt
all_under-more n m (x ∷ xs) l h = let below : x < n = h.0 in (omega arith, all_under-more n m xs l h.1)

last_under : (n : ℕ) (b : Bool) → all_under (n + 1) (cond b (n ∷ []) [])
last_under n true = (omega arith, tt)
last_under n false = tt

pub places_of-under : (test : List Step → Step → Bool) (steps : List Step) → all_under (length steps) (places_of test steps)
places_of-under test steps = by_steps (λ (t : List Step). all_under (length t) (places_of test t)) tt
    (λ front s h. subst (λ (n : ℕ). all_under n (places_of test (front ++ s ∷ []))) (let e : length front + 1 ≡ length (front ++ s ∷ []) = omega (arith, length-append front (s ∷ [])) in e)
    (subst (all_under (length front + 1)) (sym (places_of-step test front s))
    (all_under-append (length front + 1) (places_of test front) (cond (test front s) (length front ∷ []) [])
    (all_under-more (length front) (length front + 1) (places_of test front) (omega arith) h)
    (last_under (length front) (test front s)))))
    steps

events_kept : (steps ys : List Step) (places : List ℕ) → all_under (length steps) places → filter_map (λ i. event_of (slice_get (steps ++ ys) i)) places ≡ filter_map (λ i. event_of (slice_get steps i)) places
events_kept steps ys [] h = refl
events_kept steps ys (i ∷ places) h = rw (slice_get-front steps ys i h.0, events_kept steps ys places h.1) refl

-- the event of a story step
abbrev pub event_told : Bool → Step → List Event
event_told told s = cond told (cons_option (event_of (Some s)) []) []

event_last : (steps : List Step) (s : Step) (told : Bool) → filter_map (λ i. event_of (slice_get (steps ++ s ∷ []) i)) (cond told (length steps ∷ []) []) ≡ event_told told s
event_last steps s true = ap (λ (o : Option Step). cons_option (event_of o) []) (slice_get-last steps s)
event_last steps s false = refl

pub events-step : (steps : List Step) (s : Step) (c : ℕ) → events (steps ++ s ∷ []) c ≡ events steps c ++ event_told (is_told c steps s) s
events-step steps s c =
    let longer : List Step = steps ++ s ∷ [] in
    let f : ℕ → Option Event = λ i. event_of (slice_get (steps ++ s ∷ []) i) in
    ap (filter_map f) (story-step steps s c)
    ∙ filter_map-append f (story steps c) (cond (is_told c steps s) (length steps ∷ []) [])
    ∙ ap (λ (t : List Event). t ++ filter_map f (cond (is_told c steps s) (length steps ∷ []) [])) (events_kept steps (s ∷ []) (story steps c) (places_of-under (is_told c) steps))
    ∙ ap (λ (t : List Event). events steps c ++ t) (event_last steps s (is_told c steps s))

pub last_or-append : (o : Option ℕ) (xs : List ℕ) (x : ℕ) → last_or o (xs ++ x ∷ []) ≡ Some x
last_or-append o [] x = refl
last_or-append o (y ∷ xs) x = last_or-append (Some y) xs x

-- the place of c's last story step
pub last_story-told : (steps : List Step) (s : Step) (c : ℕ) → is_told c steps s ≡ true → last_or None (story (steps ++ s ∷ []) c) ≡ Some (length steps)
last_story-told steps s c e = ap (last_or None) (story-step steps s c ∙ ap (λ (b : Bool). story steps c ++ cond b (length steps ∷ []) []) e) ∙ last_or-append None (story steps c) (length steps)

pub story-untold : (steps : List Step) (s : Step) (c : ℕ) → is_told c steps s ≡ false → story (steps ++ s ∷ []) c ≡ story steps c
story-untold steps s c e = story-step steps s c ∙ ap (λ (b : Bool). story steps c ++ cond b (length steps ∷ []) []) e ∙ append-nil (story steps c)

pub story-told : (steps : List Step) (s : Step) (c : ℕ) → is_told c steps s ≡ true → story (steps ++ s ∷ []) c ≡ story steps c ++ length steps ∷ []
story-told steps s c e = story-step steps s c ∙ ap (λ (b : Bool). story steps c ++ cond b (length steps ∷ []) []) e

mark_kept : (steps ys : List Step) (o : Option ℕ) (places : List ℕ) → all_under (length steps) places → is_mark_at (steps ++ ys) o ≡ is_mark_at steps o → is_mark_at (steps ++ ys) (last_or o places) ≡ is_mark_at steps (last_or o places)
mark_kept steps ys o [] h e = e
mark_kept steps ys o (i ∷ places) h e = mark_kept steps ys (Some i) places h.1 (ap is_mark (slice_get-front steps ys i h.0))

-- a Mark of c is c's last story step
pub is_marked-Mark : (steps : List Step) (r c : ℕ) (flush : Bool) → is_of c (owner steps r) ≡ true → is_mark_at (steps ++ Mark r flush ∷ []) (last_or None (story (steps ++ Mark r flush ∷ []) c)) ≡ true
is_marked-Mark steps r c flush e = ap (is_mark_at (steps ++ Mark r flush ∷ [])) (last_story-told steps (Mark r flush) c e) ∙ ap is_mark (slice_get-last steps (Mark r flush))

-- what is no story step of c leaves its last one
pub is_marked-kept : (steps : List Step) (s : Step) (c : ℕ) → is_told c steps s ≡ false → is_mark_at (steps ++ s ∷ []) (last_or None (story (steps ++ s ∷ []) c)) ≡ is_mark_at steps (last_or None (story steps c))
is_marked-kept steps s c e = ap (λ (t : List ℕ). is_mark_at (steps ++ s ∷ []) (last_or None t)) (story-untold steps s c e) ∙ mark_kept steps (s ∷ []) None (story steps c) (places_of-under (is_told c) steps) refl
