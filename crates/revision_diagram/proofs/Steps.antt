-- One step more at the end of a list of steps.
use Rattle.std.proofs.Common.{◌≡◌, ℕ, ◌+◌, Bool, cond, List, [], ◌∷◌, ◌++◌, length, refl, sym, ap, subst, ◌∙◌, append_assoc, append-nil, arith}
use Rattle.revision_diagram.specs.declared.step.Step.{Step}
use Rattle.revision_diagram.specs.Diagram.{Diagram, diagram_from, diagram, start, after, EachFrom, EachStep, PrefixesFrom, EachPrefix, places_from, places_of}

-- what holds of no step, and of one step more where it held, holds of all lists of steps
pub onwards : (P : List Step → Type 0) → ((front : List Step) (s : Step) → P front → P (front ++ s ∷ [])) → (front rest : List Step) → P front → P (front ++ rest)
onwards P more front [] h = subst P (sym (append-nil front)) h
onwards P more front (s ∷ rest) h = subst P (append_assoc front (s ∷ []) rest) (onwards P more (front ++ s ∷ []) rest (more front s h))

pub by_steps : (P : List Step → Type 0) → P [] → ((front : List Step) (s : Step) → P front → P (front ++ s ∷ [])) → (steps : List Step) → P steps
by_steps P none more steps = onwards P more [] steps none

pub diagram_from-step : (d : Diagram) (steps : List Step) (s : Step) → diagram_from d (steps ++ s ∷ []) ≡ after (diagram_from d steps) s
diagram_from-step d [] s = refl
diagram_from-step d (x ∷ steps) s = diagram_from-step (after d x) steps s

pub diagram-step : (steps : List Step) (s : Step) → diagram (steps ++ s ∷ []) ≡ after (diagram steps) s
diagram-step steps s = diagram_from-step start steps s

pub diagram_from-places : (d : Diagram) (steps : List Step) → (diagram_from d steps).places ≡ d.places + length steps
diagram_from-places d [] = omega arith
diagram_from-places d (s ∷ steps) = omega (arith, diagram_from-places (after d s) steps)

pub diagram-places : (steps : List Step) → (diagram steps).places ≡ length steps
diagram-places steps = omega (arith, diagram_from-places start steps)

pub EachFrom-step : (P : List Step → Step → Type 0) (front steps : List Step) (s : Step) → EachFrom P front steps → P (front ++ steps) s → EachFrom P front (steps ++ s ∷ [])
EachFrom-step P front [] s h k = (subst (λ (f : List Step). P f s) (append-nil front) k, tt)
EachFrom-step P front (x ∷ steps) s h k = (h.0, EachFrom-step P (front ++ x ∷ []) steps s h.1 (subst (λ (f : List Step). P f s) (sym (append_assoc front (x ∷ []) steps)) k))

pub EachStep-step : (P : List Step → Step → Type 0) (steps : List Step) (s : Step) → EachStep P steps → P steps s → EachStep P (steps ++ s ∷ [])
EachStep-step P steps s h k = EachFrom-step P [] steps s h k

pub EachFrom-front : (P : List Step → Step → Type 0) (front steps : List Step) (s : Step) → EachFrom P front (steps ++ s ∷ []) → EachFrom P front steps
EachFrom-front P front [] s h = tt
EachFrom-front P front (x ∷ steps) s h = (h.0, EachFrom-front P (front ++ x ∷ []) steps s h.1)

pub EachFrom-last : (P : List Step → Step → Type 0) (front steps : List Step) (s : Step) → EachFrom P front (steps ++ s ∷ []) → P (front ++ steps) s
EachFrom-last P front [] s h = subst (λ (f : List Step). P f s) (sym (append-nil front)) h.0
EachFrom-last P front (x ∷ steps) s h = subst (λ (f : List Step). P f s) (append_assoc front (x ∷ []) steps) (EachFrom-last P (front ++ x ∷ []) steps s h.1)

pub PrefixesFrom-step : (P : List Step → Type 0) (front steps : List Step) (s : Step) → PrefixesFrom P front steps → P ((front ++ steps) ++ s ∷ []) → PrefixesFrom P front (steps ++ s ∷ [])
PrefixesFrom-step P front [] s h k = (h, subst (λ (f : List Step). P (f ++ s ∷ [])) (append-nil front) k)
PrefixesFrom-step P front (x ∷ steps) s h k = (h.0, PrefixesFrom-step P (front ++ x ∷ []) steps s h.1 (subst (λ (f : List Step). P (f ++ s ∷ [])) (sym (append_assoc front (x ∷ []) steps)) k))

pub EachPrefix-step : (P : List Step → Type 0) (steps : List Step) (s : Step) → EachPrefix P steps → P (steps ++ s ∷ []) → EachPrefix P (steps ++ s ∷ [])
EachPrefix-step P steps s h k = PrefixesFrom-step P [] steps s h k

-- a property of every prefix holds of the whole
pub PrefixesFrom-whole : (P : List Step → Type 0) (front steps : List Step) → PrefixesFrom P front steps → P (front ++ steps)
PrefixesFrom-whole P front [] h = subst P (sym (append-nil front)) h
PrefixesFrom-whole P front (x ∷ steps) h = subst P (append_assoc front (x ∷ []) steps) (PrefixesFrom-whole P (front ++ x ∷ []) steps h.1)

pub PrefixesFrom-front : (P : List Step → Type 0) (front steps : List Step) (s : Step) → PrefixesFrom P front (steps ++ s ∷ []) → PrefixesFrom P front steps
PrefixesFrom-front P front [] s h = h.0
PrefixesFrom-front P front (x ∷ steps) s h = (h.0, PrefixesFrom-front P (front ++ x ∷ []) steps s h.1)

pub places_from-step : (test : List Step → Step → Bool) (front steps : List Step) (s : Step) → places_from test front (steps ++ s ∷ []) ≡ places_from test front steps ++ cond (test (front ++ steps) s) (length (front ++ steps) ∷ []) []
places_from-step test front [] s = append-nil (cond (test front s) (length front ∷ []) []) ∙ ap (λ (f : List Step). cond (test f s) (length f ∷ []) []) (sym (append-nil front))
places_from-step test front (x ∷ steps) s =
    let rest = places_from-step test (front ++ x ∷ []) steps s in
    let here = subst (λ (f : List Step). places_from test (front ++ x ∷ []) (steps ++ s ∷ []) ≡ places_from test (front ++ x ∷ []) steps ++ cond (test f s) (length f ∷ []) []) (append_assoc front (x ∷ []) steps) rest in
    ap (λ (t : List ℕ). cond (test front x) (length front ∷ []) [] ++ t) here ∙ sym (append_assoc (cond (test front x) (length front ∷ []) []) (places_from test (front ++ x ∷ []) steps) (cond (test (front ++ x ∷ steps) s) (length (front ++ x ∷ steps) ∷ []) []))

pub places_of-step : (test : List Step → Step → Bool) (steps : List Step) (s : Step) → places_of test (steps ++ s ∷ []) ≡ places_of test steps ++ cond (test steps s) (length steps ∷ []) []
places_of-step test steps s = places_from-step test [] steps s
