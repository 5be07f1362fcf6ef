-- What holds at each step and of each prefix, said by places.
use Rattle.std.proofs.Common.{◌≡◌, ℕ, zero, suc, List, [], ◌∷◌, ◌++◌, take, refl, sym, subst, Some, append_assoc, append-nil}
use Rattle.std.specs.Prelude.{◌↔◌, slice_get}
use Rattle.revision_diagram.specs.declared.step.Step.{Step}
use Rattle.revision_diagram.proofs.Steps.{EachFrom-front, EachFrom-last, EachStep-step, PrefixesFrom-front}
use Rattle.revision_diagram.specs.Diagram.{EachFrom, EachStep, PrefixesFrom, EachPrefix}

EachFrom-at : (P : List Step → Step → Type 0) (front steps : List Step) → EachFrom P front steps → (i : ℕ) (s : Step) → slice_get steps i ≡ Some s → P (front ++ take i steps) s
EachFrom-at P front [] h i s e = cc
EachFrom-at P front (x ∷ steps) h zero s e = let same : x ≡ s = cc in subst (λ (t : List Step). P t s) (sym (append-nil front)) (subst (λ (y : Step). P front y) same h.0)
EachFrom-at P front (x ∷ steps) h (suc i) s e = subst (λ (t : List Step). P t s) (append_assoc front (x ∷ []) (take i steps)) (EachFrom-at P (front ++ x ∷ []) steps h.1 i s e)

EachFrom-from : (P : List Step → Step → Type 0) (front steps : List Step) → ((i : ℕ) (s : Step) → slice_get steps i ≡ Some s → P (front ++ take i steps) s) → EachFrom P front steps
EachFrom-from P front [] h = tt
EachFrom-from P front (x ∷ steps) h = (subst (λ (t : List Step). P t x) (append-nil front) (h zero x refl), EachFrom-from P (front ++ x ∷ []) steps (λ i s e. subst (λ (t : List Step). P t s) (sym (append_assoc front (x ∷ []) (take i steps))) (h (suc i) s e)))

-- at each place i with a step s, P of the first i steps and of s
pub EachStep-at : (P : List Step → Step → Type 0) (steps : List Step) → EachStep P steps → (i : ℕ) (s : Step) → slice_get steps i ≡ Some s → P (take i steps) s
EachStep-at P steps h i s e = EachFrom-at P [] steps h i s e

pub EachStep-from : (P : List Step → Step → Type 0) (steps : List Step) → ((i : ℕ) (s : Step) → slice_get steps i ≡ Some s → P (take i steps) s) → EachStep P steps
EachStep-from P steps h = EachFrom-from P [] steps h

PrefixesFrom-at : (P : List Step → Type 0) (front steps : List Step) → PrefixesFrom P front steps → (n : ℕ) → P (front ++ take n steps)
PrefixesFrom-at P front [] h zero = subst P (sym (append-nil front)) h
PrefixesFrom-at P front [] h (suc n) = subst P (sym (append-nil front)) h
PrefixesFrom-at P front (x ∷ steps) h zero = subst P (sym (append-nil front)) h.0
PrefixesFrom-at P front (x ∷ steps) h (suc n) = subst P (append_assoc front (x ∷ []) (take n steps)) (PrefixesFrom-at P (front ++ x ∷ []) steps h.1 n)

PrefixesFrom-from : (P : List Step → Type 0) (front steps : List Step) → ((n : ℕ) → P (front ++ take n steps)) → PrefixesFrom P front steps
PrefixesFrom-from P front [] h = subst P (append-nil front) (h zero)
PrefixesFrom-from P front (x ∷ steps) h = (subst P (append-nil front) (h zero), PrefixesFrom-from P (front ++ x ∷ []) steps (λ n. subst P (sym (append_assoc front (x ∷ []) (take n steps))) (h (suc n))))

pub EachPrefix-at : (P : List Step → Type 0) (steps : List Step) → EachPrefix P steps → (n : ℕ) → P (take n steps)
EachPrefix-at P steps h n = PrefixesFrom-at P [] steps h n

pub EachPrefix-from : (P : List Step → Type 0) (steps : List Step) → ((n : ℕ) → P (take n steps)) → EachPrefix P steps
EachPrefix-from P steps h = PrefixesFrom-from P [] steps h

pub EachStep-more : (P : List Step → Step → Type 0) (steps : List Step) (s : Step) → EachStep P (steps ++ s ∷ []) ↔ (EachStep P steps × P steps s)
EachStep-more P steps s = (λ h. (EachFrom-front P [] steps s h, EachFrom-last P [] steps s h), λ h. EachStep-step P steps s h.0 h.1)

pub EachStep-by_place : (P : List Step → Step → Type 0) (steps : List Step) → EachStep P steps ↔ ((i : ℕ) (s : Step) → slice_get steps i ≡ Some s → P (take i steps) s)
EachStep-by_place P steps = (λ h. EachStep-at P steps h, λ h. EachStep-from P steps h)

pub EachPrefix-by_place : (P : List Step → Type 0) (steps : List Step) → EachPrefix P steps ↔ ((n : ℕ) → P (take n steps))
EachPrefix-by_place P steps = (λ h. EachPrefix-at P steps h, λ h. EachPrefix-from P steps h)

pub EachPrefix-front : (P : List Step → Type 0) (steps : List Step) (s : Step) → EachPrefix P (steps ++ s ∷ []) → EachPrefix P steps
EachPrefix-front P steps s h = PrefixesFrom-front P [] steps s h
