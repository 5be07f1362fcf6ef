-- What stands at a place of a list, and fronts of lists.
use Rattle.std.proofs.Common.{◌≡◌, refl, ap, sym, ◌∙◌, subst, arith, ℕ, zero, suc, ◌+◌, ◌≤◌, List, [], ◌∷◌, ◌++◌, length, Some, None}
use Rattle.std.specs.Prelude.{slice_get}
use Rattle.std.proofs.lemmas.List.{length-append}
use mathlib.Core.List.{IsPrefix}
use Rattle.cloud_base.specs.declared.batch.Batch.{Batch}
use Rattle.batch_history.specs.Batches.{of_client}
use Rattle.batch_history.proofs.Clients.{of_client-append}

at_here : {A : Type 0} (front : List A) (x : A) (more : List A) → slice_get ((front ++ x ∷ []) ++ more) (length front) ≡ Some x
at_here [] x more = refl
at_here (f ∷ front) x more = at_here front x more

pub at_last : {A : Type 0} (front : List A) (x : A) → slice_get (front ++ x ∷ []) (length front) ≡ Some x
at_last [] x = refl
at_last (f ∷ front) x = at_last front x

-- behind a front comes its next element
pub next_at : {A : Type 0} (front whole : List A) (x : A) → IsPrefix (front ++ x ∷ []) whole
    → slice_get whole (length front) ≡ Some x
next_at front whole x p = subst (λ (l : List _). slice_get l (length front) ≡ Some x) p.1 (at_here front x p.0)

pub none_left : {A : Type 0} (whole : List A) → slice_get whole (length whole) ≡ None
none_left [] = refl
none_left (x ∷ whole) = none_left whole

pub at_front : {A : Type 0} (front more : List A) (n : ℕ) (x : A) → slice_get front n ≡ Some x
    → slice_get (front ++ more) n ≡ Some x
at_front [] more n x e = absurd (cc (e))
at_front (f ∷ front) more zero x e = e
at_front (f ∷ front) more (suc n) x e = at_front front more n x e

-- a front has no more batches of a client
pub fewer_of_client : (c : ℕ) (front whole : List Batch) → IsPrefix front whole
    → length (of_client c front) ≤ length (of_client c whole)
fewer_of_client c front whole p =
    let parts : of_client c whole ≡ of_client c front ++ of_client c p.0 =
    ap (of_client c) (sym p.1) ∙ of_client-append c front p.0 in
    let sum : length (of_client c whole) ≡ length (of_client c front) + length (of_client c p.0) =
    ap (λ (l : List Batch). length l) parts ∙ length-append (of_client c front) (of_client c p.0) in
    omega (arith, sum)
