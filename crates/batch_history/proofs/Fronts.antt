-- Fronts of records.
use Rattle.std.proofs.Common.{arith, ◌≡◌, refl, ap, sym, ◌∙◌, subst, not-suc-le-zero}
use Rattle.std.specs.Prelude.{ℕ, zero, suc, ◌≤◌, List, [], ◌∷◌, ◌++◌, length}
use Rattle.cloud_base.specs.Shaped.{CreatedOnce, NoRepeat}
use Rattle.cloud_base.specs.Log.{created}
use Rattle.cloud_base.specs.declared.batch.Batch.{Batch}
use Rattle.cloud_base.specs.declared.update.Query.{Query}
use Rattle.cloud_base.specs.declared.update.Answer.{Answer}
use Rattle.cloud_base.specs.declared.update.Update.{Update}
use Rattle.cloud_base.specs.declared.update.Update.TheVariants as update
use Rattle.std.proofs.lemmas.List.{append_assoc}
use Rattle.std.proofs.lemmas.List.Elements.{Contains-append_left}
use Rattle.batch_history.specs.Batches.{flat, updates_in}
use Rattle.batch_history.specs.Sound.{FitsBehind, EachFrom, SoundBatches}
use Rattle.batch_history.specs.Right.{RightBatches, RightBehind}

pub flat_front : (front more : List Batch) (n : ℕ) → n ≤ length front → flat (front ++ more) n ≡ flat front n
flat_front [] [] n h = refl
flat_front [] (b ∷ more) zero h = refl
flat_front [] (b ∷ more) (suc n) h = absurd (not-suc-le-zero h)
flat_front (b ∷ front) more zero h = refl
flat_front (b ∷ front) more (suc n) h = ap (λ log. updates_in b ++ log) (flat_front front more n (omega (arith, h)))

pub each_front : {A : Type 0} (P : List A → A → Type 0) (before front more : List A) → EachFrom P before (front ++ more) → EachFrom P before front
each_front P before [] more h = tt
each_front P before (x ∷ front) more h = (h.0, each_front P (before ++ x ∷ []) front more h.1)

pub right_front : (is_answer : List Update → Query → Answer → Type 0) (front more : List Batch) → RightBatches is_answer (front ++ more) → RightBatches is_answer front
right_front is_answer front more h = each_front (RightBehind is_answer) [] front more h

pub no_repeat_front : {A : Type 0} (xs ys : List A) → NoRepeat (xs ++ ys) → NoRepeat xs
no_repeat_front [] ys h = tt
no_repeat_front (x ∷ xs) ys h = (λ k. h.0 (Contains-append_left xs ys x k), no_repeat_front xs ys h.1)

pub flat_all : (front more : List Batch) → flat (front ++ more) (length (front ++ more)) ≡ flat front (length front) ++ flat more (length more)
flat_all [] more = refl
flat_all (b ∷ front) more = ap (λ log. updates_in b ++ log) (flat_all front more) ∙ sym (append_assoc (updates_in b) (flat front (length front)) (flat more (length more)))

pub created_parts : (log more : List Update) → created (log ++ more) ≡ created log ++ created more
created_parts [] more = refl
created_parts (update.Cell p ks c ∷ log) more = created_parts log more
created_parts (update.Create id e ks ∷ log) more = ap (λ l. id ∷ l) (created_parts log more)
created_parts (update.Delete id ∷ log) more = created_parts log more

pub sound_front : (front more : List Batch) → SoundBatches (front ++ more) → SoundBatches front
sound_front front more s = record {
  each = each_front FitsBehind [] front more s.each;
  once = no_repeat_front (created (flat front (length front))) (created (flat more (length more)))
      (subst NoRepeat (created_parts (flat front (length front)) (flat more (length more))) (subst (λ log. CreatedOnce log) (flat_all front more) s.once));
}
