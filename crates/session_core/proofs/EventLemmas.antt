-- Lists of events that grow.
use Rattle.std.proofs.Common.{◌≡◌, refl, sym, ap, subst, List, [], ◌∷◌, ◌++◌, Some, None, Option, append-nil, append_assoc}
use Rattle.std.specs.Prelude.{All, ℕ}
use Rattle.std.specs.List.{last_or}
use Rattle.std.proofs.lemmas.List.Elements.{All-append}
use Rattle.cloud_base.specs.Events.{updates_of, IsMark, EndsAtMark}
use Rattle.cloud_base.specs.Log.{created}
use Rattle.cloud_base.specs.Values.{Id}
use Rattle.cloud_base.specs.declared.batch.Batch.{Batch}
use Rattle.cloud_base.specs.declared.update.Answer.{Answer}
use Rattle.cloud_base.specs.declared.update.Event.{Event}
use Rattle.cloud_base.specs.declared.update.Event.TheVariants.{Do, Ask, Say, Yield, Flush}
use Rattle.cloud_base.specs.declared.update.Query.{Query}
use Rattle.cloud_base.specs.declared.update.Update.{Update}
use Rattle.cloud_base.proofs.LogLemmas.{created_parts}
use Rattle.batch_history.specs.Batches.{seen_after, last_seen}
use Rattle.batch_history.specs.Right.{RightEvents}
use Rattle.batch_history.specs.Sound.{CreatedBy}

-- ---- updates

pub updates_of-append : (l m : List Event) → updates_of (l ++ m) ≡ updates_of l ++ updates_of m
updates_of-append [] m = refl
updates_of-append (Do u ∷ l) m = ap (λ (x : List Update). u ∷ x) (updates_of-append l m)
updates_of-append (Ask q a ∷ l) m = updates_of-append l m
updates_of-append (Say v ∷ l) m = updates_of-append l m
updates_of-append (Yield ∷ l) m = updates_of-append l m
updates_of-append (Flush ∷ l) m = updates_of-append l m

pub created_by_parts : (c : ℕ) (log more : List Update) → CreatedBy c log → CreatedBy c more → CreatedBy c (log ++ more)
created_by_parts c log more h k =
    subst (All (λ (id : Id). id.client ≡ c)) (sym (created_parts log more)) (All-append (λ (id : Id). id.client ≡ c) (created log) (created more) h k)

-- ---- answers

-- an event more that is right behind the others
pub right_more : (is_answer : List Update → Query → Answer → Type 0) (seen : List Update) (l : List Event) (e : Event) → RightEvents is_answer seen l → RightEvents is_answer (seen ++ updates_of l) (e ∷ []) → RightEvents is_answer seen (l ++ e ∷ [])
right_more is_answer seen [] e h right = subst (λ (x : List Update). RightEvents is_answer x (e ∷ [])) (append-nil seen) right
right_more is_answer seen (Do u ∷ l) e h right =
    right_more is_answer (seen ++ u ∷ []) l e h (subst (λ (x : List Update). RightEvents is_answer x (e ∷ [])) (sym (append_assoc seen (u ∷ []) (updates_of l))) right)
right_more is_answer seen (Ask q a ∷ l) e h right = (h.0, right_more is_answer seen l e h.1 right)
right_more is_answer seen (Say v ∷ l) e h right = right_more is_answer seen l e h right
right_more is_answer seen (Yield ∷ l) e h right = right_more is_answer seen l e h right
right_more is_answer seen (Flush ∷ l) e h right = right_more is_answer seen l e h right

-- what a client has seen at the end of the last of its batches
pub last_seen-last : (joined own : List Batch) (seen : List Update) (b : Batch) → last_seen joined seen (own ++ b ∷ []) ≡ seen_after joined b
last_seen-last joined [] seen b = refl
last_seen-last joined (x ∷ own) seen b = last_seen-last joined own (seen_after joined x) b

-- ---- the last event

pub last_or-last : (o : Option Event) (l : List Event) (e : Event) → last_or o (l ++ e ∷ []) ≡ Some e
last_or-last o [] e = refl
last_or-last o (x ∷ l) e = last_or-last (Some x) l e

pub last_or-append : (o : Option Event) (l m : List Event) → last_or o (l ++ m) ≡ last_or (last_or o l) m
last_or-append o [] m = refl
last_or-append o (x ∷ l) m = last_or-append (Some x) l m

-- a last event that is there doesn't hang on what stands for none
pub last_or-some : (o : Option Event) (l : List Event) (e : Event) → last_or None l ≡ Some e → last_or o l ≡ Some e
last_or-some o [] e h = cc
last_or-some o (x ∷ l) e h = h

-- a list that ends with a mark ends at it
pub ends_at : (l : List Event) (e : Event) → IsMark (Some e) → EndsAtMark (l ++ e ∷ [])
ends_at [] e mark = mark
ends_at (x ∷ l) e mark = subst IsMark (sym (last_or-last (Some x) l e)) mark
