-- The events of stretches, and their updates.
use Rattle.std.proofs.Common.{◌≡◌, refl, sym, ap, ◌∙◌, subst, arith, append-nil, append_assoc}
use Rattle.std.specs.Prelude.{ℕ, zero, suc, ◌<◌, ◌≤◌, ◌⊎◌, All, List, [], ◌∷◌, ◌++◌, length, map, Contains}
use Rattle.std.proofs.Math.Nat.{not-suc-le-zero}
use Rattle.std.proofs.lemmas.List.Elements.{All-nil, All-cons, All-tail, All-append, All-contains, Contains-push_cases}
use mathlib.Core.Logic.{inl, inr}
use Rattle.cloud_base.specs.Events.{updates_of}
use Rattle.cloud_base.specs.Log.{created}
use Rattle.cloud_base.specs.Shaped.{NoRepeat}
use Rattle.cloud_base.specs.Values.{Id}
use Rattle.cloud_base.specs.declared.batch.Batch.{Batch}
use Rattle.cloud_base.specs.declared.batch.Stretch.{Stretch}
use Rattle.cloud_base.specs.declared.update.Event.{Event}
use Rattle.cloud_base.specs.declared.update.Update.{Update}
use Rattle.cloud_base.specs.declared.update.Update.TheVariants as update
use Rattle.cloud_base.proofs.LogLemmas.{parts_no_repeat}
use Rattle.typed_program.specs.Shapes.{first_ids}
use Rattle.typed_program.proofs.Keeps.{updates-append}
use Rattle.batch_history.specs.Batches.{all_events, events_in, stretch_of, updates_in}
use Rattle.batch_joins.specs.Joins.{all_updates}

pub all_events-push : (l : List Stretch) (s : Stretch) → all_events (l ++ s ∷ []) ≡ all_events l ++ events_in s
all_events-push [] s = append-nil (events_in s)
all_events-push (t ∷ l) s = ap (λ (x : List Event). events_in t ++ x) (all_events-push l s) ∙ sym (append_assoc (events_in t) (all_events l) (events_in s))

pub map_stretch-push : (l : List Batch) (b : Batch) → map stretch_of (l ++ b ∷ []) ≡ map stretch_of l ++ stretch_of b ∷ []
map_stretch-push [] b = refl
map_stretch-push (x ∷ l) b = ap (λ (m : List Stretch). stretch_of x ∷ m) (map_stretch-push l b)

pub updates_of_batches : (l : List Batch) → updates_of (all_events (map stretch_of l)) ≡ all_updates l
updates_of_batches [] = refl
updates_of_batches (b ∷ l) =
    updates-append (b.before ++ b.rest) (all_events (map stretch_of l))
    ∙ ap (λ (x : List Update). x ++ updates_of (all_events (map stretch_of l))) (updates-append b.before b.rest)
    ∙ ap (λ (x : List Update). updates_in b ++ x) (updates_of_batches l)

pub few_created : (log : List Update) → length (created log) ≤ length log
few_created [] = omega arith
few_created (update.Cell p ks c ∷ log) = let h = few_created log in omega (arith, h)
few_created (update.Create id e ks ∷ log) = let h = few_created log in omega (arith, h)
few_created (update.Delete id ∷ log) = let h = few_created log in omega (arith, h)

-- ---- a client's first ids
abbrev made : ℕ → ℕ → Id
made client n = record { client = client; serial = n }

earlier_or_now : (client n : ℕ) (id : Id) → (Contains (first_ids client n) id → id.serial < n) → Contains (first_ids client n) id ⊎ (made client n ≡ id) → id.serial < suc n
earlier_or_now client n id below (inl k) = let h : id.serial < n = below k in omega (arith, h)
earlier_or_now client n id below (inr e) = subst (λ m. m < suc n) (ap (λ (u : Id). u.serial) e) (omega arith)

first_below : (client n : ℕ) (id : Id) → Contains (first_ids client n) id → id.serial < n
first_below client zero id h = absurd (not-suc-le-zero h.1)
first_below client (suc n) id h = earlier_or_now client n id (first_below client n id) (Contains-push_cases (first_ids client n) (made client n) id h)

not_below : (n : ℕ) → ¬ (n < n)
not_below n h = omega (arith, h)

only : (id : Id) → All (λ (u : Id). u ≡ id) (id ∷ [])
only id = All-cons (λ (u : Id). u ≡ id) id [] refl (All-nil (λ (u : Id). u ≡ id))

apart : (client n : ℕ) (id : Id) → Contains (first_ids client n) id → ¬ Contains (made client n ∷ []) id
apart client n id h k =
    let same : id ≡ made client n = All-contains (λ (u : Id). u ≡ made client n) (made client n ∷ []) id (only (made client n)) k in
    not_below n (subst (λ (u : Id). u.serial < n) same (first_below client n id h))

pub first_once : (client n : ℕ) → NoRepeat (first_ids client n)
first_once client zero = tt
first_once client (suc n) = parts_no_repeat (first_ids client n) (made client n ∷ []) (first_once client n) (λ h. not-suc-le-zero h.1, tt) (apart client n)

pub first_mine : (client n : ℕ) → All (λ (id : Id). id.client ≡ client) (first_ids client n)
first_mine client zero = All-nil (λ (id : Id). id.client ≡ client)
first_mine client (suc n) = All-append (λ (id : Id). id.client ≡ client) (first_ids client n) (made client n ∷ []) (first_mine client n) (All-cons (λ (id : Id). id.client ≡ client) (made client n) [] refl (All-nil (λ (id : Id). id.client ≡ client)))

pub all_behind : {A : Type 0} (P : A → Type 0) (xs ys : List A) → All P (xs ++ ys) → All P ys
all_behind P [] ys h = h
all_behind P (x ∷ xs) ys h = all_behind P xs ys (All-tail P x (xs ++ ys) h)
