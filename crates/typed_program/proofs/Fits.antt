-- What a trace of the schema's shape does is fit.
use Rattle.std.proofs.Common.{◌≡◌, refl, sym, ap, subst, arith}
use Rattle.std.proofs.Math.Nat.{not-suc-le-zero}
use Rattle.std.proofs.lemmas.List.Elements.{All-nil, All-cons, All-head, All-tail, All-contains, Contains-push_cases}
use Rattle.std.specs.Prelude.{ℕ, zero, suc, ◌<◌, ◌⊎◌, List, [], ◌∷◌, All, Contains}
use mathlib.Core.Logic.{inl, inr}
use Rattle.cloud_base.specs.Values.{Id}
use Rattle.cloud_base.specs.Events.{Outcome, updates_of}
use Rattle.cloud_base.specs.Shaped.{IsShaped, IsShapedEvent, NoRepeat, Fit}
use Rattle.cloud_base.proofs.LogLemmas.{parts_no_repeat}
use Rattle.cloud_base.specs.declared.schema.Schema.{Schema}
use Rattle.cloud_base.specs.declared.update.Event.{Event}
use Rattle.cloud_base.specs.declared.update.Event.TheVariants as event
use Rattle.typed_program.specs.Shapes.{IsShapedTrace, first_ids}

abbrev made : ℕ → ℕ → Id
made client n = record { client = client; serial = n }

earlier_or_now : (client n : ℕ) (id : Id) → (Contains (first_ids client n) id → id.serial < n) → Contains (first_ids client n) id ⊎ (made client n ≡ id) → id.serial < suc n
earlier_or_now client n id below (inl k) = let h : id.serial < n = below k in omega (arith, h)
earlier_or_now client n id below (inr e) = subst (λ m. m < suc n) (ap (λ (u : Id). u.serial) e) (omega arith)

first_below : (client n : ℕ) (id : Id) → Contains (first_ids client n) id → id.serial < n
first_below client zero id h = absurd (not-suc-le-zero h.1)
first_below client (suc n) id h = earlier_or_now client n id (first_below client n id) (Contains-push_cases (first_ids client n) (made client n) id h)

not_below : (n : ℕ) → ¬ (n < n)
not_below n h = omega (arith, h)

apart : (client n : ℕ) (id : Id) → Contains (first_ids client n) id → ¬ Contains (made client n ∷ []) id
apart client n id h k =
    let same : id ≡ made client n = All-contains (λ (u : Id). u ≡ made client n) (made client n ∷ []) id (All-cons (λ (u : Id). u ≡ made client n) (made client n) [] refl (All-nil (λ (u : Id). u ≡ made client n))) k in
    not_below n (subst (λ (u : Id). u.serial < n) same (first_below client n id h))

first_once : (client n : ℕ) → NoRepeat (first_ids client n)
first_once client zero = tt
first_once client (suc n) = parts_no_repeat (first_ids client n) (made client n ∷ []) (first_once client n) (λ h. not-suc-le-zero h.1, tt) (apart client n)

updates_shaped : (schema : Schema) (es : List Event) → All (IsShapedEvent schema) es → All (IsShaped schema) (updates_of es)
updates_shaped schema [] h = All-nil (IsShaped schema)
updates_shaped schema (event.Do u ∷ es) h = All-cons (IsShaped schema) u (updates_of es) (All-head (IsShapedEvent schema) (event.Do u) es h) (updates_shaped schema es (All-tail (IsShapedEvent schema) (event.Do u) es h))
updates_shaped schema (event.Ask q a ∷ es) h = updates_shaped schema es (All-tail (IsShapedEvent schema) (event.Ask q a) es h)
updates_shaped schema (event.Say a ∷ es) h = updates_shaped schema es (All-tail (IsShapedEvent schema) (event.Say a) es h)
updates_shaped schema (event.Yield ∷ es) h = updates_shaped schema es (All-tail (IsShapedEvent schema) event.Yield es h)
updates_shaped schema (event.Flush ∷ es) h = updates_shaped schema es (All-tail (IsShapedEvent schema) event.Flush es h)

pub trace_fits : (schema : Schema) (client : ℕ) (trace : List Event × Outcome) → IsShapedTrace schema client trace → Fit schema (updates_of trace.0)
trace_fits schema client trace h = record { shaped = updates_shaped schema trace.0 h.events; once = subst NoRepeat (sym h.creations.2) (first_once client h.creations.0) }
