-- Lists of batches: those of one client, and the base of its next stretch.
use Rattle.batch_history.proofs.Clients.{of_client-other}
use Rattle.batch_history.proofs.Clients.{of_client-else}
use Rattle.batch_history.proofs.Clients.{of_client-here}
use Rattle.batch_history.proofs.Clients.{of_client-append}
use Rattle.batch_history.proofs.Fronts.{flat_all, flat_front}
use Rattle.batch_history.specs.Batches.{flat, last_seen, of_client, seen_after, stretch_of, stretches, unjoined, updates_in}
use Rattle.batch_history.specs.Sound.{EachFrom, FitsBehind}
use Rattle.cloud_base.specs.declared.batch.Batch.{Batch}
use Rattle.cloud_base.specs.declared.batch.Stretch.{Stretch}
use Rattle.cloud_base.specs.declared.batch.Tail.{Tail}
use Rattle.cloud_base.specs.declared.update.Update.{Update}
use Rattle.record_diagram.specs.Steps.{base_of, next_base}
use Rattle.std.proofs.Common.{List, Some, [], ap, append-nil, append_assoc, arith, inl, inr, length, refl, subst, sym, take, ℕ, ◌++◌, ◌∙◌, ◌∷◌, ◌≡◌, ◌≤◌}
use Rattle.std.proofs.lemmas.Bool.{cases_eq}
use Rattle.std.proofs.lemmas.List.{take-append-le}
use Rattle.std.specs.Prelude.{map, slice_get, ⊤, ◌≢◌}

-- a client's stretches that come when some batches are joined
abbrev pub later_stretches : ℕ → List Batch → List Stretch → List Stretch
later_stretches c rest more = map stretch_of (of_client c rest) ++ more

abbrev pub tail_stretches : List Batch → Tail → ℕ → List Stretch
tail_stretches batches tail c = map stretch_of (unjoined (of_client c batches) tail.sent) ++ tail.now ∷ []

pub skip_stretches : (xs ys : List Batch) (more : List Stretch) → slice_get (map stretch_of (xs ++ ys) ++ more) (length xs) ≡ slice_get (map stretch_of ys ++ more) 0
skip_stretches [] ys more = refl
skip_stretches (b ∷ xs) ys more = skip_stretches xs ys more

pub next_base-later : (batches joined rest : List Batch) (tail : Tail) (c : ℕ) → batches ≡ joined ++ rest → next_base batches joined tail c ≡ base_of (slice_get (later_stretches c rest (tail_stretches batches tail c)) 0)
next_base-later batches joined rest tail c e =
    ap base_of (ap (λ (l : List Batch). slice_get (map stretch_of l ++ tail_stretches batches tail c) (length (of_client c joined))) (ap (of_client c) e ∙ of_client-append c joined rest)
    ∙ skip_stretches (of_client c joined) (of_client c rest) (tail_stretches batches tail c))

pub next_base-batch : (batches joined rest : List Batch) (b : Batch) (tail : Tail) → batches ≡ joined ++ b ∷ rest → next_base batches joined tail b.client ≡ Some b.base
next_base-batch batches joined rest b tail e = next_base-later batches joined (b ∷ rest) tail b.client e
    ∙ ap (λ (l : List Batch). base_of (slice_get (map stretch_of l ++ tail_stretches batches tail b.client) 0)) (of_client-here b.client b rest refl)

pub next_base-other : (batches joined : List Batch) (b : Batch) (tail : Tail) (c : ℕ) → b.client ≢ c → next_base batches (joined ++ b ∷ []) tail c ≡ next_base batches joined tail c
next_base-other batches joined b tail c e = ap (λ (l : List Batch). base_of (slice_get (stretches batches tail c) (length l))) (of_client-other c joined b e)

-- where the next stretch has its base among the batches so far, these hold all the client's rounds already
pub known_next : (c n : ℕ) (front mid rest : List Batch) (more : List Stretch) → EachFrom FitsBehind (front ++ mid) rest → of_client c mid ≡ [] → (base_of (slice_get more 0) ≡ Some n → of_client c (take n ((front ++ mid) ++ rest)) ≡ of_client c ((front ++ mid) ++ rest))
    → base_of (slice_get (later_stretches c rest more) 0) ≡ Some n → n ≤ length front → of_client c (take n front) ≡ of_client c front
known_next c n front mid [] more each empty tail at l =
    let whole : of_client c (take n (front ++ mid)) ≡ of_client c (front ++ mid) = subst (λ (t : List Batch). of_client c (take n t) ≡ of_client c t) (append-nil (front ++ mid)) (tail at) in
    ap (of_client c) (sym (take-append-le n front mid l)) ∙ whole ∙ of_client-append c front mid ∙ ap (λ (t : List Batch). of_client c front ++ t) empty ∙ append-nil (of_client c front)
known_next c n front mid (b ∷ rest) more each empty tail at l = elim (cases_eq b.client c) [
  | inl mine ↦
      let e : Some b.base ≡ Some n = sym (ap (λ (t : List Batch). base_of (slice_get (map stretch_of t ++ more) 0)) (of_client-here c b rest mine)) ∙ at in
      let same : b.base ≡ n = cc in
      let whole : of_client c (take n (front ++ mid)) ≡ of_client c (front ++ mid) = subst (λ (k : ℕ). of_client c (take k (front ++ mid)) ≡ of_client c (front ++ mid)) same (subst (λ (x : ℕ). of_client x (take b.base (front ++ mid)) ≡ of_client x (front ++ mid)) mine each.0.known) in
      ap (of_client c) (sym (take-append-le n front mid l)) ∙ whole ∙ of_client-append c front mid ∙ ap (λ (t : List Batch). of_client c front ++ t) empty ∙ append-nil (of_client c front)
  | inr other ↦
      known_next c n front (mid ++ b ∷ []) rest more
      (subst (λ (t : List Batch). EachFrom FitsBehind t rest) (append_assoc front mid (b ∷ [])) each.1)
      (of_client-other c mid b other ∙ empty)
      (λ k. let h : of_client c (take n ((front ++ mid) ++ b ∷ rest)) ≡ of_client c ((front ++ mid) ++ b ∷ rest) = tail k in
      subst (λ (t : List Batch). of_client c (take n t) ≡ of_client c t) (sym (append_assoc (front ++ mid) (b ∷ []) rest) ∙ ap (λ (t : List Batch). t ++ rest) (append_assoc front mid (b ∷ []))) h)
      (sym (ap (λ (t : List Batch). base_of (slice_get (map stretch_of t ++ more) 0)) (of_client-else c b rest other)) ∙ at) l
]

-- the bases are at most n
abbrev pub Bases : ℕ → List Batch → Type 0
Bases n [] = ⊤
Bases n (b ∷ batches) = (b.base ≤ n) × Bases n batches

pub bases_more : (n m : ℕ) (batches : List Batch) → n ≤ m → Bases n batches → Bases m batches
bases_more n m [] l h = tt
bases_more n m (b ∷ batches) l h = (let k : b.base ≤ n = h.0 in omega arith, bases_more n m batches l h.1)

pub bases_last : (n : ℕ) (batches : List Batch) (b : Batch) → Bases n batches → b.base ≤ n → Bases n (batches ++ b ∷ [])
bases_last n [] b h l = (l, tt)
bases_last n (x ∷ batches) b h l = (h.0, bases_last n batches b h.1 l)

pub bases_of_client : (n c : ℕ) (batches : List Batch) → Bases n batches → Bases n (of_client c batches)
bases_of_client n c [] h = tt
bases_of_client n c (b ∷ batches) h = elim (cases_eq b.client c) [
  | inl mine ↦ subst (Bases n) (sym (of_client-here c b batches mine)) (h.0, bases_of_client n c batches h.1)
  | inr other ↦ subst (Bases n) (sym (of_client-else c b batches other)) (bases_of_client n c batches h.1)
]

pub last_seen-front : (joined more own : List Batch) (seen : List Update) → Bases (length joined) own → last_seen (joined ++ more) seen own ≡ last_seen joined seen own
last_seen-front joined more [] seen h = refl
last_seen-front joined more (b ∷ own) seen h =
    ap (λ (l : List Update). last_seen (joined ++ more) (l ++ updates_in b) own) (flat_front joined more b.base h.0) ∙ last_seen-front joined more own (seen_after joined b) h.1

pub last_seen-last : (joined own : List Batch) (seen : List Update) (b : Batch) → last_seen joined seen (own ++ b ∷ []) ≡ seen_after joined b
last_seen-last joined [] seen b = refl
last_seen-last joined (x ∷ own) seen b = last_seen-last joined own (seen_after joined x) b

pub flat_last : (joined : List Batch) (b : Batch) → flat (joined ++ b ∷ []) (length (joined ++ b ∷ [])) ≡ flat joined (length joined) ++ updates_in b
flat_last joined b = flat_all joined (b ∷ []) ∙ ap (λ (l : List Update). flat joined (length joined) ++ l) (append-nil (updates_in b))
