-- What comes next of each client.
use Rattle.std.proofs.Common.{◌≡◌, ◌∙◌, refl, sym, ap, subst, arith, ℕ, zero, suc, ◌+◌, ◌-◌, ◌<◌, ◌≤◌, ◌≢◌, List, [], ◌∷◌, ◌++◌, length, length-drop, take, drop, append-nil, append_assoc, Option, Some, None, inl, inr, replicate, get_or, get_or-set_same, get_or-set_other}
use Rattle.std.specs.Prelude.{map, ◌==◌, slice_get, slice_index_or, slice_set}
use Rattle.std.specs.List.{AllByRecursion}
use Rattle.std.proofs.lemmas.Bool.{cases_eq}
use Rattle.std.proofs.lemmas.List.{length-append, map-append, take_all, take_more, take-append-drop}
use Rattle.cloud_base.specs.declared.batch.Batch.{Batch}
use Rattle.cloud_base.specs.declared.batch.Stretch.{Stretch}
use Rattle.cloud_base.specs.declared.batch.Tail.{Tail}
use Rattle.batch_history.specs.Batches.{of_client, stretch_of, stretches, unjoined}
use Rattle.batch_history.proofs.Clients.{of_client-append, of_client-here, of_client-else, of_client-last, of_client-other}
use Rattle.record_diagram.specs.Steps.{base_of, next_base}
use Rattle.diagram_text.specs.Agendas.{IsAgenda}
use Rattle.diagram_text.specs.declared.agenda.Agenda.{Agenda}

-- behind some stretches
get_past : {A B : Type 0} (f : A → B) (xs : List A) (ys : List B) → slice_get (map f xs ++ ys) (length xs) ≡ slice_get ys 0
get_past f [] ys = refl
get_past f (x ∷ xs) ys = get_past f xs ys

-- a further batch of the client is its next stretch
pub next_at : (batches front left passed rest : List Batch) (b : Batch) (tail : Tail) (c : ℕ) → batches ≡ front ++ left → left ≡ passed ++ b ∷ rest → of_client c passed ≡ [] → b.client ≡ c → next_base batches front tail c ≡ Some b.base
next_at batches front left passed rest b tail c whole cut none mine =
    let own : of_client c batches ≡ of_client c front ++ b ∷ of_client c rest =
    ap (of_client c) whole ∙ of_client-append c front left
    ∙ ap (λ (l : List Batch). of_client c front ++ l) (ap (of_client c) cut ∙ of_client-append c passed (b ∷ rest) ∙ ap (λ (l : List Batch). l ++ of_client c (b ∷ rest)) none ∙ of_client-here c b rest mine) in
    let more : List Batch → List Stretch = λ l. map stretch_of (unjoined l tail.sent) ++ tail.now ∷ [] in
    let found : (l : List Batch) → l ≡ of_client c front ++ b ∷ of_client c rest → slice_get (map stretch_of l ++ more (of_client c batches)) (length (of_client c front)) ≡ Some (stretch_of b) =
    λ l e. ap (λ (k : List Batch). slice_get (map stretch_of k ++ more (of_client c batches)) (length (of_client c front))) e
    ∙ ap (λ (k : List Stretch). slice_get (k ++ more (of_client c batches)) (length (of_client c front))) (map-append stretch_of (of_client c front) (b ∷ of_client c rest))
    ∙ ap (λ (k : List Stretch). slice_get k (length (of_client c front))) (append_assoc (map stretch_of (of_client c front)) (map stretch_of (b ∷ of_client c rest)) (more (of_client c batches)))
    ∙ get_past stretch_of (of_client c front) (map stretch_of (b ∷ of_client c rest) ++ more (of_client c batches)) in
    ap base_of (found (of_client c batches) own)

-- where none is left, it is what was sent or what ran since
pub next_left : (batches front left : List Batch) (tail : Tail) (c : ℕ) → batches ≡ front ++ left → of_client c left ≡ [] → base_of (slice_get (map stretch_of (unjoined (of_client c front) tail.sent) ++ tail.now ∷ []) 0) ≡ next_base batches front tail c
next_left batches front left tail c whole none =
    let own : of_client c batches ≡ of_client c front = ap (of_client c) whole ∙ of_client-append c front left ∙ ap (λ (l : List Batch). of_client c front ++ l) none ∙ append-nil (of_client c front) in
    sym (ap (λ (l : List Batch). base_of (slice_get (map stretch_of l ++ (map stretch_of (unjoined l tail.sent) ++ tail.now ∷ [])) (length (of_client c front)))) own
    ∙ ap base_of (get_past stretch_of (of_client c front) (map stretch_of (unjoined (of_client c front) tail.sent) ++ tail.now ∷ [])))

-- a batch of another client changes nothing
pub next_other : (batches joined : List Batch) (b : Batch) (tail : Tail) (c : ℕ) → b.client ≢ c → next_base batches joined tail c ≡ next_base batches (joined ++ b ∷ []) tail c
next_other batches joined b tail c other = ap (λ (l : List Batch). base_of (slice_get (stretches batches tail c) (length l))) (sym (of_client-other c joined b other))

pub count_last : (joined : List Batch) (b : Batch) → length (of_client b.client (joined ++ b ∷ [])) ≡ length (of_client b.client joined) + 1
count_last joined b = ap length (of_client-last joined b) ∙ length-append (of_client b.client joined) (b ∷ [])

pub few_of_client : (c : ℕ) (batches : List Batch) → length (of_client c batches) ≤ length batches
few_of_client c [] = omega arith
few_of_client c (b ∷ batches) = elim (cases_eq b.client c) [
  | inl mine ↦ let e : length (of_client c (b ∷ batches)) ≡ suc (length (of_client c batches)) = ap length (of_client-here c b batches mine) in omega (arith, few_of_client c batches)
  | inr other ↦ let e : length (of_client c (b ∷ batches)) ≡ length (of_client c batches) = ap length (of_client-else c b batches other) in omega (arith, few_of_client c batches)
]

-- the list in three parts, at a place
pub cut_at : {A : Type 0} (l : List A) (i : ℕ) (x : A) → i < length l → x ≡ get_or l i x → l ≡ take i l ++ x ∷ drop (i + 1) l
cut_at l i x within e = sym (take-append-drop (i + 1) l) ∙ ap (λ (t : List _). t ++ drop (i + 1) l) (take_more l i x within ∙ ap (λ y. take i l ++ y ∷ []) (sym e)) ∙ append_assoc (take i l) (x ∷ []) (drop (i + 1) l)

-- a batch is of one of the clients
pub client_at : (n : ℕ) (batches : List Batch) (i : ℕ) (b : Batch) → AllByRecursion (λ (x : Batch). x.client < n) batches → i < length batches → b ≡ get_or batches i b → b.client < n
client_at n [] i b all within e = absurd (omega arith)
client_at n (x ∷ batches) zero b all within e = subst (λ (y : Batch). y.client < n) (sym e) all.0
client_at n (x ∷ batches) (suc i) b all within e = client_at n batches i b all.1 (omega arith) e

abbrev pub zeros : ℕ → List ℕ
zeros n = replicate n 0

pub zeros_at : (n k : ℕ) → ◌≡◌ {A = ℕ} (slice_index_or (zeros n) k 0) 0
zeros_at zero k = refl
zeros_at (suc n) zero = refl
zeros_at (suc n) (suc k) = zeros_at n k

-- what is left behind a place
pub rest_of : {A : Type 0} (l : List A) (n : ℕ) → take (length l - n) (drop n l) ≡ drop n l
rest_of l n = take_all (length l - n) (drop n l) (omega (arith, length-drop n l))

-- an entry of an array, after it or another one was set
pub set_here : {A : Type 0} (l : List A) (i k : ℕ) (v d : A) → i < length l → k ≡ i → slice_index_or (slice_set l i v) k d ≡ v
set_here l i k v d within same = ap (λ (x : ℕ). slice_index_or (slice_set l i v) x d) same ∙ get_or-set_same l i v d within

pub set_else : {A : Type 0} (l : List A) (i k : ℕ) (v d : A) → k ≢ i → slice_index_or (slice_set l i v) k d ≡ slice_index_or l k d
set_else l i k v d other = get_or-set_other l i k v d other

-- one client more has its base
pub bases_more : (batches : List Batch) (tails : List Tail) (bases : List (Option ℕ)) (i : ℕ) (base : Option ℕ) (tail : Tail) → i < length bases → slice_get tails i ≡ Some tail → base ≡ next_base batches [] tail i
    → ((k : ℕ) (t : Tail) → k < i → slice_get tails k ≡ Some t → slice_index_or bases k None ≡ next_base batches [] t k)
    → (k : ℕ) (t : Tail) → k < i + 1 → slice_get tails k ≡ Some t → slice_index_or (slice_set bases i base) k None ≡ next_base batches [] t k
bases_more batches tails bases i base tail within here is before k t below there = elim (cases_eq k i) [
  | inl same ↦
      let one : slice_get tails i ≡ Some t = sym (ap (slice_get tails) same) ∙ there in
      let tail_same : tail ≡ t = cc in
      set_here bases i k base None within same ∙ is ∙ ap (λ (x : Tail). next_base batches [] x i) tail_same ∙ ap (λ (x : ℕ). next_base batches [] t x) (sym same)
  | inr other ↦ set_else bases i k base None other ∙ before k t (omega arith) there
]

-- the batch at a place is joined
pub agenda_more : (batches : List Batch) (tails : List Tail) (joined longer : List Batch) (b : Batch) (agenda : Agenda) (slot : ℕ) (base : Option ℕ) (tail : Tail) → longer ≡ joined ++ b ∷ [] → slot ≡ b.client → slot < length agenda.joined → slot < length agenda.bases → slot < length tails
    → slice_get tails slot ≡ Some tail → base ≡ next_base batches longer tail slot → IsAgenda batches tails joined agenda
    → IsAgenda batches tails longer (record { joined = slice_set agenda.joined slot (slice_index_or agenda.joined slot 0 + 1); bases = slice_set agenda.bases slot base })
agenda_more batches tails joined longer b agenda slot base tail cut mine within_joined within_bases within here is h = record {
  counts = λ k below. elim (cases_eq k slot) [
    | inl same ↦
        set_here agenda.joined slot k (slice_index_or agenda.joined slot 0 + 1) 0 within_joined same
        ∙ ap (λ (n : ℕ). n + 1) (h.counts slot within ∙ ap (λ (x : ℕ). length (of_client x joined)) mine)
        ∙ sym (count_last joined b)
        ∙ ap (λ (l : List Batch). length (of_client b.client l)) (sym cut)
        ∙ ap (λ (x : ℕ). length (of_client x longer)) (sym (same ∙ mine))
    | inr other ↦
        set_else agenda.joined slot k (slice_index_or agenda.joined slot 0 + 1) 0 other
        ∙ h.counts k below
        ∙ ap length (sym (of_client-other k joined b (λ e. other (sym (mine ∙ e)))))
        ∙ ap (λ (l : List Batch). length (of_client k l)) (sym cut)
  ];
  bases = λ k t there. elim (cases_eq k slot) [
    | inl same ↦
        let one : slice_get tails slot ≡ Some t = sym (ap (slice_get tails) same) ∙ there in
        let tail_same : tail ≡ t = cc in
        set_here agenda.bases slot k base None within_bases same ∙ is ∙ ap (λ (x : Tail). next_base batches longer x slot) tail_same ∙ ap (λ (x : ℕ). next_base batches longer t x) (sym same)
    | inr other ↦
        set_else agenda.bases slot k base None other ∙ h.bases k t there
        ∙ next_other batches joined b t k (λ e. other (sym (mine ∙ e)))
        ∙ ap (λ (l : List Batch). next_base batches l t k) (sym cut)
  ];
}
