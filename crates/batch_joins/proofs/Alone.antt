-- A client's batches in a sound record, by themselves.
use Rattle.std.proofs.Common.{◌≡◌, refl, sym, ◌∙◌, ap, subst, ℕ, ◌+◌, ◌<◌, ◌≤◌, List, [], ◌∷◌, ◌++◌, length, take, drop, inl, inr, append-nil, append_assoc, arith}
use Rattle.std.specs.Prelude.{Contains}
use Rattle.std.specs.List.{AllByRecursion}
use Rattle.std.proofs.lemmas.Bool.{cases_eq}
use Rattle.std.proofs.lemmas.List.{length-append, take-append-drop, take-append-le, length-take-le}
use Rattle.std.proofs.lemmas.List.Elements.{Contains-append_left, Contains-append_right, Contains-append_cases}
use Rattle.cloud_base.specs.Events.{updates_of}
use Rattle.cloud_base.specs.Log.{created}
use Rattle.cloud_base.specs.Shaped.{CreatedOnce}
use Rattle.cloud_base.specs.Values.{Id}
use Rattle.cloud_base.specs.declared.batch.Batch.{Batch}
use Rattle.cloud_base.specs.declared.update.Answer.{Answer}
use Rattle.cloud_base.specs.declared.update.Query.{Query}
use Rattle.cloud_base.specs.declared.update.Update.{Update}
use Rattle.cloud_base.proofs.LogLemmas.{created_parts, created_once_parts, parts_created_once}
use Rattle.batch_history.specs.Batches.{updates_in, flat, of_client, seen_after, last_seen}
use Rattle.batch_history.specs.Right.{IsThatOf, RightEvents, RightBehind, RightBatches}
use Rattle.batch_history.specs.Sound.{EachFrom, FitsBehind, CreatedBy, SoundBatches}
use Rattle.batch_history.proofs.Clients.{of_client-here, of_client-else, of_client-last, of_client-other}
use Rattle.batch_history.proofs.Fronts.{flat_front, each_front}
use Rattle.batch_joins.specs.Joins.{all_updates, FitsAlone, RightOwn}

-- ---- each fits behind those before it

fits_alone : (before : List Batch) (b : Batch) → FitsBehind before b → FitsAlone (of_client b.client before) b
fits_alone before b fits = record {
  round = fits.round;
  opens = fits.opens;
  first = fits.first;
  before = fits.before;
  rest = fits.rest;
  mine = fits.own;
}

each_alone : (c : ℕ) (before rest : List Batch) → EachFrom FitsBehind before rest → EachFrom FitsAlone (of_client c before) (of_client c rest)
each_alone c before [] each = tt
each_alone c before (b ∷ rest) each =
    let further = each_alone c (before ++ b ∷ []) rest each.1 in
    elim (cases_eq b.client c) [
      | inl e ↦
          let fits : FitsAlone (of_client c before) b = subst (λ k. FitsAlone (of_client k before) b) e (fits_alone before b each.0) in
          let last : of_client c (before ++ b ∷ []) ≡ of_client c before ++ b ∷ [] = subst (λ k. of_client k (before ++ b ∷ []) ≡ of_client k before ++ b ∷ []) e (of_client-last before b) in
          subst (EachFrom FitsAlone (of_client c before)) (sym (of_client-here c b rest e)) (fits, subst (λ l. EachFrom FitsAlone l (of_client c rest)) last further)
      | inr other ↦
          subst (EachFrom FitsAlone (of_client c before)) (sym (of_client-else c b rest other)) (subst (λ l. EachFrom FitsAlone l (of_client c rest)) (of_client-other c before b other) further)
    ]

pub own_fit_alone : (c : ℕ) (batches : List Batch) → SoundBatches batches → EachFrom FitsAlone [] (of_client c batches)
own_fit_alone c batches sound = each_alone c [] batches sound.each

-- ---- they create no id twice

own_creates : (c : ℕ) (batches : List Batch) (id : Id) → Contains (created (all_updates (of_client c batches))) id → Contains (created (all_updates batches)) id
own_creates c [] id h = h
own_creates c (b ∷ rest) id h =
    let first = created (updates_in b) in
    let others = created (all_updates rest) in
    let Here : List Update → Type 0 = λ l. Contains (created l) id in
    let both : Contains (first ++ others) id → Here (all_updates (b ∷ rest)) = λ k. subst (λ l. Contains l id) (sym (created_parts (updates_in b) (all_updates rest))) k in
    elim (cases_eq b.client c) [
      | inl e ↦
          let own = created (all_updates (of_client c rest)) in
          let split : Contains (first ++ own) id = subst (λ l. Contains l id) (created_parts (updates_in b) (all_updates (of_client c rest))) (subst (λ l. Here (all_updates l)) (of_client-here c b rest e) h) in
          both (elim (Contains-append_cases first own id split) [
            | inl m ↦ Contains-append_left first others id m
            | inr m ↦ Contains-append_right first others id (own_creates c rest id m)
          ])
      | inr other ↦ both (Contains-append_right first others id (own_creates c rest id (subst (λ l. Here (all_updates l)) (of_client-else c b rest other) h)))
    ]

own_once : (c : ℕ) (batches : List Batch) → CreatedOnce (all_updates batches) → CreatedOnce (all_updates (of_client c batches))
own_once c [] once = once
own_once c (b ∷ rest) once =
    let parts = created_once_parts (updates_in b) (all_updates rest) once in
    let further = own_once c rest parts.1 in
    elim (cases_eq b.client c) [
      | inl e ↦ subst (λ l. CreatedOnce (all_updates l)) (sym (of_client-here c b rest e)) (parts_created_once (updates_in b) (all_updates (of_client c rest)) parts.0 further (λ id h k. parts.2 id h (own_creates c rest id k)))
      | inr other ↦ subst (λ l. CreatedOnce (all_updates l)) (sym (of_client-else c b rest other)) further
    ]

pub own_created_once : (c : ℕ) (batches : List Batch) → SoundBatches batches → CreatedOnce (all_updates (of_client c batches))
own_created_once c batches sound = own_once c batches sound.once

-- ---- and are answered right

-- what a client has seen is told by a front that has the bases of its batches
last_seen_same : (front more : List Batch) (seen : List Update) (own : List Batch) → AllByRecursion (λ (b : Batch). b.base ≤ length front) own → last_seen (front ++ more) seen own ≡ last_seen front seen own
last_seen_same front more seen [] all = refl
last_seen_same front more seen (b ∷ own) all =
    ap (λ l. last_seen (front ++ more) (l ++ updates_in b) own) (flat_front front more b.base all.0) ∙ last_seen_same front more (seen_after front b) own all.1

bases_below : (c : ℕ) (before rest : List Batch) (n : ℕ) → EachFrom FitsBehind before rest → length before + length rest ≤ n → AllByRecursion (λ (b : Batch). b.base ≤ n) (of_client c rest)
bases_below c before [] n each few = tt
bases_below c before (b ∷ rest) n each few =
    let longer : length (before ++ b ∷ []) ≡ length before + 1 = length-append before (b ∷ []) in
    let further = bases_below c (before ++ b ∷ []) rest n each.1 (omega arith) in
    let base : b.base ≤ length before = each.0.base in
    elim (cases_eq b.client c) [
      | inl e ↦ subst (AllByRecursion (λ (x : Batch). x.base ≤ n)) (sym (of_client-here c b rest e)) (omega arith, further)
      | inr other ↦ subst (AllByRecursion (λ (x : Batch). x.base ≤ n)) (sym (of_client-else c b rest other)) further
    ]

module _ (is_answer : List Update → Query → Answer → Type 0) where
  -- what is right behind all before is right behind what is below the base
  right_below : (before more : List Batch) (b : Batch) → EachFrom FitsBehind [] before → FitsBehind before b → RightBehind is_answer before b → RightBehind is_answer (take b.base (before ++ more)) b
  right_below before more b each fits right =
      let seen = take b.base before in
      let rest = drop b.base before in
      let whole : seen ++ rest ≡ before = take-append-drop b.base before in
      let count : length seen ≡ b.base = length-take-le b.base before fits.base in
      let early : EachFrom FitsBehind [] seen = each_front FitsBehind [] seen rest (subst (EachFrom FitsBehind []) (sym whole) each) in
      let bases = bases_below b.client [] seen (length seen) early (omega arith) in
      let until : last_seen before [] (of_client b.client before) ≡ last_seen seen [] (of_client b.client seen) =
      ap (λ (l : List Batch). last_seen before [] l) (sym fits.known)
      ∙ ap (λ (l : List Batch). last_seen l [] (of_client b.client seen)) (sym whole)
      ∙ last_seen_same seen rest [] (of_client b.client seen) bases in
      let since : flat before b.base ≡ flat seen b.base = ap (λ (l : List Batch). flat l b.base) (sym whole) ∙ flat_front seen rest b.base (omega arith) in
      let below : RightBehind is_answer seen b = record {
        before = subst (λ (l : List Update). RightEvents is_answer l b.before) until right.before;
        rest = subst (λ (l : List Update). RightEvents is_answer (l ++ updates_of b.before) b.rest) since right.rest;
      } in
      subst (λ (l : List Batch). RightBehind is_answer l b) (sym (take-append-le b.base before more fits.base)) below

  right_each : (c : ℕ) (before rest : List Batch) → EachFrom FitsBehind [] (before ++ rest) → EachFrom FitsBehind before rest → EachFrom (RightBehind is_answer) before rest → AllByRecursion (λ (b : Batch). RightBehind is_answer (take b.base (before ++ rest)) b) (of_client c rest)
  right_each c before [] whole each right = tt
  right_each c before (b ∷ rest) whole each right =
      let Right : List Batch → List Batch → Type 0 = λ l own. AllByRecursion (λ (x : Batch). RightBehind is_answer (take x.base l) x) own in
      let moved : (before ++ b ∷ []) ++ rest ≡ before ++ b ∷ rest = append_assoc before (b ∷ []) rest in
      let further : Right (before ++ b ∷ rest) (of_client c rest) = subst (λ l. Right l (of_client c rest)) moved (right_each c (before ++ b ∷ []) rest (subst (EachFrom FitsBehind []) (sym moved) whole) each.1 right.1) in
      elim (cases_eq b.client c) [
        | inl e ↦ subst (Right (before ++ b ∷ rest)) (sym (of_client-here c b rest e)) (right_below before (b ∷ rest) b (each_front FitsBehind [] before (b ∷ rest) whole) each.0 right.0, further)
        | inr other ↦ subst (Right (before ++ b ∷ rest)) (sym (of_client-else c b rest other)) further
      ]

  pub own_right : (c : ℕ) (batches : List Batch) → SoundBatches batches → RightBatches is_answer batches → RightOwn is_answer batches (of_client c batches)
  own_right c batches sound right = right_each c [] batches sound.each sound.each right
