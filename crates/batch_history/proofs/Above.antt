-- A base above the place of its client's round before, and one that knows all its client's batches.
use Rattle.std.proofs.Common.{arith, ◌≡◌, ℕ, zero, suc, ◌+◌, ◌≤◌, ◌<◌, List, [], ◌∷◌, ◌++◌, length, drop, take, refl, sym, ap, subst, ◌∙◌, Some, inl, inr, append-nil}
use Rattle.std.specs.Prelude.{slice_get}
use Rattle.std.proofs.lemmas.Bool.{cases_eq, cases_lt}
use Rattle.std.proofs.lemmas.List.{take-append-drop, length-append, append_assoc}
use Rattle.cloud_base.specs.declared.batch.Batch.{Batch}
use Rattle.batch_history.specs.Batches.{of_client}
use Rattle.batch_history.specs.Sound.{FitsBehind, EachFrom}
use Rattle.batch_history.proofs.Clients.{of_client-append, of_client-here, of_client-else}

-- a batch of c at or above a place is one of those from that place on
one_dropped : (front : List Batch) (c n place : ℕ) (b : Batch) → slice_get front place ≡ Some b → b.client ≡ c → n ≤ place → 0 < length (of_client c (drop n front))
one_dropped [] c n place b at mine l = cc
one_dropped (x ∷ front) c zero zero b at mine l = let same : x ≡ b = cc in
    let e : length (of_client c (x ∷ front)) ≡ suc (length (of_client c front)) = ap (λ (t : List Batch). length t) (of_client-here c x front (ap (λ (y : Batch). y.client) same ∙ mine)) in omega arith
one_dropped (x ∷ front) c zero (suc place) b at mine l =
    let more : 0 < length (of_client c front) = one_dropped front c 0 place b at mine (omega arith) in
    elim (cases_eq x.client c) [
      | inl here ↦ let e : length (of_client c (x ∷ front)) ≡ suc (length (of_client c front)) = ap (λ (t : List Batch). length t) (of_client-here c x front here) in omega arith
      | inr other ↦ let e : length (of_client c (x ∷ front)) ≡ length (of_client c front) = ap (λ (t : List Batch). length t) (of_client-else c x front other) in omega arith
    ]
one_dropped (x ∷ front) c (suc n) zero b at mine l = absurd (omega arith)
one_dropped (x ∷ front) c (suc n) (suc place) b at mine l = one_dropped front c n place b at mine (omega arith)

parts : (front : List Batch) (c n : ℕ) → length (of_client c front) ≡ length (of_client c (take n front)) + length (of_client c (drop n front))
parts front c n = ap (λ (t : List Batch). length (of_client c t)) (sym (take-append-drop n front)) ∙ ap (λ (t : List Batch). length t) (of_client-append c (take n front) (drop n front)) ∙ length-append (of_client c (take n front)) (of_client c (drop n front))

pub above_of_known : (front : List Batch) (c n : ℕ) → of_client c (take n front) ≡ of_client c front → (place : ℕ) (b : Batch) → slice_get front place ≡ Some b → b.client ≡ c → place < n
above_of_known front c n known place b at mine = elim (cases_lt place n) [
  | inl less ↦ less
  | inr more ↦
      let some : 0 < length (of_client c (drop n front)) = one_dropped front c n place b at mine more in
      let whole : length (of_client c (take n front)) ≡ length (of_client c front) = ap (λ (t : List Batch). length t) known in
      let both : length (of_client c front) ≡ length (of_client c (take n front)) + length (of_client c (drop n front)) = parts front c n in
      absurd (omega arith)
]

-- the last of c's batches, which has the last of its rounds
record Last (front rest : List Batch) (c : ℕ) : Type 0 where
  pub place : ℕ
  pub batch : Batch
  pub there : slice_get rest place ≡ Some batch
  pub mine : batch.client ≡ c
  pub round : batch.round ≡ length (of_client c front) + length (of_client c rest)

last_of : (front rest : List Batch) (c n : ℕ) → EachFrom FitsBehind front rest → length (of_client c rest) ≡ suc n → Last front rest c
last_of front [] c n each some = absurd (omega arith)
last_of front (b ∷ rest) c n each some = elim (cases_eq b.client c) [
  | inl here ↦
      let one : length (of_client c (b ∷ rest)) ≡ suc (length (of_client c rest)) = ap (λ (t : List Batch). length t) (of_client-here c b rest here) in
      let longer : length (of_client c (front ++ b ∷ [])) ≡ length (of_client c front) + 1 = ap (λ (t : List Batch). length t) (of_client-append c front (b ∷ [])) ∙ length-append (of_client c front) (of_client c (b ∷ [])) ∙ ap (λ (t : List Batch). length (of_client c front) + length t) (of_client-here c b [] here) in
      elim (of_client c rest) as (λ l. of_client c rest ≡ l → Last front (b ∷ rest) c) [
        | [] ↦ λ none. record {
          place = 0;
          batch = b;
          there = refl;
          mine = here;
          round = each.0.round ∙ ap (λ (x : ℕ). length (of_client x front) + 1) here ∙ sym (ap (λ (k : ℕ). length (of_client c front) + k) (one ∙ ap (λ (t : List Batch). suc (length t)) none));
        }
        | x ∷ more ↦ λ e.
            let later : Last (front ++ b ∷ []) rest c = last_of (front ++ b ∷ []) rest c (length more) each.1 (ap (λ (t : List Batch). length t) e) in
            let round : later.batch.round ≡ length (of_client c (front ++ b ∷ [])) + length (of_client c rest) = later.round in
            record { place = suc later.place; batch = later.batch; there = later.there; mine = later.mine; round = omega arith }
      ] refl
  | inr other ↦
      let none : of_client c (b ∷ rest) ≡ of_client c rest = of_client-else c b rest other in
      let same : of_client c (front ++ b ∷ []) ≡ of_client c front = of_client-append c front (b ∷ []) ∙ ap (λ (t : List Batch). of_client c front ++ t) (of_client-else c b [] other) ∙ append-nil (of_client c front) in
      let later : Last (front ++ b ∷ []) rest c = last_of (front ++ b ∷ []) rest c n each.1 (sym (ap (λ (t : List Batch). length t) none) ∙ some) in
      record {
        place = suc later.place;
        batch = later.batch;
        there = later.there;
        mine = later.mine;
        round = later.round ∙ ap (λ (t : List Batch). length t + length (of_client c rest)) same ∙ sym (ap (λ (t : List Batch). length (of_client c front) + length t) none);
      }
]

each_behind : (before front more : List Batch) → EachFrom FitsBehind before (front ++ more) → EachFrom FitsBehind (before ++ front) more
each_behind before [] more h = subst (λ (t : List Batch). EachFrom FitsBehind t more) (sym (append-nil before)) h
each_behind before (b ∷ front) more h = subst (λ (t : List Batch). EachFrom FitsBehind t more) (append_assoc before (b ∷ []) front) (each_behind (before ++ b ∷ []) front more h.1)

slice_dropped : (front : List Batch) (n place : ℕ) → slice_get (drop n front) place ≡ slice_get front (n + place)
slice_dropped front zero place = ap (λ (k : ℕ). slice_get front k) (omega arith)
slice_dropped [] (suc n) place = refl
slice_dropped (x ∷ front) (suc n) place = let further : suc (n + place) ≡ suc n + place = omega arith in slice_dropped front n place ∙ ap (λ (k : ℕ). slice_get (x ∷ front) k) further

pub known_of_above : (front : List Batch) (c round n : ℕ) → EachFrom FitsBehind [] front → round ≡ length (of_client c front) + 1 → ((place : ℕ) (b : Batch) → slice_get front place ≡ Some b → b.client ≡ c → b.round + 1 ≡ round → place < n) → of_client c (take n front) ≡ of_client c front
known_of_above front c round n each next above = elim (of_client c (drop n front)) as (λ l. of_client c (drop n front) ≡ l → of_client c (take n front) ≡ of_client c front) [
  | [] ↦ λ none. sym (ap (λ (t : List Batch). of_client c t) (sym (take-append-drop n front)) ∙ of_client-append c (take n front) (drop n front) ∙ ap (λ (t : List Batch). of_client c (take n front) ++ t) none ∙ append-nil (of_client c (take n front)))
  | x ∷ more ↦ λ e.
      let last : Last (take n front) (drop n front) c = last_of (take n front) (drop n front) c (length more)
      (each_behind [] (take n front) (drop n front) (subst (λ (t : List Batch). EachFrom FitsBehind [] t) (sym (take-append-drop n front)) each)) (ap (λ (t : List Batch). length t) e) in
      let both : length (of_client c front) ≡ length (of_client c (take n front)) + length (of_client c (drop n front)) = parts front c n in
      let rounds : last.batch.round ≡ length (of_client c (take n front)) + length (of_client c (drop n front)) = last.round in
      let less : n + last.place < n = above (n + last.place) last.batch (sym (slice_dropped front n last.place) ∙ last.there) last.mine (omega arith) in
      absurd (omega arith)
] refl
