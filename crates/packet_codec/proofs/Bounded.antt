-- Records within the bounds, client by client.
use Rattle.std.proofs.Common.{◌≡◌, refl, sym, ◌∙◌, ap, subst, ℕ, zero, suc, ◌+◌, ◌*◌, ◌^◌, ◌<◌, ◌≤◌, List, [], ◌∷◌, ◌++◌, length, take, drop, inl, inr, append-nil, arith}
use Rattle.std.specs.Prelude.{◌⊎◌, sum_by}
use Rattle.std.specs.List.{AllByRecursion}
use Rattle.std.proofs.lemmas.Bool.{cases_eq}
use Rattle.std.proofs.lemmas.List.{length-append, take-append-drop, length-take-le}
use Rattle.std.proofs.lemmas.List.Sums.{sum_by-cons}
use mathlib.Core.List.{IsPrefix}
use Rattle.cloud_base.specs.Values.{most_clients}
use Rattle.cloud_base.specs.declared.batch.Batch.{Batch}
use Rattle.batch_history.specs.Batches.{updates_in, flat, of_client}
use Rattle.batch_history.proofs.Clients.{of_client-here, of_client-else, of_client-last, of_client-other}
use Rattle.batch_history.proofs.Fronts.{flat_front, flat_all}
use Rattle.batch_joins.specs.Joins.{all_updates, Follows}
use Rattle.batch_joins.proofs.Own.{own_prefix}
use Rattle.batch_joins.proofs.Prefixes.{prefix_length, prefix_take}
use Rattle.packet_codec.specs.Served.{IsWithin}

-- ---- sums over clients

-- f 0 + .. + f (n - 1)
abbrev total : (ℕ → ℕ) → ℕ → ℕ
total f zero = 0
total f (suc n) = total f n + f n

total_nothing : (n : ℕ) → total (λ c. 0) n ≡ 0
total_nothing zero = refl
total_nothing (suc n) = let h = total_nothing n in omega arith

module _ (weight : Batch → ℕ) where
  -- what each client's batches weigh
  abbrev weights : List Batch → ℕ → ℕ
  weights batches c = sum_by weight (of_client c batches)

  weight_here : (c : ℕ) (b : Batch) (rest : List Batch) → b.client ≡ c → weights (b ∷ rest) c ≡ weight b + weights rest c
  weight_here c b rest e = ap (sum_by weight) (of_client-here c b rest e) ∙ sum_by-cons weight b (of_client c rest)

  weight_else : (c : ℕ) (b : Batch) (rest : List Batch) → (b.client ≡ c → ⊥) → weights (b ∷ rest) c ≡ weights rest c
  weight_else c b rest n = ap (sum_by weight) (of_client-else c b rest n)

  -- a batch counts for its own client alone
  total_below : (n : ℕ) (b : Batch) (rest : List Batch) → n ≤ b.client → total (weights (b ∷ rest)) n ≡ total (weights rest) n
  total_below zero b rest le = refl
  total_below (suc n) b rest le =
      let before = total_below n b rest (omega arith) in
      let same = weight_else n b rest (λ e. omega arith) in
      omega arith

  total_with : (n : ℕ) (b : Batch) (rest : List Batch) → b.client < n → total (weights (b ∷ rest)) n ≡ weight b + total (weights rest) n
  total_with zero b rest lt = absurd (omega arith)
  total_with (suc n) b rest lt = elim (cases_eq b.client n) [
    | inl e ↦
        let before = total_below n b rest (omega arith) in
        let here = weight_here n b rest e in
        omega arith
    | inr other ↦
        let before = total_with n b rest (omega arith) in
        let same = weight_else n b rest other in
        omega arith
  ]

  -- all batches weigh what those of each client do
  by_client : (n : ℕ) (batches : List Batch) → AllByRecursion (λ (b : Batch). b.client < n) batches → sum_by weight batches ≡ total (weights batches) n
  by_client n [] all = sym (total_nothing n)
  by_client n (b ∷ rest) all =
      let first = sum_by-cons weight b rest in
      let further = by_client n rest all.1 in
      let split = total_with n b rest all.0 in
      omega arith

abbrev updates_of_one : Batch → ℕ
updates_of_one b = length (updates_in b)

abbrev one : Batch → ℕ
one b = 1

updates_summed : (batches : List Batch) → length (all_updates batches) ≡ sum_by updates_of_one batches
updates_summed [] = refl
updates_summed (b ∷ rest) =
    let parts = length-append (updates_in b) (all_updates rest) in
    let first = sum_by-cons updates_of_one b rest in
    let further = updates_summed rest in
    omega arith

batches_summed : (batches : List Batch) → length batches ≡ sum_by one batches
batches_summed [] = refl
batches_summed (b ∷ rest) =
    let first = sum_by-cons one b rest in
    let further = batches_summed rest in
    omega arith

total_of_eight : (f : ℕ → ℕ) (most : ℕ) → ((c : ℕ) → f c ≤ most) → total f most_clients ≤ 8 * most
total_of_eight f most le =
    let l0 = le 0 in let l1 = le 1 in let l2 = le 2 in let l3 = le 3 in
    let l4 = le 4 in let l5 = le 5 in let l6 = le 6 in let l7 = le 7 in
    omega arith

pub few_updates : (batches : List Batch) → IsWithin batches → length (all_updates batches) < 2 ^ 31
few_updates batches within =
    let each : (c : ℕ) → weights updates_of_one batches c ≤ 268435455 =
    λ c. let few = within.updates c in let sum = updates_summed (of_client c batches) in omega arith in
    let all = updates_summed batches in
    let split = by_client updates_of_one most_clients batches within.clients in
    let most = total_of_eight (weights updates_of_one batches) 268435455 each in
    omega arith

pub few_batches : (batches : List Batch) → IsWithin batches → length batches ≤ 2 ^ 35
few_batches batches within =
    let each : (c : ℕ) → weights one batches c ≤ 4294967296 =
    λ c. let few = within.rounds c in let sum = batches_summed (of_client c batches) in omega arith in
    let all = batches_summed batches in
    let split = by_client one most_clients batches within.clients in
    let most = total_of_eight (weights one batches) 4294967296 each in
    omega arith

-- ---- fronts, and one batch more

all_front : {A : Type 0} (P : A → Type 0) (xs ys : List A) → AllByRecursion P (xs ++ ys) → AllByRecursion P xs
all_front P [] ys all = tt
all_front P (x ∷ xs) ys all = (all.0, all_front P xs ys all.1)

pub all_last : {A : Type 0} (P : A → Type 0) (xs : List A) (x : A) → AllByRecursion P (xs ++ x ∷ []) → P x
all_last P [] x all = all.0
all_last P (y ∷ xs) x all = all_last P xs x all.1

pub all_more : {A : Type 0} (P : A → Type 0) (xs : List A) (x : A) → AllByRecursion P xs → P x → AllByRecursion P (xs ++ x ∷ [])
all_more P [] x all last = (last, tt)
all_more P (y ∷ xs) x all last = (all.0, all_more P xs x all.1 last)

fewer_updates : (front batches : List Batch) → IsPrefix front batches → length (all_updates front) ≤ length (all_updates batches)
fewer_updates front batches p =
    let parts = sym (ap (λ (l : List Batch). length (all_updates l)) p.1) ∙ ap length (flat_all front p.0) ∙ length-append (all_updates front) (all_updates p.0) in
    omega arith

pub within_front : (front batches : List Batch) → IsPrefix front batches → IsWithin batches → IsWithin front
within_front front batches p within = record {
  clients = all_front (λ (b : Batch). b.client < most_clients) front p.0 (subst (AllByRecursion (λ (b : Batch). b.client < most_clients)) (sym p.1) within.clients);
  rounds = λ c. let few = within.rounds c in let fewer = prefix_length (of_client c front) (of_client c batches) (own_prefix c front batches p) in omega arith;
  updates = λ c. let few = within.updates c in let fewer = fewer_updates (of_client c front) (of_client c batches) (own_prefix c front batches p) in omega arith;
}

-- a list of one client's batches has only these of that client, and none of another
pub of_client-own : (c : ℕ) (own : List Batch) → AllByRecursion (λ (b : Batch). b.client ≡ c) own → of_client c own ≡ own
of_client-own c [] all = refl
of_client-own c (b ∷ own) all = of_client-here c b own all.0 ∙ ap (λ (l : List Batch). b ∷ l) (of_client-own c own all.1)

of_client-none : (c d : ℕ) (own : List Batch) → AllByRecursion (λ (b : Batch). b.client ≡ c) own → (c ≡ d → ⊥) → of_client d own ≡ []
of_client-none c d [] all other = refl
of_client-none c d (b ∷ own) all other = of_client-else d b own (λ e. other (sym all.0 ∙ e)) ∙ of_client-none c d own all.1 other

pub all_of_client : (c : ℕ) (batches : List Batch) → AllByRecursion (λ (b : Batch). b.client ≡ c) (of_client c batches)
all_of_client c [] = tt
all_of_client c (b ∷ rest) =
    let All : List Batch → Type 0 = AllByRecursion (λ (x : Batch). x.client ≡ c) in
    elim (cases_eq b.client c) [
      | inl e ↦ subst All (sym (of_client-here c b rest e)) (e, all_of_client c rest)
      | inr other ↦ subst All (sym (of_client-else c b rest other)) (all_of_client c rest)
    ]

all_below : (c n : ℕ) (own : List Batch) → c < n → AllByRecursion (λ (b : Batch). b.client ≡ c) own → AllByRecursion (λ (b : Batch). b.client < n) own
all_below c n [] lt all = tt
all_below c n (b ∷ own) lt all = (let e : b.client ≡ c = all.0 in omega arith, all_below c n own lt all.1)

pub within_own : (c : ℕ) (own : List Batch) → c < most_clients → AllByRecursion (λ (b : Batch). b.client ≡ c) own → length own ≤ 2 ^ 32 → length (all_updates own) < 2 ^ 28 → IsWithin own
within_own c own below all rounds updates =
    let P : List Batch → Type 0 = λ l. (length l ≤ 2 ^ 32) × (length (all_updates l) < 2 ^ 28) in
    let of_each : (d : ℕ) → P (of_client d own) = λ d. elim (cases_eq c d) [
      | inl e ↦ subst P (sym (ap (λ k. of_client k own) (sym e) ∙ of_client-own c own all)) (rounds, updates)
      | inr other ↦ subst P (sym (of_client-none c d own all other)) (omega arith, omega arith)
    ] in
    record { clients = all_below c most_clients own below all; rounds = λ d. (of_each d).0; updates = λ d. (of_each d).1 }

pub within_joined : (batches own : List Batch) (b : Batch) → IsWithin batches → IsWithin own → of_client b.client (batches ++ b ∷ []) ≡ own → IsWithin (batches ++ b ∷ [])
within_joined batches own b within mine is =
    let c = b.client in
    let again : of_client c own ≡ own = of_client-own c own (subst (AllByRecursion (λ (x : Batch). x.client ≡ c)) is (all_of_client c (batches ++ b ∷ []))) in
    let last : own ≡ of_client c batches ++ b ∷ [] = sym is ∙ of_client-last batches b in
    let below : c < most_clients = all_last (λ (x : Batch). x.client < most_clients) (of_client c batches) b (subst (AllByRecursion (λ (x : Batch). x.client < most_clients)) last mine.clients) in
    let P : List Batch → Type 0 = λ l. (length l ≤ 2 ^ 32) × (length (all_updates l) < 2 ^ 28) in
    let of_each : (d : ℕ) → P (of_client d (batches ++ b ∷ [])) = λ d. elim (cases_eq c d) [
      | inl e ↦ subst P (again ∙ sym is ∙ ap (λ k. of_client k (batches ++ b ∷ [])) e) (mine.rounds c, mine.updates c)
      | inr other ↦ subst P (sym (of_client-other d batches b other)) (within.rounds d, within.updates d)
    ] in
    record {
      clients = all_more (λ (x : Batch). x.client < most_clients) batches b within.clients below;
      rounds = λ d. (of_each d).0;
      updates = λ d. (of_each d).1;
    }

-- ---- a push

-- the updates below a base are those of the batches below it
pub below_base : (past : List Batch) (base : ℕ) → base ≤ length past → flat past base ≡ all_updates (take base past)
below_base past base le =
    let below = take base past in
    let count : length below ≡ base = length-take-le base past le in
    ap (λ (l : List Batch). flat l base) (sym (take-append-drop base past)) ∙ flat_front below (drop base past) base (omega arith) ∙ ap (λ (k : ℕ). flat below k) (sym count)

-- what a client had seen below its base, and its batch after it
pub seen_updates : (past : List Batch) (b : Batch) → b.base ≤ length past → all_updates (take b.base past ++ b ∷ []) ≡ flat past b.base ++ updates_in b
seen_updates past b le =
    flat_all (take b.base past) (b ∷ [])
    ∙ ap (λ l. l ++ (updates_in b ++ [])) (sym (below_base past b.base le))
    ∙ ap (λ l. flat past b.base ++ l) (append-nil (updates_in b))

pub few_seen : (past own : List Batch) (b : Batch) → Follows past own b → IsWithin past → IsWithin own → length (flat past b.base ++ updates_in b) < 2 ^ 31
few_seen past own b follows within mine =
    let below = within_front (take b.base past) past (prefix_take b.base past) within in
    let joined = within_joined (take b.base past) own b below mine (of_client-last (take b.base past) b ∙ sym follows.last) in
    subst (λ l. length l < 2 ^ 31) (seen_updates past b follows.base) (few_updates (take b.base past ++ b ∷ []) joined)
