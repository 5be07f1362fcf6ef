-- A client's batches in a record and in a front of it, and the ids that they create.
use Rattle.std.proofs.Common.{◌≡◌, ℕ, ◌<◌, ◌≤◌, List, [], ◌∷◌, ◌++◌, length, take, drop, ap, sym, subst, ◌∙◌, arith, inl, inr}
use Rattle.std.specs.Prelude.{All, Contains}
use mathlib.Core.List.{IsPrefix}
use Rattle.std.proofs.lemmas.Bool.{cases_eq, cases_lt}
use Rattle.std.proofs.lemmas.List.{take-append-drop, length-take-le}
use Rattle.std.proofs.lemmas.List.Elements.{Contains-append_left, Contains-append_right, Contains-append_cases, All-contains, All-append}
use Rattle.cloud_base.specs.Alike.{IsPart}
use Rattle.cloud_base.specs.Log.{created}
use Rattle.cloud_base.specs.Shaped.{CreatedOnce, Fit, IsShaped}
use Rattle.cloud_base.specs.Values.{Id}
use Rattle.cloud_base.specs.declared.batch.Batch.{Batch}
use Rattle.cloud_base.specs.declared.schema.Schema.{Schema}
use Rattle.cloud_base.specs.declared.update.Update.{Update}
use Rattle.cloud_base.proofs.LogLemmas.{part_append, part_left, part_right, created_parts, created_once_parts, parts_created_once}
use Rattle.cloud_base.proofs.SortedLemmas.{none_in, split_member}
use Rattle.batch_history.specs.Batches.{updates_in, flat, of_client}
use Rattle.batch_history.specs.Sound.{EachFrom, FitsBehind, CreatedBy, SoundBatches}
use Rattle.batch_history.proofs.Clients.{of_client-append, of_client-here, of_client-else}
use Rattle.batch_history.proofs.Fronts.{flat_front, flat_all}
use Rattle.batch_joins.specs.Joins.{all_updates}
use Rattle.batch_joins.proofs.Prefixes.{prefix_shorter, prefix_whole, prefix_length, prefix_take}

pub own_prefix : (c : ℕ) (front whole : List Batch) → IsPrefix front whole → IsPrefix (of_client c front) (of_client c whole)
own_prefix c front whole p = (of_client c p.0, sym (of_client-append c front p.0) ∙ ap (λ (t : List Batch). of_client c t) p.1)

-- the front with more of a client's batches is the longer
pub more_own : (c : ℕ) (front other whole : List Batch) → IsPrefix front whole → IsPrefix other whole → length (of_client c front) < length (of_client c other) → IsPrefix front other
more_own c front other whole p q fewer = elim (cases_lt (length other) (length front)) [
  | inl less ↦
      let back : IsPrefix other front = prefix_shorter other front whole q p (omega arith) in
      let few = prefix_length (of_client c other) (of_client c front) (own_prefix c other front back) in
      absurd (omega arith)
  | inr le ↦ prefix_shorter front other whole p q le
]

-- a front with as many of a client's batches as the whole has all of them
pub all_own : (c : ℕ) (front whole : List Batch) → IsPrefix front whole → length (of_client c whole) ≤ length (of_client c front) → of_client c front ≡ of_client c whole
all_own c front whole p le = prefix_whole (of_client c front) (of_client c whole) (own_prefix c front whole p) le

pub front_part : (front whole : List Batch) → IsPrefix front whole → IsPart (all_updates front) (all_updates whole)
front_part front whole p =
    let parts : all_updates front ++ all_updates p.0 ≡ all_updates whole = sym (flat_all front p.0) ∙ ap all_updates p.1 in
    subst (IsPart (all_updates front)) parts (part_left (all_updates front) (all_updates p.0))

pub batch_part : (whole : List Batch) (b : Batch) → Contains whole b → IsPart (updates_in b) (all_updates whole)
batch_part [] b h = absurd (none_in b h)
batch_part (x ∷ whole) b h = elim (split_member x b whole h) [
  | inl e ↦ subst (λ (y : Batch). IsPart (updates_in b) (updates_in y ++ all_updates whole)) (sym e) (part_left (updates_in b) (all_updates whole))
  | inr m ↦ λ u k. part_right (updates_in x) (all_updates whole) u (batch_part whole b m u k)
]

-- what a client had seen, and a batch of the record, are part of the record
pub pulled_part : (front whole : List Batch) (b : Batch) → IsPrefix front whole → Contains whole b → IsPart (all_updates front ++ updates_in b) (all_updates whole)
pulled_part front whole b p h = part_append (all_updates front) (updates_in b) (all_updates whole) (front_part front whole p) (batch_part whole b h)

-- and so is what is below a base
pub based_part : (front whole : List Batch) (n : ℕ) → IsPrefix front whole → n ≤ length front → IsPart (flat front n) (all_updates whole)
based_part front whole n p le =
    let below = take n front in
    let count : length below ≡ n = length-take-le n front le in
    let cut : flat front n ≡ all_updates below = ap (λ (l : List Batch). flat l n) (sym (take-append-drop n front)) ∙ flat_front below (drop n front) n (omega arith) ∙ ap (λ (k : ℕ). flat below k) (sym count) in
    subst (λ (l : List Update). IsPart l (all_updates whole)) (sym cut) (λ u h. front_part front whole p u (front_part below front (prefix_take n front) u h))

-- an id that is a client's is created in one of its batches
own_created : (c : ℕ) (before whole : List Batch) → EachFrom FitsBehind before whole → (id : Id) → id.client ≡ c → Contains (created (all_updates whole)) id → Contains (created (all_updates (of_client c whole))) id
own_created c before [] each id mine h = absurd (none_in id h)
own_created c before (b ∷ whole) each id mine h =
    let parts = subst (λ (l : List Id). Contains l id) (created_parts (updates_in b) (all_updates whole)) h in
    let split = Contains-append_cases (created (updates_in b)) (created (all_updates whole)) id parts in
    let further : Contains (created (all_updates whole)) id → Contains (created (all_updates (of_client c whole))) id = own_created c (before ++ b ∷ []) whole each.1 id mine in
    elim (cases_eq b.client c) [
      | inl here ↦
          let first = created (updates_in b) in
          let rest = created (all_updates (of_client c whole)) in
          let both : Contains (first ++ rest) id = elim split [ inl m ↦ Contains-append_left first rest id m | inr m ↦ Contains-append_right first rest id (further m) ] in
          subst (λ (l : List Batch). Contains (created (all_updates l)) id) (sym (of_client-here c b whole here))
          (subst (λ (l : List Id). Contains l id) (sym (created_parts (updates_in b) (all_updates (of_client c whole)))) both)
      | inr other ↦
          subst (λ (l : List Batch). Contains (created (all_updates l)) id) (sym (of_client-else c b whole other))
          (elim split [
            | inl m ↦ absurd (other (sym (All-contains (λ (i : Id). i.client ≡ b.client) (created (updates_in b)) id each.0.own m) ∙ mine))
            | inr m ↦ further m
          ])
    ]

-- what a client creates behind its own batches is created nowhere in the record
pub joined_once : (c : ℕ) (whole : List Batch) (more : List Update) → SoundBatches whole → CreatedBy c more → CreatedOnce (all_updates (of_client c whole) ++ more) → CreatedOnce (all_updates whole ++ more)
joined_once c whole more sound mine once =
    let parts = created_once_parts (all_updates (of_client c whole)) more once in
    parts_created_once (all_updates whole) more sound.once parts.1
    (λ id h k. parts.2 id (own_created c [] whole sound.each id (All-contains (λ (i : Id). i.client ≡ c) (created more) id mine k) h) k)

pub joined_fit : (schema : Schema) (c : ℕ) (whole : List Batch) (more : List Update) → SoundBatches whole → Fit schema (all_updates whole) → All (IsShaped schema) more → CreatedBy c more → CreatedOnce (all_updates (of_client c whole) ++ more) → Fit schema (all_updates whole ++ more)
joined_fit schema c whole more sound fit shaped mine once = record {
  shaped = All-append (IsShaped schema) (all_updates whole) more fit.shaped shaped;
  once = joined_once c whole more sound mine once;
}
