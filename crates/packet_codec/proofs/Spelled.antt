-- What a client may push, and what a record comes to, are packets for the schema, and short enough to be written.
use Rattle.std.proofs.Common.{◌≡◌, refl, sym, ◌∙◌, ap, subst, ℕ, ◌+◌, ◌^◌, ◌<◌, ◌≤◌, true, List, [], ◌∷◌, ◌++◌, length, take, drop, append-nil, inl, inr, arith}
use Rattle.std.specs.Prelude.{All}
use Rattle.std.specs.Cmp.{IsTotalOrder}
use Rattle.std.specs.Ordering.{is_eq}
use Rattle.std.proofs.lemmas.Bool.{cases_eq}
use Rattle.std.proofs.lemmas.List.{length-append, take-append-drop}
use Rattle.std.specs.List.{AllByRecursion}
use Rattle.std.proofs.lemmas.List.Elements.{All-tail}
use Rattle.cloud_base.specs.Shaped.{Fit, IsShaped}
use Rattle.cloud_base.specs.Values.{most_clients}
use Rattle.cloud_base.specs.declared.batch.Batch.{Batch}
use Rattle.cloud_base.specs.declared.schema.Schema.{Schema}
use Rattle.cloud_base.proofs.LogLemmas.{fit_front}
use Rattle.batch_history.specs.Batches.{updates_in, flat, of_client}
use Rattle.batch_history.proofs.Clients.{of_client-here, of_client-else}
use Rattle.batch_history.proofs.Fronts.{flat_all}
use Rattle.batch_joins.specs.Joins.{all_updates}
use Rattle.batch_joins.proofs.Joined.{alone}
use Rattle.fj_array.specs.declared.cell.Cell.{Cell}
use Rattle.fj_array.specs.Cells.{cell_order}
use Rattle.change_lists.specs.Effects.{IsEffect}
use Rattle.change_lists.specs.Images.{IsImage}
use Rattle.change_lists.specs.Lists.{ChangeLists, ImageLists}
use Rattle.packet_bytes.specs.Spelling.{IsHeader, IsPacketOf}
use Rattle.packet_bytes.specs.declared.wire.Wire.TheVariants.{Push, Reply}
use Rattle.packet_codec.specs.Pushes.{MayPush}
use Rattle.packet_codec.specs.Replies.{MayReply}
use Rattle.packet_codec.proofs.Bounded.{few_updates, few_batches, few_seen, below_base, all_last}
use Rattle.packet_codec.proofs.Counted.{few_told, few_held}
use Rattle.packet_codec.proofs.Shaped.{change_is_of, image_is_of}

pub all_behind : {A : Type 0} (P : A → Type 0) (xs ys : List A) → All P (xs ++ ys) → All P ys
all_behind P [] ys all = all
all_behind P (x ∷ xs) ys all = all_behind P xs ys (All-tail P x (xs ++ ys) all)

-- what its client had seen below its base is of the schema
seen_shaped : (schema : Schema) (past own : List Batch) (b : Batch) → MayPush schema past own b → All (IsShaped schema) (flat past b.base)
seen_shaped schema past own b may =
    let below = take b.base past in
    let rest = drop b.base past in
    let parts : all_updates past ≡ all_updates below ++ all_updates rest = ap all_updates (sym (take-append-drop b.base past)) ∙ flat_all below rest in
    let fits = fit_front schema (all_updates below) (all_updates rest) (subst (Fit schema) parts may.past_fits) in
    subst (All (IsShaped schema)) (sym (below_base past b.base may.follows.base)) fits.shaped

-- and so is what the batch does
pub done_shaped : (schema : Schema) (past own : List Batch) (b : Batch) → MayPush schema past own b → All (IsShaped schema) (updates_in b)
done_shaped schema past own b may =
    let before = of_client b.client (take b.base past) in
    let parts : all_updates own ≡ all_updates before ++ updates_in b = ap all_updates may.follows.last ∙ flat_all before (b ∷ []) ∙ ap (λ l. all_updates before ++ l) (append-nil (updates_in b)) in
    all_behind (IsShaped schema) (all_updates before) (updates_in b) (subst (All (IsShaped schema)) parts may.own_shaped)

-- a push's numbers are those of a packet
push_header : (schema : Schema) (past own : List Batch) (b : Batch) → MayPush schema past own b → IsHeader b.client b.round b.base
push_header schema past own b may =
    let before = of_client b.client (take b.base past) in
    let round : b.round ≡ length before + 1 = (alone past own b may.follows).round in
    let count : length own ≡ length before + 1 = ap length may.follows.last ∙ length-append before (b ∷ []) in
    let many = few_batches own may.own_within in
    let places = few_batches past may.past_within in
    let base = may.follows.base in
    record {
      client_below = all_last (λ (x : Batch). x.client < most_clients) before b (subst (AllByRecursion (λ (x : Batch). x.client < most_clients)) may.follows.last may.own_within.clients);
      round_begun = omega arith;
      round_below = omega arith;
      base_below = omega arith;
    }

-- a client that has a batch is one that there may be, and has no more batches than there are
of_client-length : (c : ℕ) (batches : List Batch) → length (of_client c batches) ≤ length batches
of_client-length c [] = omega arith
of_client-length c (b ∷ rest) =
    let further = of_client-length c rest in
    elim (cases_eq b.client c) [
      | inl e ↦ let here = ap length (of_client-here c b rest e) in omega arith
      | inr other ↦ let same = ap length (of_client-else c b rest other) in omega arith
    ]

client_there : (c n : ℕ) (batches : List Batch) → AllByRecursion (λ (b : Batch). b.client < n) batches → 1 ≤ length (of_client c batches) → c < n
client_there c n [] all some = absurd (omega arith)
client_there c n (b ∷ rest) all some = elim (cases_eq b.client c) [
  | inl e ↦ let below : b.client < n = all.0 in omega arith
  | inr other ↦ let same = ap length (of_client-else c b rest other) in client_there c n rest all.1 (omega arith)
]

module _ (total : IsTotalOrder cell_order) (apart : (a b : Cell) → is_eq (cell_order a b) ≡ true → a ≡ b) where
  pub push_is_of : (schema : Schema) (past own : List Batch) (b : Batch) (change : ChangeLists) → MayPush schema past own b → IsEffect schema (flat past b.base) (updates_in b) change → IsPacketOf schema (Push b.client b.round b.base change)
  push_is_of schema past own b change may effect =
      let short = few_seen past own b may.follows may.past_within may.own_within in (
        push_header schema past own b may,
        change_is_of total apart schema (flat past b.base) (updates_in b) change (seen_shaped schema past own b may) (done_shaped schema past own b may) (omega arith) effect,
      )

  pub push_is_short : (schema : Schema) (past own : List Batch) (b : Batch) (change : ChangeLists) → MayPush schema past own b → IsEffect schema (flat past b.base) (updates_in b) change → (length change.created < 2 ^ 31) × (length change.dead < 2 ^ 31) × (length change.cells < 2 ^ 31)
  push_is_short schema past own b change may effect =
      let short = few_seen past own b may.follows may.past_within may.own_within in
      let few = few_told total apart schema (flat past b.base) (updates_in b) change effect in
      let created = few.0 in let dead = few.1 in let cells = few.2 in
      (omega arith, omega arith, omega arith)

  pub reply_is_of : (schema : Schema) (past own : List Batch) (client round : ℕ) (image : ImageLists) → MayReply schema past own client round → IsImage schema (all_updates past) image → IsPacketOf schema (Reply client round (length past) image)
  reply_is_of schema past own client round image may is =
      let places = few_batches past may.served.within in
      let short = few_updates past may.served.within in
      let count : length (of_client client past) ≡ length own = ap length may.mine in
      let there = of_client-length client past in
      let last = may.last in
      let begun = may.begun in (
        record { client_below = client_there client most_clients past may.served.within.clients (omega arith); round_begun = begun; round_below = omega arith; base_below = omega arith },
        image_is_of total apart schema (all_updates past) image may.served.fits.shaped (omega arith) is,
      )

  pub reply_is_short : (schema : Schema) (past own : List Batch) (client round : ℕ) (image : ImageLists) → MayReply schema past own client round → IsImage schema (all_updates past) image → (length image.created < 2 ^ 31) × (length image.dead < 2 ^ 31) × (length image.cells < 2 ^ 31)
  reply_is_short schema past own client round image may is =
      let short = few_updates past may.served.within in
      let few = few_held total apart schema (all_updates past) image is in
      let created = few.0 in let dead = few.1 in let cells = few.2 in
      (omega arith, omega arith, omega arith)
