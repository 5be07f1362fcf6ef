-- What a push tells a server, what a reply tells a client, and what a client may push.
use Rattle.std.proofs.Common.{◌≡◌, refl, sym, ◌∙◌, ap, subst, ℕ, ◌+◌, ◌≤◌, List, [], ◌∷◌, ◌++◌, length, take, append-nil, arith, inl, inr}
use Rattle.std.specs.Prelude.{All, Contains, ◌==◌, ◌<◌}
use Rattle.std.specs.List.{AllByRecursion}
use Rattle.std.proofs.lemmas.Bool.{cases_eq}
use Rattle.std.proofs.Math.Seq.{take-length}
use Rattle.std.proofs.lemmas.List.Elements.{All-append, All-nil, All-cons, All-head, All-tail}
use mathlib.Core.List.{IsPrefix}
use Rattle.cloud_base.specs.Alike.{IsPart}
use Rattle.cloud_base.specs.Answer.{answer}
use Rattle.cloud_base.specs.Shaped.{CreatedOnce, Fit, IsShaped}
use Rattle.cloud_base.specs.declared.batch.Batch.{Batch}
use Rattle.cloud_base.specs.declared.schema.Schema.{Schema}
use Rattle.cloud_base.specs.declared.update.Update.{Update}
use Rattle.cloud_base.proofs.LogLemmas.{fit_front}
use Rattle.cloud_base.proofs.SortedLemmas.{kept_member}
use Rattle.batch_history.specs.Batches.{updates_in, flat, of_client}
use Rattle.batch_history.specs.Right.{IsThatOf, RightBehind, RightBatches}
use Rattle.batch_history.specs.Sound.{CreatedBy, SoundBatches}
use Rattle.batch_history.proofs.Clients.{of_client-here, of_client-else}
use Rattle.batch_history.proofs.Fronts.{flat_all, sound_front, right_front}
use Rattle.batch_joins.specs.Joins.{all_updates, FitsAlone, RightOwn}
use Rattle.batch_joins.proofs.Alone.{own_fit_alone, own_right}
use Rattle.batch_joins.proofs.Joined.{each_last, no_gap, joined_sound, own_joined, right_batches}
use Rattle.batch_joins.proofs.Own.{more_own, based_part, pulled_part, joined_fit}
use Rattle.batch_joins.proofs.Prefixes.{prefix_whole}
use Rattle.packet_codec.specs.Served.{IsServed}
use Rattle.packet_codec.specs.Pushes.{IsNext, MayPush}
use Rattle.packet_codec.specs.Replies.{MayReply}
use Rattle.packet_codec.proofs.Bounded.{all_more, within_front, within_joined}
use Rattle.packet_codec.proofs.Spelled.{all_behind, done_shaped}

-- the updates with one batch more
pub more_updates : (batches : List Batch) (b : Batch) → all_updates (batches ++ b ∷ []) ≡ all_updates batches ++ updates_in b
more_updates batches b = flat_all batches (b ∷ []) ∙ ap (λ l. all_updates batches ++ l) (append-nil (updates_in b))

pub served_front : (schema : Schema) (front batches : List Batch) → IsPrefix front batches → IsServed schema batches → IsServed schema front
served_front schema front batches p served =
    let whole = subst (IsServed schema) (sym p.1) served in
    record {
      sound = sound_front front p.0 whole.sound;
      right = right_front (IsThatOf (answer schema)) front p.0 whole.right;
      fits = fit_front schema (all_updates front) (all_updates p.0) (subst (Fit schema) (flat_all front p.0) whole.fits);
      within = within_front front batches p served.within;
    }

module _ (schema : Schema) (batches past own : List Batch) (b : Batch) where
  pub taken_known : IsPrefix past batches → MayPush schema past own b → IsPart (flat past b.base) (all_updates batches)
  taken_known p may = based_part past batches b.base p may.follows.base

  pub taken_no_gap : IsPrefix past batches → MayPush schema past own b → b.round ≤ length (of_client b.client batches) + 1
  taken_no_gap p may = no_gap batches past own b p may.follows

  module _ (served : IsServed schema batches) (p : IsPrefix past batches) (may : MayPush schema past own b) (next : b.round ≡ length (of_client b.client batches) + 1) where
    taken_sound : SoundBatches (batches ++ b ∷ [])
    taken_sound = joined_sound batches past own b served.sound p may.follows next

    pub taken_own : of_client b.client (batches ++ b ∷ []) ≡ own
    taken_own = own_joined batches past own b served.sound p may.follows next

    pub taken_fit : Fit schema (all_updates batches ++ updates_in b)
    taken_fit = record {
      shaped = All-append (IsShaped schema) (all_updates batches) (updates_in b) served.fits.shaped (done_shaped schema past own b may);
      once = subst CreatedOnce (more_updates batches b) taken_sound.once;
    }

    pub taken_served : IsServed schema (batches ++ b ∷ [])
    taken_served = record {
      sound = taken_sound;
      right = right_batches (IsThatOf (answer schema)) batches past own b served.sound p may.follows next served.right may.right;
      fits = subst (Fit schema) (sym (more_updates batches b)) taken_fit;
      within = within_joined batches own b served.within may.own_within taken_own;
    }

-- ---- a reply

module _ (schema : Schema) where
  pub pulled_own : (past own whole : List Batch) (client round : ℕ) → MayReply schema past own client round → IsPrefix own whole → length whole ≡ round → own ≡ whole
  pulled_own past own whole client round may p count =
      let last = may.last in
      prefix_whole own whole p (omega arith)

  pub pulled_longer : (seen past own batches : List Batch) (client round : ℕ) → MayReply schema past own client round → IsPrefix seen batches → IsPrefix past batches → length (of_client client seen) < round → IsPrefix seen past
  pulled_longer seen past own batches client round may p q fewer =
      let last = may.last in
      let count : length (of_client client past) ≡ length own = ap length may.mine in
      more_own client seen past batches p q (omega arith)

  pub pulled_known : (seen past own : List Batch) (client round : ℕ) (sent : Batch) → MayReply schema past own client round → IsPrefix seen past → Contains own sent → IsPart (all_updates seen ++ updates_in sent) (all_updates past)
  pulled_known seen past own client round sent may p m =
      pulled_part seen past sent p (kept_member (λ (b : Batch). b.client == client) past sent (subst (λ (l : List Batch). Contains l sent) (sym may.mine) m))

  pub pulled_fit : (past own : List Batch) (client round : ℕ) (more : List Update) → MayReply schema past own client round → All (IsShaped schema) more → CreatedBy client more → CreatedOnce (all_updates own ++ more) → Fit schema (all_updates past ++ more)
  pulled_fit past own client round more may shaped mine once =
      joined_fit schema client past more may.served.sound may.served.fits shaped mine (subst (λ (l : List Batch). CreatedOnce (all_updates l ++ more)) (sym may.mine) once)

-- ---- a client's next batch

all_before : {A : Type 0} (P : A → Type 0) (xs ys : List A) → All P (xs ++ ys) → All P xs
all_before P [] ys all = All-nil P
all_before P (x ∷ xs) ys all = All-cons P x xs (All-head P x (xs ++ ys) all) (all_before P xs ys (All-tail P x (xs ++ ys) all))

-- what a client's batches do is of the schema where all of the record is
own_shaped : (schema : Schema) (c : ℕ) (batches : List Batch) → All (IsShaped schema) (all_updates batches) → All (IsShaped schema) (all_updates (of_client c batches))
own_shaped schema c [] all = all
own_shaped schema c (b ∷ rest) all =
    let P : List Batch → Type 0 = λ l. All (IsShaped schema) (all_updates l) in
    let further = own_shaped schema c rest (all_behind (IsShaped schema) (updates_in b) (all_updates rest) all) in
    elim (cases_eq b.client c) [
      | inl e ↦ subst P (sym (of_client-here c b rest e)) (All-append (IsShaped schema) (updates_in b) (all_updates (of_client c rest)) (all_before (IsShaped schema) (updates_in b) (all_updates rest) all) further)
      | inr other ↦ subst P (sym (of_client-else c b rest other)) further
    ]

pub next_may : (schema : Schema) (past : List Batch) (b : Batch) → IsServed schema past → IsNext schema past b → MayPush schema past (of_client b.client past ++ b ∷ []) b
next_may schema past b served next =
    let before = of_client b.client past in
    let below : take b.base past ≡ past = ap (λ n. take n past) next.base ∙ take-length past in
    let updates = more_updates before b in
    let shaped = All-append (IsShaped schema) (all_updates before) (updates_in b) (own_shaped schema b.client past served.fits.shaped) next.shaped in
    let base = next.base in
    record {
      follows = record {
        base = omega arith;
        last = ap (λ (l : List Batch). of_client b.client l ++ b ∷ []) (sym below);
        each = each_last FitsAlone [] before b (own_fit_alone b.client past served.sound) next.alone;
        once = subst CreatedOnce (sym updates) next.once;
      };
      right = all_more (λ (x : Batch). RightBehind (IsThatOf (answer schema)) (take x.base past) x) before b (own_right (IsThatOf (answer schema)) b.client past served.sound served.right) (subst (λ (l : List Batch). RightBehind (IsThatOf (answer schema)) l b) (sym below) next.right);
      past_fits = served.fits;
      own_shaped = subst (All (IsShaped schema)) (sym updates) shaped;
      past_within = served.within;
      own_within = next.within;
    }
