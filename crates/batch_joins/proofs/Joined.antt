-- A record with a client's next batch.
use Rattle.std.proofs.Common.{◌≡◌, ℕ, ◌+◌, ◌≤◌, List, [], ◌∷◌, ◌++◌, length, take, refl, ap, sym, subst, ◌∙◌, arith, inl, inr, append-nil}
use mathlib.Core.List.{IsPrefix}
use Rattle.std.proofs.lemmas.Bool.{cases_eq}
use Rattle.std.proofs.lemmas.List.{length-append, append_assoc, take-append-le, length-take-le}
use Rattle.std.specs.List.{AllByRecursion}
use Rattle.cloud_base.specs.Events.{updates_of}
use Rattle.cloud_base.specs.Shaped.{CreatedOnce}
use Rattle.cloud_base.specs.declared.batch.Batch.{Batch}
use Rattle.cloud_base.specs.declared.update.Answer.{Answer}
use Rattle.cloud_base.specs.declared.update.Query.{Query}
use Rattle.cloud_base.specs.declared.update.Update.{Update}
use Rattle.batch_history.specs.Batches.{updates_in, flat, of_client, seen_after, last_seen}
use Rattle.batch_history.specs.Sound.{EachFrom, FitsBehind, SoundBatches}
use Rattle.batch_history.specs.Right.{RightEvents, RightBehind, RightBatches}
use Rattle.batch_history.proofs.Clients.{of_client-here, of_client-else, of_client-last}
use Rattle.batch_history.proofs.Fronts.{flat_front, flat_all, sound_front}
use Rattle.batch_joins.specs.Joins.{all_updates, FitsAlone, Follows, RightOwn}
use Rattle.batch_joins.proofs.Prefixes.{prefix_length, prefix_take}
use Rattle.batch_joins.proofs.Own.{own_prefix, all_own, joined_once}

pub each_last : {A : Type 0} (P : List A → A → Type 0) (before xs : List A) (x : A) → EachFrom P before xs → P (before ++ xs) x → EachFrom P before (xs ++ x ∷ [])
each_last P before [] x each last = (subst (λ (l : List _). P l x) (append-nil before) last, tt)
each_last P before (y ∷ xs) x each last = (each.0, each_last P (before ++ y ∷ []) xs x each.1 (subst (λ (l : List _). P l x) (sym (append_assoc before (y ∷ []) xs)) last))

-- the last of a list, behind the others
last_of_each : {A : Type 0} (P : List A → A → Type 0) (before xs : List A) (x : A) → EachFrom P before (xs ++ x ∷ []) → P (before ++ xs) x
last_of_each P before [] x each = subst (λ (l : List _). P l x) (sym (append-nil before)) each.0
last_of_each P before (y ∷ xs) x each = subst (λ (l : List _). P l x) (append_assoc before (y ∷ []) xs) (last_of_each P (before ++ y ∷ []) xs x each.1)

last_of_all : {A : Type 0} (P : A → Type 0) (xs : List A) (x : A) → AllByRecursion P (xs ++ x ∷ []) → P x
last_of_all P [] x all = all.0
last_of_all P (y ∷ xs) x all = last_of_all P xs x all.1

-- the push's batch, behind the others of its client
pub alone : (past own : List Batch) (b : Batch) → Follows past own b → FitsAlone (of_client b.client (take b.base past)) b
alone past own b follows = last_of_each FitsAlone [] (of_client b.client (take b.base past)) b (subst (λ (l : List Batch). EachFrom FitsAlone [] l) follows.last follows.each)

-- no round is left out
pub no_gap : (whole past own : List Batch) (b : Batch) → IsPrefix past whole → Follows past own b → b.round ≤ length (of_client b.client whole) + 1
no_gap whole past own b front follows =
    let below : take b.base past ≡ take b.base whole = sym (take-append-le b.base past front.0 follows.base) ∙ ap (λ (l : List Batch). take b.base l) front.1 in
    let few = prefix_length (of_client b.client (take b.base whole)) (of_client b.client whole) (own_prefix b.client (take b.base whole) whole (prefix_take b.base whole)) in
    let same : length (of_client b.client (take b.base past)) ≡ length (of_client b.client (take b.base whole)) = ap (λ (l : List Batch). length (of_client b.client l)) below in
    let round : b.round ≡ length (of_client b.client (take b.base past)) + 1 = (alone past own b follows).round in
    omega arith

take_front : (past whole : List Batch) (n : ℕ) → IsPrefix past whole → n ≤ length past → take n past ≡ take n whole
take_front past whole n p le = sym (take-append-le n past p.0 le) ∙ ap (λ (l : List Batch). take n l) p.1

module _ (whole past own : List Batch) (b : Batch) (sound : SoundBatches whole) (front : IsPrefix past whole) (follows : Follows past own b) (next : b.round ≡ length (of_client b.client whole) + 1) where
  below : take b.base past ≡ take b.base whole
  below = take_front past whole b.base front follows.base

  -- what is below the base has all of the client's batches
  pub known : of_client b.client (take b.base past) ≡ of_client b.client whole
  known =
      let same : length (of_client b.client (take b.base past)) ≡ length (of_client b.client (take b.base whole)) = ap (λ (l : List Batch). length (of_client b.client l)) below in
      let round : b.round ≡ length (of_client b.client (take b.base past)) + 1 = (alone past own b follows).round in
      ap (λ (l : List Batch). of_client b.client l) below ∙ all_own b.client (take b.base whole) whole (prefix_take b.base whole) (omega arith)

  pub fits : FitsBehind whole b
  fits = record {
    round = next;
    base = let longer = prefix_length past whole front in let base = follows.base in omega arith;
    known = ap (λ (l : List Batch). of_client b.client l) (sym below) ∙ known;
    opens = (alone past own b follows).opens;
    first = (alone past own b follows).first;
    before = (alone past own b follows).before;
    rest = (alone past own b follows).rest;
    own = (alone past own b follows).mine;
  }

  pub own_joined : of_client b.client (whole ++ b ∷ []) ≡ own
  own_joined = of_client-last whole b ∙ ap (λ (l : List Batch). l ++ b ∷ []) (sym known) ∙ sym follows.last

  created_once : CreatedOnce (all_updates whole ++ updates_in b)
  created_once =
      let own_is : all_updates own ≡ all_updates (of_client b.client whole) ++ updates_in b = ap all_updates (follows.last ∙ ap (λ (l : List Batch). l ++ b ∷ []) known)
      ∙ flat_all (of_client b.client whole) (b ∷ [])
      ∙ ap (λ (l : List Update). all_updates (of_client b.client whole) ++ l) (append-nil (updates_in b)) in
      joined_once b.client whole (updates_in b) sound (alone past own b follows).mine (subst CreatedOnce own_is follows.once)

  pub joined_sound : SoundBatches (whole ++ b ∷ [])
  joined_sound = record {
    each = each_last FitsBehind [] whole b sound.each fits;
    once = subst CreatedOnce (sym (flat_all whole (b ∷ []) ∙ ap (λ (l : List Update). all_updates whole ++ l) (append-nil (updates_in b)))) created_once;
  }

-- what a client had seen, by a front that has the bases of its batches
last_seen_front : (c : ℕ) (front more before rest : List Batch) (seen : List Update) → EachFrom FitsBehind before rest → length before + length rest ≤ length front → last_seen (front ++ more) seen (of_client c rest) ≡ last_seen front seen (of_client c rest)
last_seen_front c front more before [] seen each few = refl
last_seen_front c front more before (b ∷ rest) seen each few =
    let longer : length (before ++ b ∷ []) ≡ length before + 1 = length-append before (b ∷ []) in
    let base : b.base ≤ length before = each.0.base in
    let further : (log : List Update) → last_seen (front ++ more) log (of_client c rest) ≡ last_seen front log (of_client c rest) = λ log. last_seen_front c front more (before ++ b ∷ []) rest log each.1 (omega arith) in
    elim (cases_eq b.client c) [
      | inl here ↦
          let same : seen_after (front ++ more) b ≡ seen_after front b = ap (λ (l : List Update). l ++ updates_in b) (flat_front front more b.base (omega arith)) in
          ap (λ (l : List Batch). last_seen (front ++ more) seen l) (of_client-here c b rest here)
          ∙ ap (λ (l : List Update). last_seen (front ++ more) l (of_client c rest)) same
          ∙ further (seen_after front b)
          ∙ ap (λ (l : List Batch). last_seen front seen l) (sym (of_client-here c b rest here))
      | inr other ↦
          ap (λ (l : List Batch). last_seen (front ++ more) seen l) (of_client-else c b rest other)
          ∙ further seen
          ∙ ap (λ (l : List Batch). last_seen front seen l) (sym (of_client-else c b rest other))
    ]

module _ (is_answer : List Update → Query → Answer → Type 0) (whole past own : List Batch) (b : Batch) (sound : SoundBatches whole) (front : IsPrefix past whole) (follows : Follows past own b) (next : b.round ≡ length (of_client b.client whole) + 1) where
  -- what was right where the client was, is right behind the whole
  pub right_joined : RightBehind is_answer (take b.base past) b → RightBehind is_answer whole b
  right_joined right =
      let seen = take b.base past in
      let p : IsPrefix seen whole = subst (λ (l : List Batch). IsPrefix l whole) (sym (take_front past whole b.base front follows.base)) (prefix_take b.base whole) in
      let all = known whole past own b sound front follows next in
      let early : SoundBatches seen = sound_front seen p.0 (subst SoundBatches (sym p.1) sound) in
      let count : length seen ≡ b.base = length-take-le b.base past follows.base in
      let before : last_seen whole [] (of_client b.client whole) ≡ last_seen seen [] (of_client b.client seen) =
      ap (λ (l : List Batch). last_seen l [] (of_client b.client whole)) (sym p.1)
      ∙ ap (λ (l : List Batch). last_seen (seen ++ p.0) [] l) (sym all)
      ∙ last_seen_front b.client seen p.0 [] seen [] early.each (omega arith) in
      let since : flat whole b.base ≡ flat seen b.base = ap (λ (l : List Batch). flat l b.base) (sym p.1) ∙ flat_front seen p.0 b.base (omega arith) in
      record {
        before = subst (λ (l : List Update). RightEvents is_answer l b.before) (sym before) right.before;
        rest = subst (λ (l : List Update). RightEvents is_answer (l ++ updates_of b.before) b.rest) (sym since) right.rest;
      }

  pub right_batches : RightBatches is_answer whole → RightOwn is_answer past own → RightBatches is_answer (whole ++ b ∷ [])
  right_batches each right =
      let behind = last_of_all (λ (x : Batch). RightBehind is_answer (take x.base past) x) (of_client b.client (take b.base past)) b
      (subst (λ (l : List Batch). RightOwn is_answer past l) follows.last right) in
      each_last (RightBehind is_answer) [] whole b each (right_joined behind)
