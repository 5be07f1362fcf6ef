-- The record of a played run.
use Rattle.std.proofs.Common.{◌≡◌, refl, ap, sym, subst, ◌∙◌, ℕ, zero, suc, ◌+◌, ◌<◌, true, List, [], ◌∷◌, length, Option, Some, inl, inr, arith}
use Rattle.std.specs.Prelude.{slice_get, map, is_some}
use Rattle.std.specs.List.{list_all, range_with_len}
use Rattle.std.specs.Option.{option_map}
use Rattle.std.proofs.lemmas.Bool.{cases_lt, true≢false}
use Rattle.std.proofs.lemmas.Option.{slice_get-map}
use Rattle.cloud_base.specs.Events.{Outcome, ended, answers_in}
use Rattle.cloud_base.specs.declared.batch.Batch.{Batch}
use Rattle.cloud_base.specs.declared.batch.Tail.{Tail}
use Rattle.cloud_base.specs.declared.end.End.{End}
use Rattle.cloud_base.specs.declared.schedule.ScheduleItem.{ScheduleItem}
use Rattle.cloud_base.specs.declared.update.Answer.{Answer}
use Rattle.cloud_base.specs.declared.update.Event.{Event}
use Rattle.cloud_base.specs.declared.update.Query.{Query}
use Rattle.cloud_base.specs.declared.update.Update.{Update}
use Rattle.batch_history.specs.Batches.{did_by, did}
use Rattle.batch_history.specs.Flushed.{Traced}
use Rattle.played_record.specs.Worlds.{World}
use Rattle.played_record.specs.Plays.{tails_of, ends_of, all_ended, after_sweeps, IsPlayed}
use Rattle.played_record.specs.Laws.{GoesOn}
use Rattle.played_record.proofs.Moments.{after_moment}

-- ---- lists by number

range_at : {A : Type 0} (f : ℕ → A) (a n k : ℕ) → k < n → slice_get (map f (range_with_len a n)) k ≡ Some (f (a + k))
range_at f a zero k l = absurd (omega arith)
range_at f a (suc n) zero l = let here : a ≡ a + 0 = omega arith in ap (λ (m : ℕ). Some (f m)) here
range_at f a (suc n) (suc k) l =
    let more : (a + 1) + k ≡ a + suc k = omega arith in
    range_at f (a + 1) n k (omega arith) ∙ ap (λ (m : ℕ). Some (f m)) more

range_past : {A : Type 0} (f : ℕ → A) (a n k : ℕ) (x : A) → slice_get (map f (range_with_len a n)) k ≡ Some x → k < n
range_past f a zero k x e = absurd (cc (e))
range_past f a (suc n) zero x e = omega arith
range_past f a (suc n) (suc k) x e = let l = range_past f (a + 1) n k x e in omega arith

pub range_length : {A : Type 0} (f : ℕ → A) (a n : ℕ) → length (map f (range_with_len a n)) ≡ n
range_length f a zero = refl
range_length f a (suc n) = let l = range_length f (a + 1) n in omega arith

length_some : {A : Type 0} (xs : List A) → length (map Some xs) ≡ length xs
length_some [] = refl
length_some (x ∷ xs) = let l = length_some xs in omega arith

somes : {A : Type 0} (xs ys : List A) → map Some xs ≡ map Some ys → xs ≡ ys
somes [] [] e = refl
somes [] (y ∷ ys) e = absurd (cc (e))
somes (x ∷ xs) [] e = absurd (cc (e))
somes (x ∷ xs) (y ∷ ys) e =
    let head : x ≡ y = cc (e) in
    let rest : xs ≡ ys = somes xs ys (cc (e)) in cc (head, rest)

all_somes : {A : Type 0} (xs : List A) → list_all is_some (map Some xs) ≡ true
all_somes [] = refl
all_somes (x ∷ xs) = all_somes xs

-- ---- one record

module _ (answers : List Update → Query → Answer) (trace : ℕ → List Answer → List Event × Outcome) where
  -- where the ends are told, all have ended
  have_ended : (schedule : List ScheduleItem) (n : ℕ) (batches : List Batch) (tails : List Tail) (ends : List End)
      → (h : IsPlayed answers trace schedule n batches tails ends) → all_ended n (after_sweeps answers trace schedule n h.count) ≡ true
  have_ended schedule n batches tails ends h = ap (λ (es : List (Option End)). list_all is_some es) (sym h.ends_are) ∙ all_somes ends

  pub one_count : (schedule : List ScheduleItem) (n : ℕ) (batches batches' : List Batch) (tails tails' : List Tail) (ends ends' : List End)
      → (h : IsPlayed answers trace schedule n batches tails ends) → (i : IsPlayed answers trace schedule n batches' tails' ends') → h.count ≡ i.count
  one_count schedule n batches batches' tails tails' ends ends' h i = elim (cases_lt h.count i.count) [
    | inl less ↦ absurd (true≢false (sym (have_ended schedule n batches tails ends h) ∙ i.least h.count less))
    | inr at_least ↦ elim (cases_lt i.count h.count) [
      | inl less ↦ absurd (true≢false (sym (have_ended schedule n batches' tails' ends' i) ∙ h.least i.count less))
      | inr at_most ↦ omega arith
    ]
  ]

  pub one_record : (schedule : List ScheduleItem) (n : ℕ) (batches batches' : List Batch) (tails tails' : List Tail) (ends ends' : List End)
      → IsPlayed answers trace schedule n batches tails ends → IsPlayed answers trace schedule n batches' tails' ends'
      → (batches ≡ batches') × (tails ≡ tails') × (ends ≡ ends')
  one_record schedule n batches batches' tails tails' ends ends' h i =
      let same : after_sweeps answers trace schedule n h.count ≡ after_sweeps answers trace schedule n i.count =
      ap (λ (count : ℕ). after_sweeps answers trace schedule n count) (one_count schedule n batches batches' tails tails' ends ends' h i) in (
        h.batches_are ∙ ap (λ (w : World). w.batches) same ∙ sym i.batches_are,
        h.tails_are ∙ ap (λ (w : World). tails_of n w) same ∙ sym i.tails_are,
        somes ends ends' (h.ends_are ∙ ap (λ (w : World). ends_of n w) same ∙ sym i.ends_are),
      )

  -- ---- and its clients

  pub as_many_tails : (schedule : List ScheduleItem) (n : ℕ) (batches : List Batch) (tails : List Tail) (ends : List End)
      → IsPlayed answers trace schedule n batches tails ends → length tails ≡ n
  as_many_tails schedule n batches tails ends h =
      ap (λ (ts : List Tail). length ts) h.tails_are ∙ range_length (λ c. ((after_sweeps answers trace schedule n h.count).client c).tail) 0 n

  pub as_many_ends : (schedule : List ScheduleItem) (n : ℕ) (batches : List Batch) (tails : List Tail) (ends : List End)
      → IsPlayed answers trace schedule n batches tails ends → length ends ≡ n
  as_many_ends schedule n batches tails ends h =
      sym (length_some ends) ∙ ap (λ (es : List (Option End)). length es) h.ends_are
      ∙ range_length (λ c. ((after_sweeps answers trace schedule n h.count).client c).end) 0 n

  pub played_traced : (schedule : List ScheduleItem) (n : ℕ) (batches : List Batch) (tails : List Tail) (ends : List End)
      → GoesOn trace → IsPlayed answers trace schedule n batches tails ends → Traced trace batches tails ends
  played_traced schedule n batches tails ends g h c end e =
      let w = after_sweeps answers trace schedule n h.count in
      let at : slice_get (ends_of n w) c ≡ Some (Some end) =
      ap (λ (es : List (Option End)). slice_get es c) (sym h.ends_are) ∙ slice_get-map Some ends c ∙ ap (option_map Some) e in
      let l : c < n = range_past (λ k. (w.client k).end) 0 n c (Some end) at in
      let zeroth : 0 + c ≡ c = omega arith in
      let came : Some ((w.client c).end) ≡ Some (Some end) =
      ap (λ (k : ℕ). Some ((w.client k).end)) (sym zeroth) ∙ sym (range_at (λ k. (w.client k).end) 0 n c l) ∙ at in
      let tail : slice_get tails c ≡ Some ((w.client c).tail) =
      ap (λ (ts : List Tail). slice_get ts c) h.tails_are ∙ range_at (λ k. (w.client k).tail) 0 n c l ∙ ap (λ (k : ℕ). Some ((w.client k).tail)) zeroth in
      let same : did batches tails c ≡ did_by w.batches c (Some ((w.client c).tail)) =
      ap (λ (bs : List Batch). did_by bs c (slice_get tails c)) h.batches_are ∙ ap (λ (o : Option Tail). did_by w.batches c o) tail in
      let follows = (after_moment answers trace schedule n h.count g).follows c in
      let end_is : (w.client c).end ≡ Some end = cc (came) in
      subst (λ (events : List Event). trace c (answers_in events) ≡ (events, ended end)) (sym same)
      (ap (trace c) follows.answers ∙ follows.all end end_is)
