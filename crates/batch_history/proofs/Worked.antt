-- Worked records: one that is sound, answered right, flushed and traced, and for each sentence one that breaks it.
use Rattle.std.proofs.Common.{arith, ◌≡◌, ℕ, zero, suc, ◌<◌, ◌≤◌, List, [], ◌∷◌, ◌++◌, length, refl, sym, ap, subst, Option, Some, None, ◌∙◌, inl, inr, lit≤, lit<}
use Rattle.std.specs.Prelude.{◌==◌, slice_get, take, pos, false}
use Rattle.std.proofs.lemmas.Bool.{eq-eqb, false≢true}
use Rattle.std.proofs.lemmas.List.Elements.{All-nil, All-cons, All-head}
use Rattle.cloud_base.specs.Events.{Outcome, ended, answers_in}
use Rattle.cloud_base.specs.Values.{Id}
use Rattle.cloud_base.specs.declared.batch.Batch.{Batch}
use Rattle.cloud_base.specs.declared.batch.Stretch.{Stretch}
use Rattle.cloud_base.specs.declared.batch.Tail.{Tail}
use Rattle.cloud_base.specs.declared.end.End.{End}
use Rattle.cloud_base.specs.declared.end.End.TheVariants.{Done}
use Rattle.cloud_base.specs.declared.update.Answer.{Answer}
use Rattle.cloud_base.specs.declared.update.Answer.TheVariants.{Int}
use Rattle.cloud_base.specs.declared.update.CellChange.TheVariants.{Add}
use Rattle.cloud_base.specs.declared.update.Event.{Event}
use Rattle.cloud_base.specs.declared.update.Event.TheVariants.{Do, Ask, Yield, Flush}
use Rattle.cloud_base.specs.declared.update.Query.{Query}
use Rattle.cloud_base.specs.declared.update.Query.TheVariants.{Get}
use Rattle.cloud_base.specs.declared.update.Update.{Update}
use Rattle.cloud_base.specs.declared.update.Update.TheVariants.{Cell, Create}
use Rattle.batch_history.specs.Batches.{flat, of_client, stretches, did}
use Rattle.batch_history.specs.Sound.{FitsBehind, SoundBatches, SoundTail, SoundRecord}
use Rattle.batch_history.specs.Right.{IsThatOf, RightEvents, RightBehind, RightTail, AnsweredRight}
use Rattle.batch_history.specs.Flushed.{FlushedStretches, Flushed, Traced}

abbrev adds : Event
adds = Do (Cell 0 [] (Add (pos 1)))

abbrev id_of : ℕ → Id
id_of c = record { client = c; serial = 0 }

abbrev creates : ℕ → Event
creates c = Do (Create (id_of c) 0 [])

-- ---- the sound one: client 0 flushes, client 1's second push is lost
abbrev first : Batch
first = record { client = 0; round = 1; base = 0; before = []; rest = adds ∷ Flush ∷ [] }

abbrev other : Batch
other = record { client = 1; round = 1; base = 0; before = []; rest = creates 1 ∷ Yield ∷ [] }

abbrev lost : Batch
lost = record { client = 1; round = 2; base = 2; before = adds ∷ Yield ∷ []; rest = [] }

abbrev batches : List Batch
batches = first ∷ other ∷ []

abbrev asks : ℕ → Event
asks n = Ask (Get 0 []) (Int (pos n))

abbrev tail_0 : Tail
tail_0 = record { sent = None; now = record { base = Some 1; before = []; rest = asks 1 ∷ [] } }

abbrev tail_1 : Tail
tail_1 = record { sent = Some lost; now = record { base = None; before = asks 3 ∷ []; rest = [] } }

abbrev tails : List Tail
tails = tail_0 ∷ tail_1 ∷ []

abbrev ends : List End
ends = Done ∷ Done ∷ []

abbrev IsOf : ℕ → Id → Type 0
IsOf c id = id.client ≡ c

first_fits : FitsBehind [] first
first_fits = record { round = refl; base = lit≤ tt; known = refl; opens = λ e. refl; first = λ e. (refl, λ k. cc); before = tt; rest = tt; own = All-nil (IsOf 0) }

other_fits : FitsBehind (first ∷ []) other
other_fits = record { round = refl; base = lit≤ tt; known = refl; opens = λ e. refl; first = λ e. (refl, λ k. cc); before = tt; rest = tt; own = All-cons (IsOf 1) (id_of 1) [] refl (All-nil (IsOf 1)) }

lost_fits : FitsBehind batches lost
lost_fits = record { round = refl; base = lit≤ tt; known = refl; opens = λ e. absurd (omega arith); first = λ e. absurd (omega arith); before = tt; rest = tt; own = All-nil (IsOf 1) }

at_one : (P : ℕ → Type 0) (n : ℕ) → Some 1 ≡ Some n → P 1 → P n
at_one P n e h = let same : 1 ≡ n = cc in subst P same h

tail_0_sound : SoundTail batches 0 tail_0
tail_0_sound = record {
  sent = λ b e. absurd cc;
  waits = (λ e. absurd cc, λ e. absurd (e refl));
  unpulled = λ e. absurd cc;
  base = λ n e. at_one (λ m. m ≤ 2) n e (lit≤ tt);
  known = λ n e. at_one (λ m. of_client 0 (take m batches) ≡ of_client 0 batches) n e refl;
  opens = λ n e none. absurd cc;
  first = λ n e none. refl;
  before = λ n e. tt;
  own = All-nil (IsOf 0);
}

tail_1_sound : SoundTail batches 1 tail_1
tail_1_sound = record {
  sent = λ b e. let same : lost ≡ b = cc in inr (ap (λ (x : Batch). x.client) (sym same), subst (FitsBehind batches) same lost_fits);
  waits = (λ e k. cc, λ e. refl);
  unpulled = λ e. refl;
  base = λ n e. absurd cc;
  known = λ n e. absurd cc;
  opens = λ n e. absurd cc;
  first = λ n e. absurd cc;
  before = λ n e. absurd cc;
  own = All-nil (IsOf 1);
}

tail_at : (P : ℕ → Tail → Type 0) → P 0 tail_0 → P 1 tail_1 → (c : ℕ) (t : Tail) → slice_get tails c ≡ Some t → P c t
tail_at P h k zero t e = let same : tail_0 ≡ t = cc in subst (P 0) same h
tail_at P h k (suc zero) t e = let same : tail_1 ≡ t = cc in subst (P 1) same k
tail_at P h k (suc (suc c)) t e = absurd cc

pub example_sound : SoundRecord batches tails ends
example_sound = record {
  count = refl;
  clients = (lit< tt, (lit< tt, tt));
  each = (first_fits, (other_fits, tt));
  tail = tail_at (SoundTail batches) tail_0_sound tail_1_sound;
  once = (λ k. let l : k.0 < 0 = k.1 in omega arith, tt);
}

differ : (m n : ℕ) → (m == n) ≡ false → m ≡ n → ⊥
differ m n unlike same = false≢true (sym unlike ∙ eq-eqb m n same)

-- ---- batches that don't fit, each by one sentence
abbrev fresh : ℕ → ℕ → List Event → List Event → Batch
fresh round base before rest = record { client = 0; round = round; base = base; before = before; rest = rest }

-- the first round is 1
pub example_round_skipped : FitsBehind [] (fresh 2 0 [] (Yield ∷ [])) → ⊥
example_round_skipped h = differ 2 1 refl (h.round)

-- only one batch was joined
pub example_base_ahead : FitsBehind (first ∷ []) (fresh 2 2 [] []) → ⊥
example_base_ahead h = let l : 2 ≤ 1 = h.base in absurd (omega arith)

-- round 1 is at place 0, and the base isn't above it
pub example_forgotten : FitsBehind (first ∷ []) (fresh 2 0 [] []) → ⊥
example_forgotten h = differ 0 1 refl (ap (λ (t : List Batch). length t) h.known)

-- a first round from a later base
pub example_late : FitsBehind (other ∷ []) (fresh 1 1 [] (Yield ∷ [])) → ⊥
example_late h = differ 1 0 refl (h.opens refl)

-- a first round with something before a pull, and one of nothing
pub example_early : FitsBehind [] (fresh 1 0 (Yield ∷ []) (Yield ∷ [])) → ⊥
example_early h = differ 1 0 refl (ap (λ (t : List Event). length t) (h.first refl).0)

pub example_empty : FitsBehind [] (fresh 1 0 [] []) → ⊥
example_empty h = (h.first refl).1 refl

-- a pull, and a push, without a mark
pub example_pull_anywhere : FitsBehind (first ∷ []) (fresh 2 1 (adds ∷ []) []) → ⊥
example_pull_anywhere h = h.before

pub example_push_anywhere : FitsBehind [] (fresh 1 0 [] (Yield ∷ adds ∷ [])) → ⊥
example_push_anywhere h = h.rest

-- an id of another client
pub example_stranger : FitsBehind [] (fresh 1 0 [] (creates 1 ∷ Yield ∷ [])) → ⊥
example_stranger h = differ 1 0 refl (All-head (IsOf 0) (id_of 1) [] h.own)

-- an id that is created twice
abbrev twice : List Batch
twice = other ∷ record { client = 1; round = 2; base = 1; before = []; rest = creates 1 ∷ Yield ∷ [] } ∷ []

pub example_created_twice : SoundBatches twice → ⊥
example_created_twice h = h.once.0 (0, lit< tt, refl)

-- ---- tails that don't fit
abbrev waits : Option Batch → List Event → Tail
waits sent rest = record { sent = sent; now = record { base = None; before = []; rest = rest } }

abbrev pulled : ℕ → List Event → Tail
pulled base before = record { sent = None; now = record { base = Some base; before = before; rest = [] } }

-- what is outstanding is neither the last batch nor the next
pub example_sent_old : SoundTail (first ∷ []) 0 (waits (Some (fresh 3 1 [] [])) []) → ⊥
example_sent_old h = elim (h.sent (fresh 3 1 [] []) refl) [
  | inl last ↦ let same : first ≡ fresh 3 1 [] [] = cc in differ 1 3 refl (ap (λ (b : Batch). b.round) same)
  | inr next ↦ differ 3 2 refl (next.1.round)
]

-- nothing is outstanding and nothing was pulled
pub example_waits_for_nothing : SoundTail [] 0 (waits None []) → ⊥
example_waits_for_nothing h = h.waits.0 refl refl

-- something ran since a pull that wasn't made
pub example_unpulled : SoundTail (first ∷ []) 0 (waits (Some first) (adds ∷ [])) → ⊥
example_unpulled h = differ 1 0 refl (ap (λ (t : List Event). length t) (h.unpulled refl))

pub example_tail_ahead : SoundTail (first ∷ []) 0 (pulled 2 []) → ⊥
example_tail_ahead h = let l : 2 ≤ 1 = h.base 2 refl in absurd (omega arith)

pub example_tail_forgets : SoundTail (first ∷ []) 0 (pulled 0 []) → ⊥
example_tail_forgets h = differ 0 1 refl (ap (λ (t : List Batch). length t) (h.known 0 refl))

pub example_tail_late : SoundTail (other ∷ []) 0 (pulled 1 []) → ⊥
example_tail_late h = differ 1 0 refl (h.opens 1 refl refl)

pub example_tail_early : SoundTail [] 0 (pulled 0 (Yield ∷ [])) → ⊥
example_tail_early h = differ 1 0 refl (ap (λ (t : List Event). length t) (h.first 0 refl refl))

pub example_tail_anywhere : SoundTail (first ∷ []) 0 (pulled 1 (adds ∷ [])) → ⊥
example_tail_anywhere h = h.before 1 refl

pub example_tail_stranger : SoundTail (first ∷ []) 0 (pulled 1 (creates 1 ∷ Yield ∷ [])) → ⊥
example_tail_stranger h = differ 1 0 refl (All-head (IsOf 0) (id_of 1) [] h.own)

-- ---- a tail without an end, a batch of nobody, and an id that a tail creates again
pub example_no_end : SoundRecord [] (pulled 0 [] ∷ []) [] → ⊥
example_no_end h = differ 0 1 refl (h.count)

pub example_nobody : SoundRecord (other ∷ []) (pulled 0 [] ∷ []) (Done ∷ []) → ⊥
example_nobody h = let l : 1 < 1 = h.clients.0 in absurd (omega arith)

pub example_created_again : SoundRecord (fresh 1 0 [] (creates 0 ∷ Yield ∷ []) ∷ []) (pulled 1 (creates 0 ∷ Yield ∷ []) ∷ []) (Done ∷ []) → ⊥
example_created_again h = h.once.0 (0, lit< tt, refl)

-- ---- answers: here the number of updates is what a log answers
abbrev count : List Update → Query → Answer
count log q = Int (pos (length log))

-- client 0's stretch since a pull of base n
abbrev RightSince : ℕ → Type 0
RightSince n = RightEvents (IsThatOf count) (flat batches n ++ []) (asks 1 ∷ [])

pub example_right : AnsweredRight count batches tails
example_right = record {
  each = (record { before = tt; rest = tt }, (record { before = tt; rest = tt }, tt));
  tail = tail_at (λ c t. RightTail (IsThatOf count) batches c t)
      (record { sent = λ b e. absurd cc; before = tt; rest = λ n e. at_one RightSince n e (refl, tt) })
      (record { sent = λ b e. let same : lost ≡ b = cc in subst (RightBehind (IsThatOf count) batches) same (record { before = tt; rest = tt }); before = (refl, tt); rest = λ n e. absurd cc });
}

-- an answer that what was seen doesn't give
abbrev tail_wrong : Tail
tail_wrong = record { sent = None; now = record { base = Some 1; before = []; rest = asks 2 ∷ [] } }

pub example_wrong_answer : AnsweredRight count (first ∷ []) (tail_wrong ∷ []) → ⊥
example_wrong_answer h = let e : Int (pos 2) ≡ Int (pos 1) = ((h.tail 0 tail_wrong refl).rest 1 refl).0 in cc

-- before its pull a client doesn't see what was joined at the base that it pulls then
abbrev sees_ahead : Batch
sees_ahead = record { client = 0; round = 2; base = 2; before = asks 2 ∷ Yield ∷ []; rest = [] }

pub example_sees_ahead : RightBehind (IsThatOf count) batches sees_ahead → ⊥
example_sees_ahead h = let e : Int (pos 2) ≡ Int (pos 1) = h.before.0 in cc

-- ---- flushes
pub example_flushed : Flushed batches tails
example_flushed = tail_at (λ c t. FlushedStretches (stretches batches t c))
    (refl, (λ e. (refl, refl)), (tt, (λ e. absurd cc), tt))
    (tt, (λ e. absurd cc), (tt, (λ e. absurd cc), (tt, (λ e. absurd cc), tt)))

abbrev stretch : Option ℕ → List Event → List Event → Stretch
stretch base before rest = record { base = base; before = before; rest = rest }

-- a client that ended, or went on, before its flush was met, and one that went on in the same stretch
pub example_unmet_at_end : FlushedStretches (stretch (Some 0) [] (Flush ∷ []) ∷ stretch None [] [] ∷ []) → ⊥
example_unmet_at_end h = false≢true (h.1 refl).1

pub example_went_on : FlushedStretches (stretch (Some 0) [] (Flush ∷ []) ∷ stretch (Some 1) (Yield ∷ []) [] ∷ []) → ⊥
example_went_on h = differ 1 0 refl (ap (λ (t : List Event). length t) (h.1 refl).0)

pub example_passed_by : FlushedStretches (stretch (Some 0) [] (Flush ∷ Yield ∷ []) ∷ stretch (Some 1) [] [] ∷ []) → ⊥
example_passed_by h = differ 1 0 refl (ap (λ (t : List Event). length t) h.0)

-- ---- programs
abbrev Trace : Type 0
Trace = ℕ → List Answer → List Event × Outcome

-- whatever they are answered: client 0 adds, flushes and asks, and client 1 does more
abbrev trace : Trace
trace zero answers = (adds ∷ Flush ∷ asks 1 ∷ [], ended Done)
trace (suc c) answers = (creates 1 ∷ Yield ∷ adds ∷ Yield ∷ asks 3 ∷ [], ended Done)

traced_at : (c : ℕ) (end : End) → slice_get ends c ≡ Some end → (trace c (answers_in (did batches tails c)) ≡ (did batches tails c, ended end))
traced_at zero end e = let same : Done ≡ end = cc in subst (λ (x : End). trace 0 [] ≡ (did batches tails 0, ended x)) same refl
traced_at (suc zero) end e = let same : Done ≡ end = cc in subst (λ (x : End). trace 1 [] ≡ (did batches tails 1, ended x)) same refl
traced_at (suc (suc c)) end e = absurd cc

pub example_traced : Traced trace batches tails ends
example_traced = traced_at

-- a program that flushes first did not do this
abbrev flushes : Trace
flushes c answers = (Flush ∷ adds ∷ Flush ∷ asks 1 ∷ [], ended Done)

pub example_other_program : Traced flushes batches tails ends → ⊥
example_other_program h = differ 4 3 refl (ap (λ (t : List Event × Outcome). length t.0) (h 0 Done refl))
