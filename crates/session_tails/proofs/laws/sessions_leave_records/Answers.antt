-- The law, from its lemmas.
use Rattle.std.specs.Prelude.{◌≡◌, ℕ, ◌+◌, Some, slice_get}
use Rattle.std.proofs.Common.{subst, arith}
use Rattle.cloud_base.specs.Answer.{answer}
use Rattle.cloud_base.specs.declared.batch.Tail.{Tail}
use Rattle.cloud_base.specs.declared.schema.Schema.{Schema}
use Rattle.batch_history.specs.Right.{IsThatOf, RightTail}
use Rattle.batch_history.specs.Sound.{SoundTail}
use Rattle.session_tails.proofs.Flushes.{flushed_left}
use Rattle.session_tails.proofs.Ids.{IsNew, left_new, all_once}
use Rattle.session_tails.proofs.Over.{over, of_tail}
use Rattle.session_tails.proofs.Rights.{tail_right}
use Rattle.session_tails.proofs.Tails.{tail_sound}
use Rattle.session_tails.proofs.laws.sessions_leave_records.Goals as goal

pub returns-clause-sound : goal.returns-clause-sound
returns-clause-sound c schema batches tails ends left = record {
  count = left.count;
  clients = left.clients;
  each = left.served.sound.each;
  tail = λ k tail at.
      let l = left.each k tail at in
      of_tail schema k batches tail l (λ (x : Schema) (i : ℕ) (t : Tail). SoundTail batches i t)
      (tail_sound l.stands batches (over schema k batches tail l left.served));
  once = all_once batches 0 tails left.served.sound.once new;
}
  where
    new : (k i : ℕ) (tail : Tail) → k ≡ 0 + i → slice_get tails i ≡ Some tail → IsNew batches k tail
    new k i tail e at =
        let same : i ≡ k = omega (arith, e) in
        let l = left.each k tail (subst (λ (j : ℕ). slice_get tails j ≡ Some tail) same at) in
        of_tail schema k batches tail l (λ (x : Schema) (i : ℕ) (t : Tail). IsNew batches i t)
        (left_new l.stands batches (over schema k batches tail l left.served))

pub returns-clause-right : goal.returns-clause-right
returns-clause-right c schema batches tails ends left = record {
  each = left.served.right;
  tail = λ k tail at.
      let l = left.each k tail at in
      of_tail schema k batches tail l (λ (x : Schema) (i : ℕ) (t : Tail). RightTail (IsThatOf (answer x)) batches i t)
      (tail_right l.stands batches (over schema k batches tail l left.served));
}

pub returns-clause-flushed : goal.returns-clause-flushed
returns-clause-flushed c schema batches tails ends left = λ k tail at. flushed_left schema k batches tail (left.each k tail at)
