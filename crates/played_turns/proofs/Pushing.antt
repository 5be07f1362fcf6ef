-- A push of a session is a push of the played run.
use Rattle.std.proofs.Common.{◌≡◌, refl, ap, sym, ◌∙◌, subst, ℕ, ◌+◌, List, [], ◌∷◌, ◌++◌, length, Option, Some, None, unwrap_or}
use Rattle.std.specs.Option.{ForSome, option_map}
use mathlib.Core.List.{IsPrefix}
use Rattle.cloud_base.specs.Events.{answers_in}
use Rattle.cloud_base.specs.declared.batch.Batch.{Batch}
use Rattle.cloud_base.specs.declared.batch.Tail.{Tail}
use Rattle.cloud_base.specs.declared.end.End.{End}
use Rattle.batch_history.specs.Batches.{of_client}
use Rattle.packet_codec.specs.Pushes.{Pushed}
use Rattle.packet_codec.specs.Replies.{Replied}
use Rattle.session_core.specs.Standings.{Standing, base_now, now_of, tail_of}
use Rattle.session_core.specs.Sessions.{begun, next_batch as its_next, sends_at}
use Rattle.client_runner.specs.Steps.{did}
use Rattle.played_record.specs.Clients.{next_batch, own_batches, put_out, round_sent, sends}
use Rattle.played_record.proofs.Told.{own_none, sends_own}
use Rattle.played_moments.specs.Moments.{IsAmong, Mail, flushing_of, reply_of, round_of}
use Rattle.played_turns.proofs.Lists.{at_front, at_last}
use Rattle.played_turns.proofs.Sights.{did_begun}
use Rattle.played_turns.proofs.Places.{Behind, Keeps, part, same_client}
use Rattle.played_turns.proofs.Hubs.{Puts}

pub client_sends : (o : Option Batch) (s : Standing) → (sends_at o s).client ≡ s.client
client_sends None s = refl
client_sends (Some b) s = refl

did_sends : (o : Option Batch) (s : Standing) → did (sends_at o s) ≡ did s
did_sends None s = did_begun s
did_sends (Some b) s = refl

-- ---- the next batch

module _ (c : ℕ) (batches : List Batch) (s : Standing) (mail : Mail) (h : Behind c batches s mail) (none : s.sent ≡ None) where
  own_is : of_client c batches ≡ s.own.list
  own_is = sym (own_none c batches (tail_of s) none) ∙ h.own

  next_is : next_batch c batches (now_of s) ≡ its_next s
  next_is =
      let base : unwrap_or (base_now s.sent s.past.list) 0 ≡ length s.past.list =
      ap (λ (o : Option Batch). unwrap_or (base_now o s.past.list) 0) none in
      let round : length (of_client c batches) + 1 ≡ length s.own.list + 1 = ap (λ (l : List Batch). length l + 1) own_is in
      let mine : c ≡ s.client = sym h.client in
      cc (base, round, mine)

  begun_tail : sends c batches None (tail_of s) ≡ tail_of (begun s)
  begun_tail =
      ap (λ (b : Batch). let t : Tail = record { sent = Some b; now = record { base = None; before = []; rest = [] } } in t) next_is

  begun_own : own_batches c batches (tail_of (begun s)) ≡ (begun s).own.list
  begun_own =
      ap (own_batches c batches) (sym begun_tail)
      ∙ sends_own c batches (tail_of s) none
      ∙ ap (λ (l : List Batch). l ++ next_batch c batches (now_of s) ∷ []) own_is
      ∙ ap (λ (b : Batch). s.own.list ++ b ∷ []) next_is

tail_sends : (c : ℕ) (batches : List Batch) (o : Option Batch) (s : Standing) (mail : Mail) → s.sent ≡ o
    → Behind c batches s mail
    → sends c batches o (tail_of s) ≡ tail_of (sends_at o s)
tail_sends c batches None s mail is h = begun_tail c batches s mail h is
tail_sends c batches (Some b) s mail is h = refl

pub push_part : (c : ℕ) (batches : List Batch) (old new : Standing) (push : Pushed) (end : Option End) (mail mail' : Mail)
    → Puts push mail mail'
    → new ≡ sends_at old.sent old → new.sent ≡ Some push.batch → Behind c batches old mail
    → record (put_out (sends c batches old.sent (tail_of old)) (part old end mail)) { flush = flushing_of new.flush new.sent }
    ≡ part new end mail'
push_part c batches old new push end mail mail' puts goes_on batch h =
    let tail : sends c batches old.sent (tail_of old) ≡ tail_of new =
    tail_sends c batches old.sent old mail refl h ∙ ap tail_of (sym goes_on) in
    same_client (record (put_out (sends c batches old.sent (tail_of old)) (part old end mail)) { flush = flushing_of new.flush new.sent }) (part new end mail')
    (ap answers_in (sym (ap did goes_on ∙ did_sends old.sent old)))
    tail
    (sym puts.taken)
    (ap (λ (t : Tail). round_sent t.sent) tail ∙ ap round_sent batch ∙ ap (option_map round_of) (sym puts.out))
    (ap (option_map reply_of) (sym puts.inbox))
    (ap (option_map round_of) (sym puts.held))
    refl
    refl

-- ---- where it stands

longer : (own : List Batch) (b : Batch) (o : Option Pushed) → ForSome o (IsAmong own) → ForSome o (IsAmong (own ++ b ∷ []))
longer own b o h push e =
    let it = h push e in
    record { before = it.before; round = it.round; is = at_front own (b ∷ []) it.before push.batch it.is }

put_among : (own : List Batch) (push : Pushed) (o : Option Pushed) → o ≡ Some push → IsAmong own push → ForSome o (IsAmong own)
put_among own push o is h p e = let same : push ≡ p = cc (is, e) in subst (IsAmong own) same h

begun_behind : (c : ℕ) (batches : List Batch) (s : Standing) (push : Pushed) (mail mail' : Mail) → Puts push mail mail'
    → s.sent ≡ None
    → its_next s ≡ push.batch → Behind c batches s mail → Behind c batches (begun s) mail'
begun_behind c batches s push mail mail' puts none next h = record {
  client = h.client;
  past = h.past;
  own = begun_own c batches s mail h none;
  reply = h.reply;
  out = put_among (begun s).own.list push mail'.out puts.out (record {
    before = length s.own.list;
    round = ap (λ (b : Batch). b.round) (sym next);
    is = at_last s.own.list (its_next s) ∙ ap (λ (b : Batch). Some b) next;
  });
  held = subst (λ (o : Option Pushed). ForSome o (IsAmong (begun s).own.list)) (sym puts.held)
      (longer s.own.list (its_next s) mail.held h.held);
  inbox = subst (λ (o : Option Replied). ForSome o (λ (reply : Replied). IsPrefix reply.past.list batches))
      (sym puts.inbox) h.inbox;
}

again_behind : (c : ℕ) (batches : List Batch) (s : Standing) (push : Pushed) (mail mail' : Mail) → Puts push mail mail'
    → s.sent ≡ Some push.batch → Keeps s
    → Behind c batches s mail → Behind c batches s mail'
again_behind c batches s push mail mail' puts is keeps h =
    let last = keeps.last push.batch is in
    record {
      client = h.client;
      past = h.past;
      own = h.own;
      reply = h.reply;
      out = put_among s.own.list push mail'.out puts.out (record { before = last.before; round = last.round; is = last.is });
      held = subst (λ (o : Option Pushed). ForSome o (IsAmong s.own.list)) (sym puts.held) h.held;
      inbox = subst (λ (o : Option Replied). ForSome o (λ (reply : Replied). IsPrefix reply.past.list batches))
          (sym puts.inbox) h.inbox;
    }

sends_behind : (c : ℕ) (batches : List Batch) (o : Option Batch) (s : Standing) (push : Pushed) (mail mail' : Mail) → s.sent ≡ o
    → Puts push mail mail'
    → (sends_at o s).sent ≡ Some push.batch → Keeps s → Behind c batches s mail → Behind c batches (sends_at o s) mail'
sends_behind c batches None s push mail mail' is puts batch keeps h =
    begun_behind c batches s push mail mail' puts is (cc (batch)) h
sends_behind c batches (Some b) s push mail mail' is puts batch keeps h =
    again_behind c batches s push mail mail' puts batch keeps h

pub push_behind : (c : ℕ) (batches : List Batch) (old new : Standing) (push : Pushed) (mail mail' : Mail) → Puts push mail mail'
    → new ≡ sends_at old.sent old → new.sent ≡ Some push.batch → Keeps old → Behind c batches old mail
    → Behind c batches new mail'
push_behind c batches old new push mail mail' puts goes_on batch keeps h =
    subst (λ (s : Standing). Behind c batches s mail') (sym goes_on)
    (sends_behind c batches old.sent old push mail mail' refl puts (sym (ap (λ (s : Standing). s.sent) goes_on) ∙ batch) keeps h)
