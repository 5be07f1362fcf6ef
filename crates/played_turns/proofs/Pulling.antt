-- A pull of a session is a pull of the played run.
use Rattle.std.proofs.Common.{◌≡◌, refl, ap, sym, ◌∙◌, subst, arith, ℕ, ◌≤◌, List, [], length, Option, Some, None, true}
use Rattle.std.specs.Prelude.{is_some}
use Rattle.std.specs.Option.{ForSome, option_map, option_map_or}
use Rattle.cloud_base.specs.Events.{answers_in}
use Rattle.cloud_base.specs.declared.batch.Batch.{Batch}
use Rattle.cloud_base.specs.declared.end.End.{End}
use Rattle.cloud_base.specs.declared.update.Event.{Event}
use Rattle.batch_history.specs.Batches.{of_client}
use Rattle.front_table.specs.TokenView.{TokenView}
use Rattle.slot_hub.specs.Trades.{taken_round}
use Rattle.packet_codec.specs.Pushes.{Pushed}
use Rattle.packet_codec.specs.Replies.{Replied}
use Rattle.session_core.specs.declared.flushing.Flushing.{Flushing as Flush}
use Rattle.session_core.specs.declared.flushing.Flushing.TheVariants.{Closed, Marked, Sent}
use Rattle.session_core.specs.Standings.{Standing, tail_of}
use Rattle.session_core.specs.Sessions.{flush_after_pull, took as goes_on_from}
use Rattle.session_core.specs.Meetings.{Joins}
use Rattle.client_runner.specs.Steps.{did}
use Rattle.played_record.specs.Clients.{Reply, pulled, round_sent, took}
use Rattle.played_record.proofs.Told.{took_own}
use Rattle.played_moments.specs.Moments.{IsAmong, Mail, flushing_of, reply_of, round_of}
use Rattle.played_turns.proofs.Lists.{fewer_of_client}
use Rattle.played_turns.proofs.Sights.{did_took}
use Rattle.played_turns.proofs.Places.{Behind, Keeps, part, same_client}
use Rattle.played_turns.proofs.Hubs.{Gets, Looks}

-- a reply comes only where a push is outstanding
pub sent_of : (sent : Option Batch) (n : ℕ) → round_sent sent ≡ Some n → (b : Batch) × (sent ≡ Some b)
sent_of None n e = absurd (cc (e))
sent_of (Some b) n e = (b, refl)

taken_same : (found : Option Replied) (taken : ℕ)
    → option_map_or (λ (reply : Reply). reply.round) (option_map reply_of found) taken
    ≡ taken_round (λ (r : Replied). r.round) None found taken
taken_same None taken = refl
taken_same (Some r) taken = refl

did_joined : (got : Option Replied) (old new : Standing) → Joins got old new → did new ≡ did old
did_joined None old new h = ap did h
did_joined (Some reply) old new h = ap did h.goes_on ∙ did_took reply.past old

tail_joined : (got : Option Replied) (old new : Standing) → Joins got old new → ForSome got (λ (r : Replied). old.rest ≡ [])
    → took (option_map reply_of got) (tail_of old) ≡ tail_of new
tail_joined None old new h none = ap tail_of (sym h)
tail_joined (Some reply) old new h none =
    ap (λ (rest : List Event). record { sent = None; now = record { base = Some (length reply.past.list); before = old.before; rest = rest } }) (sym (none reply refl))
    ∙ ap tail_of (sym h.goes_on)

none_ran : (sent : Option Batch) (found got : Option Replied) (rest : List Event) → Gets sent found got
    → (is_some sent ≡ true → rest ≡ []) → ForSome got (λ (r : Replied). rest ≡ [])
none_ran sent found got rest gets h r e =
    let out = sent_of sent r.round (gets.round r e) in
    h (ap (λ (o : Option Batch). is_some o) out.1)

pub pull_part : (old new : Standing) (got : Option Replied) (end : Option End) (mail mail' : Mail) → Keeps old
    → Looks mail mail' → Gets old.sent mail.inbox got
    → Joins got old new → record (pulled (part old end mail)) { flush = flushing_of new.flush new.sent } ≡ part new end mail'
pull_part old new got end mail mail' keeps looks gets joins =
    same_client (record (pulled (part old end mail)) { flush = flushing_of new.flush new.sent }) (part new end mail')
    (ap answers_in (sym (did_joined got old new joins)))
    (ap (λ (g : Option Reply). took g (tail_of old)) gets.is ∙ tail_joined got old new joins (none_ran old.sent mail.inbox got old.rest gets keeps.rest))
    (taken_same mail.inbox mail.taken ∙ sym looks.taken)
    (ap (option_map round_of) (sym looks.out))
    (ap (option_map reply_of) (sym looks.inbox))
    (ap (option_map round_of) (sym looks.held))
    refl
    refl

-- ---- where it stands

among : (own : List Batch) (old new : Option Pushed) → new ≡ old → ForSome old (IsAmong own) → ForSome new (IsAmong own)
among own old new same h = subst (λ (o : Option Pushed). ForSome o (IsAmong own)) (sym same) h

took_behind : (c : ℕ) (batches : List Batch) (old : Standing) (reply : Replied) (mail mail' : Mail) → Keeps old
    → Looks mail mail'
    → Gets old.sent mail.inbox (Some reply) → of_client old.client reply.past.list ≡ old.own.list → Behind c batches old mail
    → Behind c batches (goes_on_from reply.past old) mail'
took_behind c batches old reply mail mail' keeps looks gets holds h =
    let out = sent_of old.sent reply.round (gets.round reply refl) in
    let last = keeps.last out.0 out.1 in
    let front = h.inbox reply (gets.from reply refl) in
    let mine : of_client c reply.past.list ≡ old.own.list = ap (λ (k : ℕ). of_client k reply.past.list) (sym h.client) ∙ holds in
    let as_many : length (of_client c reply.past.list) ≡ length old.own.list = ap (λ (l : List Batch). length l) mine in
    let fewer = fewer_of_client c reply.past.list batches front in
    let joined : out.0.round ≤ length (of_client c batches) =
    let round = last.round in let all = last.all in omega (arith, round, all, as_many, fewer) in
    record {
      client = h.client;
      past = front;
      own = took_own c batches out.0 (length reply.past.list) (tail_of old) out.1 joined ∙ h.own;
      reply = refl;
      out = among old.own.list mail.out mail'.out looks.out h.out;
      held = among old.own.list mail.held mail'.held looks.held h.held;
      inbox = λ r e. let none = looks.inbox in absurd (cc (none, e));
    }

same_behind : (c : ℕ) (batches : List Batch) (old : Standing) (mail mail' : Mail) → Looks mail mail' → Behind c batches old mail
    → Behind c batches old mail'
same_behind c batches old mail mail' looks h = record {
  client = h.client;
  past = h.past;
  own = h.own;
  reply = h.reply;
  out = among old.own.list mail.out mail'.out looks.out h.out;
  held = among old.own.list mail.held mail'.held looks.held h.held;
  inbox = λ r e. let none = looks.inbox in absurd (cc (none, e));
}

pub pull_behind : (c : ℕ) (batches : List Batch) (old new : Standing) (got : Option Replied) (mail mail' : Mail) → Keeps old
    → Looks mail mail'
    → Gets old.sent mail.inbox got → Joins got old new → Behind c batches old mail → Behind c batches new mail'
pull_behind c batches old new None mail mail' keeps looks gets joins h =
    subst (λ (s : Standing). Behind c batches s mail') (sym joins) (same_behind c batches old mail mail' looks h)
pull_behind c batches old new (Some reply) mail mail' keeps looks gets joins h =
    subst (λ (s : Standing). Behind c batches s mail') (sym joins.goes_on)
    (took_behind c batches old reply mail mail' keeps looks gets joins.holds h)

not_sent : {A : Type 0} (f : Flush) → flush_after_pull f ≡ Sent → A
not_sent Closed e = absurd (cc (e))
not_sent Marked e = absurd (cc (e))
not_sent Sent e = absurd (cc (e))

took_keeps : (past : TokenView Batch) (old : Standing) → Keeps (goes_on_from past old)
took_keeps past old = record {
  last = λ b e. absurd (cc (e));
  rest = λ e. absurd (cc (e));
  flush = λ e. not_sent old.flush e;
}

pub pull_keeps : (old new : Standing) (got : Option Replied) → Keeps old → Joins got old new → Keeps new
pull_keeps old new None keeps joins = subst Keeps (sym joins) keeps
pull_keeps old new (Some reply) keeps joins = subst Keeps (sym joins.goes_on) (took_keeps reply.past old)
