-- A client's part of a played run, by its session and what is on its way.
use Rattle.std.proofs.Common.{◌≡◌, refl, ap, sym, ◌∙◌, subst, ℕ, ◌+◌, List, [], ◌∷◌, ◌++◌, length, Option, Some, None, true}
use Rattle.std.specs.Prelude.{is_some, slice_get}
use Rattle.std.specs.Option.{ForSome, option_map, option_to_list}
use Rattle.std.proofs.lemmas.List.{length-append}
use mathlib.Core.List.{IsPrefix}
use Rattle.cloud_base.specs.Events.{answers_in}
use Rattle.cloud_base.specs.declared.batch.Batch.{Batch}
use Rattle.cloud_base.specs.declared.batch.Tail.{Tail}
use Rattle.cloud_base.specs.declared.end.End.{End}
use Rattle.cloud_base.specs.declared.update.Answer.{Answer}
use Rattle.cloud_base.specs.declared.update.Event.{Event}
use Rattle.batch_history.specs.Batches.{of_client}
use Rattle.packet_codec.specs.Replies.{Replied}
use Rattle.session_core.specs.declared.flushing.Flushing.{Flushing as Flush}
use Rattle.session_core.specs.declared.flushing.Flushing.TheVariants.{Closed, Marked, Sent}
use Rattle.session_core.specs.Standings.{Standing, IsFlushing, IsRunning, IsStanding, base_now, tail_of}
use Rattle.session_core.specs.Sessions.{noted_at as notes_at, noted_before, noted_rest}
use Rattle.client_runner.specs.Steps.{Ran, did}
use Rattle.played_record.specs.Clients.{Client, Flushing, Reply, noted, noted_at, own_batches}
use Rattle.played_moments.specs.Moments.{IsAmong, IsClientAt, Mail, flushing_of, reply_of, round_of}
use Rattle.played_turns.proofs.Lists.{at_last}
use Rattle.played_turns.proofs.Sights.{did_noted}

abbrev pub part : Standing → Option End → Mail → Client
part s end mail = record {
  answers = answers_in (did s);
  tail = tail_of s;
  taken = mail.taken;
  out = option_map round_of mail.out;
  inbox = option_map reply_of mail.inbox;
  held = option_map round_of mail.held;
  flush = flushing_of s.flush s.sent;
  end = end;
}

abbrev made : List Answer → Tail → ℕ → Option ℕ → Option Reply → Option ℕ → Flushing → Option End → Client
made a t n o i h f e = record { answers = a; tail = t; taken = n; out = o; inbox = i; held = h; flush = f; end = e }

pub same_client : (x y : Client) → x.answers ≡ y.answers → x.tail ≡ y.tail → x.taken ≡ y.taken → x.out ≡ y.out
    → x.inbox ≡ y.inbox → x.held ≡ y.held
    → x.flush ≡ y.flush → x.end ≡ y.end → x ≡ y
same_client x y a t n o i h f e =
    let same : made x.answers x.tail x.taken x.out x.inbox x.held x.flush x.end ≡ made y.answers y.tail y.taken y.out y.inbox y.held y.flush y.end = cc in
    same

-- client c behind a record, by its session
pub record Behind (c : ℕ) (batches : List Batch) (s : Standing) (mail : Mail) : Type 0 where
  pub client : s.client ≡ c
  pub past : IsPrefix s.past.list batches
  pub own : own_batches c batches (tail_of s) ≡ s.own.list
  pub reply : s.reply ≡ None
  pub out : ForSome mail.out (IsAmong s.own.list)
  pub held : ForSome mail.held (IsAmong s.own.list)
  pub inbox : ForSome mail.inbox (λ (reply : Replied). IsPrefix reply.past.list batches)

pub behind_of : (c : ℕ) (batches : List Batch) (run : Ran) (mail : Mail) → IsClientAt c batches run mail
    → Behind c batches run.stands mail
behind_of c batches run mail h = record {
  client = h.client;
  past = h.past;
  own = h.own;
  reply = h.reply;
  out = h.out;
  held = h.held;
  inbox = h.inbox;
}

pub client_at : (c : ℕ) (batches : List Batch) (run : Ran) (mail : Mail) → Behind c batches run.stands mail
    → IsClientAt c batches run mail
client_at c batches run mail h = record {
  client = h.client;
  past = h.past;
  own = h.own;
  reply = h.reply;
  out = h.out;
  held = h.held;
  inbox = h.inbox;
}

-- ---- the outstanding batch

-- the last of a client's batches
pub record IsLast (own : List Batch) (b : Batch) : Type 0 where
  pub before : ℕ
  pub round : b.round ≡ before + 1
  pub is : slice_get own before ≡ Some b
  pub all : length own ≡ before + 1

-- what a session keeps of it
pub record Keeps (s : Standing) : Type 0 where
  pub last : ForSome s.sent (IsLast s.own.list)
  pub rest : is_some s.sent ≡ true → s.rest ≡ []
  pub flush : s.flush ≡ Sent → is_some s.sent ≡ true

sent_kept : (s : Standing) (f : Flush) → IsFlushing s f → f ≡ Sent → is_some s.sent ≡ true
sent_kept s Closed h e = absurd (cc (e))
sent_kept s Marked h e = absurd (cc (e))
sent_kept s Sent h e = ap (λ (o : Option Batch). is_some o) h.sent

rest_kept : (s : Standing) (o : Option Batch) → s.sent ≡ o → IsRunning s → is_some o ≡ true → s.rest ≡ []
rest_kept s None is h e = absurd (cc (e))
rest_kept s (Some b) is h e = (h.sent b is).unpulled

last_kept : (s : Standing) (b : Batch) → s.sent ≡ Some b → IsRunning s → IsLast s.own.list b
last_kept s b is h =
    let before = of_client s.client s.past.list in
    let own : s.own.list ≡ before ++ b ∷ [] = h.own ∙ ap (λ (o : Option Batch). before ++ option_to_list o) is in
    let all : length s.own.list ≡ length before + 1 = ap (λ (l : List Batch). length l) own ∙ length-append before (b ∷ []) in
    record {
      before = length before;
      round = (h.sent b is).round ∙ all;
      is = subst (λ (l : List Batch). slice_get l (length before) ≡ Some b) (sym own) (at_last before b);
      all = all;
    }

pub keeps_of : (s : Standing) → IsStanding s → Keeps s
keeps_of s h = record {
  last = λ b is. last_kept s b is h.running;
  rest = rest_kept s s.sent refl h.running;
  flush = sent_kept s s.flush h.flush;
}

-- ---- an event is noted

rest_noted : (o : Option Batch) (rest : List Event) (e : Event) → (is_some o ≡ true → rest ≡ []) → is_some o ≡ true
    → noted_rest (is_some o) rest e ≡ []
rest_noted None rest e h is = absurd (cc (is))
rest_noted (Some b) rest e h is = h is

pub keeps_noted : (f : Flush) (e : Event) (s : Standing) → (f ≡ Sent → is_some s.sent ≡ true) → Keeps s → Keeps (notes_at f e s)
keeps_noted f e s open_too h = record {
  last = h.last;
  rest = rest_noted s.sent s.rest e h.rest;
  flush = open_too;
}

pub behind_noted : (c : ℕ) (batches : List Batch) (f : Flush) (e : Event) (s : Standing) (mail : Mail) → Behind c batches s mail
    → Behind c batches (notes_at f e s) mail
behind_noted c batches f e s mail h = record {
  client = h.client;
  past = h.past;
  own = h.own;
  reply = h.reply;
  out = h.out;
  held = h.held;
  inbox = h.inbox;
}

now_noted : (o : Option Batch) (past : List Batch) (before rest : List Event) (e : Event)
    → noted_at (base_now o past) e (record { base = base_now o past; before = before; rest = rest })
    ≡ record { base = base_now o past; before = noted_before (is_some o) before e; rest = noted_rest (is_some o) rest e }
now_noted None past before rest e = refl
now_noted (Some b) past before rest e = refl

pub part_noted : (f : Flush) (e : Event) (s : Standing) (end : Option End) (mail : Mail) → Keeps s
    → record (noted e (part s end mail)) { answers = answers_in (did s ++ e ∷ []); flush = flushing_of f s.sent }
    ≡ part (notes_at f e s) end mail
part_noted f e s end mail h =
    let now = now_noted s.sent s.past.list s.before s.rest e in
    let same = did_noted f e s h.rest in
    cc (now, ap answers_in same)
