-- Both halves of a meeting, one behind the other.
use Rattle.std.proofs.Common.{◌≡◌, refl, sym, ◌∙◌, ap, subst, List, [], ◌∷◌, ◌++◌, length, Some, None, Option, append-nil}
use Rattle.std.specs.Prelude.{◌≢◌, is_some, Bool, true, false, ◌<◌, ◌^◌, ℕ, Contains}
use Rattle.std.specs.Option.{ForSome, option_to_list}
use Rattle.std.proofs.lemmas.List.Elements.{Contains-push}
use Rattle.cloud_base.specs.Events.{IsMark, EndsAtMark}
use Rattle.cloud_base.specs.declared.batch.Batch.{Batch}
use Rattle.cloud_base.specs.declared.update.Event.{Event}
use Rattle.cloud_base.specs.declared.update.Event.TheVariants.{Yield}
use Rattle.batch_history.specs.Batches.{of_client}
use Rattle.batch_joins.specs.Joins.{all_updates}
use Rattle.schema_fj.specs.States.{StateStands}
use Rattle.slot_hub.specs.Boxes.{Seen}
use Rattle.slot_hub.specs.Runs.{Named}
use Rattle.packet_codec.specs.Pushes.{Pushed}
use Rattle.packet_codec.specs.Replies.{Replied}
use Rattle.session_core.specs.declared.flushing.Flushing.{Flushing}
use Rattle.session_core.specs.declared.flushing.Flushing.TheVariants.{Closed, Marked, Sent}
use Rattle.session_core.specs.declared.inbox.Ready.{Ready}
use Rattle.session_core.specs.declared.turns.Pull.{Pull}
use Rattle.session_core.specs.declared.turns.Pull.TheVariants as pull
use Rattle.session_core.specs.Standings.{Standing, IsRunning, IsStanding, IsFlushing, IsMarked, is_of_run, updates_now}
use Rattle.session_core.specs.Sessions.{MayBegin, noted_before, noted_rest, noted, flush_after_pull}
use Rattle.session_core.specs.Meetings.{Fetches, FindsFor, IsReady, Joins, reply_of, without_reply}
use Rattle.session_core.proofs.EventLemmas.{last_or-append, ends_at}
use Rattle.session_core.proofs.Notes.{updates_now-noted}
use Rattle.session_core.proofs.Takes.{own_member}

no_last : (l : List Batch) (b : Batch) → l ++ b ∷ [] ≡ [] → ⊥
no_last [] b k = cc
no_last (x ∷ l) b k = cc

-- where a push is outstanding there are batches of its client
own_sent : (s : Standing) (b : Batch) → IsRunning s → s.sent ≡ Some b → s.own.list ≡ of_client s.client s.past.list ++ b ∷ []
own_sent s b h is = h.own ∙ ap (λ (o : Option Batch). of_client s.client s.past.list ++ option_to_list o) is

own_begun : (s : Standing) (b : Batch) → IsRunning s → s.sent ≡ Some b → s.own.list ≡ [] → ⊥
own_begun s b h is k = no_last (of_client s.client s.past.list) b (sym (own_sent s b h is) ∙ k)

-- ---- behind a yield's mark

marks_at : (s : Standing) (o : Option Batch) → IsRunning s → s.sent ≡ o → EndsAtMark (noted_rest (is_some o) s.rest Yield)
marks_at s None h is = ends_at s.rest Yield tt
marks_at s (Some b) h is = subst EndsAtMark (sym (h.sent b is).unpulled) tt

no_event : (l : List Event) (e : Event) → l ++ e ∷ [] ≡ [] → ⊥
no_event [] e k = cc
no_event (x ∷ l) e k = cc

opens_at : (s : Standing) (o : Option Batch) → IsRunning s → s.sent ≡ o → s.own.list ≡ [] → noted_rest (is_some o) s.rest Yield ≢ []
opens_at s None h is none = no_event s.rest Yield
opens_at s (Some b) h is none = absurd (own_begun s b h is none)

pub may_begin-yield : (s : Standing) → IsRunning s → length s.own.list < 2 ^ 32 → MayBegin (noted Yield s)
may_begin-yield s h few = record { rounds = few; marks = marks_at s s.sent h refl; opens = opens_at s s.sent h refl }

before_at : (waits : Bool) (before : List Event) → waits ≡ true → EndsAtMark (noted_before waits before Yield)
before_at true before is = ends_at before Yield tt
before_at false before is = cc

pub ready-yield : (s : Standing) (ready : Ready) → IsRunning s → IsReady s ready → IsReady (noted Yield s) ready
ready-yield s ready h is = record {
  kept = is.kept;
  rejoined = record {
    state_is = subst (StateStands s.schema ready.state (all_updates ready.reply.past.list)) (sym (updates_now-noted s.flush Yield s h ∙ append-nil (updates_now s))) is.rejoined.state_is;
    longer = is.rejoined.longer;
    holds = is.rejoined.holds;
    own = is.rejoined.own;
  };
}

pub marked-yield : (s : Standing) (ready : Ready) → IsReady s ready → EndsAtMark (noted Yield s).before
marked-yield s ready is = before_at (is_some s.sent) s.before is.kept.waits

-- ---- at an open flush

marked_ends : (l : List Event) → IsMarked l → EndsAtMark l
marked_ends [] h = tt
marked_ends (x ∷ l) h = subst IsMark (sym h) tt

marked_behind : (xs l : List Event) → IsMarked (xs ++ l) → EndsAtMark l
marked_behind xs [] h = tt
marked_behind xs (x ∷ l) h = subst IsMark (sym (sym (last_or-append None xs (x ∷ l)) ∙ h)) tt

before_marked : (s : Standing) (o : Option Batch) → IsRunning s → s.sent ≡ o → IsMarked (s.before ++ s.rest) → EndsAtMark s.before
before_marked s None h is marked = h.before is
before_marked s (Some b) h is marked =
    marked_ends s.before (subst IsMarked (ap (λ (l : List Event). s.before ++ l) (h.sent b is).unpulled ∙ append-nil s.before) marked)

-- what ran ends at its mark, before a pull and since
pub record IsAtMark (s : Standing) : Type 0 where
  pub before : EndsAtMark s.before
  pub rest : EndsAtMark s.rest
  pub opens : s.own.list ≡ [] → s.rest ≢ []

at_mark : (s : Standing) (f : Flushing) → IsRunning s → IsFlushing s f → f ≢ Closed → IsAtMark s
at_mark s Closed h is still = absurd (still refl)
at_mark s Marked h is still = record {
  before = before_marked s s.sent h refl is;
  rest = marked_behind s.before s.rest is;
  opens = λ none empty.
      let marked : IsMarked ([] ++ []) = subst IsMarked (ap (λ (l : List Event). l ++ s.rest) (h.opens none).1 ∙ empty) is in
      cc;
}
at_mark s Sent h is still = record {
  before = subst EndsAtMark (sym is.before) tt;
  rest = subst EndsAtMark (sym is.rest) tt;
  opens = λ none. absurd (own_begun s is.batch h is.sent none);
}

pub open_at_mark : (s : Standing) → IsStanding s → s.flush ≢ Closed → IsAtMark s
open_at_mark s h still = at_mark s s.flush h.running h.flush still

pub may_begin-open : (s : Standing) → IsStanding s → s.flush ≢ Closed → length s.own.list < 2 ^ 32 → MayBegin s
may_begin-open s h still few = let at = open_at_mark s h still in record { rounds = few; marks = at.rest; opens = at.opens }

-- ---- behind the pull

pub joined_may : (got : Option Replied) (old new : Standing) → Joins got old new → MayBegin old → MayBegin new
joined_may None old new joins may = subst MayBegin (sym joins) may
joined_may (Some reply) old new joins may = subst MayBegin (sym joins.goes_on) (record { rounds = may.rounds; marks = may.marks; opens = may.opens })

pub left_may : (got : Option Replied) (s : Standing) → MayBegin s → MayBegin (without_reply got s)
left_may None s may = may
left_may (Some reply) s may = record { rounds = may.rounds; marks = may.marks; opens = may.opens }

-- the session is of the same run
pub joined_run : (ready : Option Ready) (old new : Standing) (run : Named) → Joins (reply_of ready) old new → ForSome ready (IsReady old) → is_of_run old run → is_of_run new run
joined_run None old new run joins each of = subst (λ (s : Standing). is_of_run s run) (sym joins) of
joined_run (Some ready) old new run joins each of =
    let kept = (each ready refl).kept in
    subst (λ (s : Standing). is_of_run s run) (sym joins.goes_on)
    (record { schema = of.schema; server = of.server ∙ ap Some (sym kept.of_past); client = of.client })

pub left_run : (got : Option Replied) (s : Standing) (run : Named) → is_of_run s run → is_of_run (without_reply got s) run
left_run None s run of = of
left_run (Some reply) s run of = record { schema = of.schema; server = of.server; client = of.client }

pub left_ready : (got : Option Replied) (s : Standing) (ready : Ready) → IsReady (without_reply got s) ready → IsReady s ready
left_ready None s ready is = is
left_ready (Some reply) s ready is = record {
  kept = is.kept;
  rejoined = record { state_is = is.rejoined.state_is; longer = is.rejoined.longer; holds = is.rejoined.holds; own = is.rejoined.own };
}

-- a reply that is joined isn't kept, so whether it was kept before makes no difference
pub joins_left : (got : Option Replied) (old new : Standing) → Joins got (without_reply got old) new → Joins got old new
joins_left None old new joins = joins
joins_left (Some reply) old new joins = record { goes_on = joins.goes_on; longer = joins.longer; holds = joins.holds; own = joins.own }

pub joins_noted : (got : Option Replied) (old new : Standing) → Joins got (noted Yield (without_reply got old)) new → Joins got (noted Yield old) new
joins_noted None old new joins = joins
joins_noted (Some reply) old new joins = record { goes_on = joins.goes_on; longer = joins.longer; holds = joins.holds; own = joins.own }

-- ---- what was fetched

module _ {S : Type 0} (c : ℕ) (hub hub' : Seen S Pushed Replied) where
  found_run : (round : ℕ) (result : Pull) (got : Option Replied) → FindsFor c round result got hub hub' → hub'.run ≡ hub.run
  found_run round pull.Idle got h = absurd h
  found_run round (pull.Took number) got h = h.1.looks.keeps.run
  found_run round (pull.Nothing taken) got h = h.looks.keeps.run
  found_run round (pull.Busy holder) got h = h.looks.keeps.run

  pub fetched_run : (sent : Option Batch) (kept : Option Replied) (result : Pull) (got : Option Replied) → Fetches c sent kept result got hub hub' → hub'.run ≡ hub.run
  fetched_run None kept result got h = ap (λ (x : Seen S Pushed Replied). x.run) h.2
  fetched_run (Some b) None result got h = found_run b.round result got h
  fetched_run (Some b) (Some reply) result got h = ap (λ (x : Seen S Pushed Replied). x.run) h.2

  found_round : (round : ℕ) (result : Pull) (reply : Replied) → FindsFor c round result (Some reply) hub hub' → (n : ℕ) × (result ≡ pull.Took n)
  found_round round pull.Idle reply h = absurd h
  found_round round (pull.Took number) reply h = (number, refl)
  found_round round (pull.Nothing taken) reply h = let none = h.got_is in cc
  found_round round (pull.Busy holder) reply h = let none = h.got_is in cc

  -- a reply that was fetched is of a round that was taken
  pub fetched_round : (sent : Option Batch) (kept : Option Replied) (result : Pull) (reply : Replied) → Fetches c sent kept result (Some reply) hub hub' → (n : ℕ) × (result ≡ pull.Took n)
  fetched_round None kept result reply h = let none = h.1 in cc
  fetched_round (Some b) None result reply h = found_round b.round result reply h
  fetched_round (Some b) (Some other) result reply h = (b.round, h.0)

-- ---- a flush that is met

closes : (f : Flushing) → f ≢ Closed → flush_after_pull f ≡ Closed → f ≡ Sent
closes Closed still closed = absurd (still refl)
closes Marked still closed = cc
closes Sent still closed = refl

-- the batch with its mark is among those that the reply tells of
pub record MeetsFlush (old : Standing) (past : List Batch) : Type 0 where
  pub batch : Batch
  pub was : old.sent ≡ Some batch
  pub marked : IsMarked (batch.before ++ batch.rest)
  pub holds : Contains past batch

pub meets_flush : (old : Standing) (past : List Batch) → IsStanding old → old.flush ≢ Closed → flush_after_pull old.flush ≡ Closed → of_client old.client past ≡ old.own.list → MeetsFlush old past
meets_flush old past h still closed holds =
    let sent = subst (IsFlushing old) (closes old.flush still closed) h.flush in
    record {
      batch = sent.batch;
      was = sent.sent;
      marked = sent.marked;
      holds = own_member old.client past sent.batch
          (subst (λ (l : List Batch). Contains l sent.batch) (sym (holds ∙ own_sent old sent.batch h.running sent.sent)) (Contains-push (of_client old.client old.past.list) sent.batch));
    }
