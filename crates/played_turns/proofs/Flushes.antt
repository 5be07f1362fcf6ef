-- How far a flush is, by a session and by a played run.
use Rattle.std.proofs.Common.{◌≡◌, refl, ap, sym, ◌∙◌, subst, ℕ, Bool, true, false, Option, Some, None}
use Rattle.std.specs.Prelude.{◌≢◌, is_some}
use Rattle.std.specs.Option.{option_map}
use Rattle.std.proofs.lemmas.Bool.{eq-eqb}
use Rattle.cloud_base.specs.declared.batch.Batch.{Batch}
use Rattle.packet_codec.specs.Replies.{Replied}
use Rattle.session_core.specs.declared.flushing.Flushing.{Flushing as Flush}
use Rattle.session_core.specs.declared.flushing.Flushing.TheVariants.{Closed, Marked, Sent}
use Rattle.session_core.specs.Standings.{Standing}
use Rattle.session_core.specs.Sessions.{flush_after_pull, flush_after_push as sends_flush, next_batch, sends_at}
use Rattle.session_core.specs.Meetings.{Joins}
use Rattle.played_record.specs.Clients.{closed, flush_after_push, is_met, round_sent}
use Rattle.played_moments.specs.Moments.{flushing_of, reply_of}
use Rattle.played_turns.proofs.Hubs.{Gets}

pub closed_is : (f : Flush) (sent : Option Batch) → f ≡ Closed → flushing_of f sent ≡ closed
closed_is f sent e = ap (λ (f : Flush). flushing_of f sent) e

-- ---- behind a pull

abbrev pub flush_got : Option Replied → Flush → Flush
flush_got None f = f
flush_got (Some reply) f = flush_after_pull f

pub flush_joined : (got : Option Replied) (old new : Standing) → Joins got old new → new.flush ≡ flush_got got old.flush
flush_joined None old new h = ap (λ (s : Standing). s.flush) h
flush_joined (Some reply) old new h = ap (λ (s : Standing). s.flush) h.goes_on

pub closed_joined : (got : Option Replied) (old new : Standing) → Joins got old new → old.flush ≡ Closed → new.flush ≡ Closed
closed_joined None old new h shut = ap (λ (s : Standing). s.flush) h ∙ shut
closed_joined (Some reply) old new h shut = ap (λ (s : Standing). s.flush) h.goes_on ∙ ap flush_after_pull shut

still_open : (f : Flush) (sent sent' : Option Batch) → flush_after_pull f ≢ Closed
    → flushing_of f sent ≡ flushing_of (flush_after_pull f) sent'
still_open Closed sent sent' h = refl
still_open Marked sent sent' h = refl
still_open Sent sent sent' h = absurd (h refl)

pub flush_still : (got : Option Replied) (old new : Standing) → Joins got old new → new.flush ≢ Closed
    → flushing_of old.flush old.sent ≡ flushing_of new.flush new.sent
flush_still None old new h still = ap (λ (s : Standing). flushing_of s.flush s.sent) (sym h)
flush_still (Some reply) old new h still =
    let after : new.flush ≡ flush_after_pull old.flush = ap (λ (s : Standing). s.flush) h.goes_on in
    still_open old.flush old.sent new.sent (subst (λ (f : Flush). f ≢ Closed) after still)
    ∙ ap (λ (f : Flush). flushing_of f new.sent) (sym after)

-- ---- a flush that is met

-- the reply to its round came
abbrev pub met_at : Flush → Option Replied → Bool
met_at Closed got = false
met_at Marked got = false
met_at Sent None = false
met_at Sent (Some reply) = true

met_round : (sent : Option Batch) (reply : Replied) → round_sent sent ≡ Some reply.round
    → is_met (flushing_of Sent sent) (Some (reply_of reply)) ≡ true
met_round None reply e = absurd (cc (e))
met_round (Some b) reply e = eq-eqb reply.round b.round (cc (e))

pub met_is : (f : Flush) (sent : Option Batch) (found got : Option Replied) → Gets sent found got
    → is_met (flushing_of f sent) (option_map reply_of got) ≡ met_at f got
met_is Closed sent found got h = refl
met_is Marked sent found got h = refl
met_is Sent sent found None h = refl
met_is Sent sent found (Some reply) h = met_round sent reply (h.round reply refl)

pub met_closed : (f : Flush) (got : Option Replied) → f ≢ Closed → flush_got got f ≡ Closed → met_at f got ≡ true
met_closed Closed got still e = absurd (still refl)
met_closed Marked None still e = absurd (cc (e))
met_closed Marked (Some reply) still e = absurd (cc (e))
met_closed Sent None still e = absurd (cc (e))
met_closed Sent (Some reply) still e = refl

pub unmet_open : (f : Flush) (got : Option Replied) → flush_got got f ≢ Closed → met_at f got ≡ false
unmet_open Closed got still = refl
unmet_open Marked got still = refl
unmet_open Sent None still = refl
unmet_open Sent (Some reply) still = absurd (still refl)

-- ---- behind a push

pub closed_sends : (o : Option Batch) (s : Standing) → s.flush ≡ Closed → (sends_at o s).flush ≡ Closed
closed_sends None s shut = ap sends_flush shut
closed_sends (Some b) s shut = shut

first_round : (f : Flush) (o : Option Batch) (b : Batch) → o ≡ None → (f ≡ Sent → is_some o ≡ true)
    → flush_after_push (flushing_of f None) None (Some b.round) ≡ flushing_of (sends_flush f) (Some b)
first_round Closed o b none h = refl
first_round Marked o b none h = refl
first_round Sent o b none h = absurd (cc (none, h refl))

same_round : (f : Flush) (b : Batch) (out : Option ℕ)
    → flush_after_push (flushing_of f (Some b)) (Some b) out ≡ flushing_of f (Some b)
same_round Closed b out = refl
same_round Marked b out = refl
same_round Sent b out = refl

pub flush_sends : (o : Option Batch) (s : Standing) → s.sent ≡ o → (s.flush ≡ Sent → is_some o ≡ true)
    → flush_after_push (flushing_of s.flush o) o (round_sent (sends_at o s).sent)
    ≡ flushing_of (sends_at o s).flush (sends_at o s).sent
flush_sends None s is h = first_round s.flush None (next_batch s) refl h
flush_sends (Some b) s is h = same_round s.flush b (round_sent s.sent) ∙ ap (flushing_of s.flush) (sym is)
