-- A run of a program goes on where one of its clients does.
use Rattle.std.proofs.Common.{◌≡◌, refl, sym, ap, ◌∙◌, subst}
use Rattle.std.specs.Prelude.{ℕ, zero, suc, ◌≢◌, ◌⊎◌, All, List, Some, slice_get}
use Rattle.std.proofs.Math.Nat.{suc-ne-zero}
use mathlib.Core.Logic.{inl, inr}
use mathlib.Core.List.{IsPrefix}
use Rattle.cloud_base.specs.Events.{answers_in}
use Rattle.cloud_base.specs.declared.update.Answer.{Answer}
use Rattle.cloud_base.specs.declared.update.Event.{Event}
use Rattle.typed_program.specs.declared.program.Parts.{Parts}
use Rattle.code_gen.specs.Compiled.{Compiled}
use Rattle.slot_hub.specs.Boxes.{Seen}
use Rattle.slot_hub.specs.Runs.{clients_of}
use Rattle.packet_codec.specs.Pushes.{Pushed}
use Rattle.packet_codec.specs.Replies.{Replied}
use Rattle.session_core.specs.Standings.{is_of_run}
use Rattle.server_core.specs.Servers.{IsServing}
use Rattle.server_core.specs.Stations.{Holding, IsHolding, IsHoldingOf}
use Rattle.typed_program.specs.Shapes.{IsAnswered}
use Rattle.client_runner.specs.Steps.{IsRan, Ran, did}
use Rattle.played_record.specs.Clients.{Client}
use Rattle.played_record.specs.Laws.{GoesOn, IsMoment}
use Rattle.played_record.specs.Programs.{trace_of}
use Rattle.played_record.specs.Worlds.{World, did as did_in}
use Rattle.played_bounds.specs.Few.{HasFewRounds}
use Rattle.played_moments.specs.Moments.{GoesOnAt, IsAt, Mail, RunsBy, mail_of}
use Rattle.cloud_play.specs.Playings.{Plays}
use Rattle.cloud_play.proofs.Little.{did_at}
use Rattle.cloud_play.proofs.Telling.{InTurn, runs_by, trace_answered}
use Rattle.cloud_play.proofs.Lists.{as_long, elsewhere, in_range, there, with_at}

pub same_or_not : (a b : ℕ) → (a ≡ b) ⊎ (a ≢ b)
same_or_not zero zero = inl refl
same_or_not zero (suc b) = inr (λ e. suc-ne-zero b (sym e))
same_or_not (suc a) zero = inr (suc-ne-zero a)
same_or_not (suc a) (suc b) = further (same_or_not a b)
  where
    further : (a ≡ b) ⊎ (a ≢ b) → (suc a ≡ suc b) ⊎ (suc a ≢ suc b)
    further (inl e) = inl (ap suc e)
    further (inr other) = inr (λ e. other (cc e))

pub by_place : (P : Type 0) (a b : ℕ) → (a ≡ b → P) → (a ≢ b → P) → P
by_place P a b same other = pick (same_or_not a b)
  where
    pick : (a ≡ b) ⊎ (a ≢ b) → P
    pick (inl e) = same e
    pick (inr e) = other e

some_same : {A : Type 0} (x y : A) → Some x ≡ Some y → x ≡ y
some_same x y e = cc e

-- what holds of the client that goes on, and of the others, holds of each
each_of : (P : ℕ → Ran → Type 0) (runs : List Ran) (c : ℕ) (old new : Ran) → slice_get runs c ≡ Some old → P c new
    → ((k : ℕ) (run : Ran) → k ≢ c → slice_get runs k ≡ Some run → P k run)
    → (k : ℕ) (run : Ran) → slice_get (with_at runs c new) k ≡ Some run → P k run
each_of P runs c old new is here others k run e = by_place (P k run) k c at_it apart
  where
    at_it : k ≡ c → P k run
    at_it same =
        let found : slice_get (with_at runs c new) k ≡ Some new = ap (slice_get (with_at runs c new)) same ∙ there runs c new (in_range runs c old is) in
        let run_is : new ≡ run = some_same new run (sym found ∙ e) in
        subst (λ (n : ℕ). P n run) (sym same) (subst (P c) run_is here)

    apart : k ≢ c → P k run
    apart other = others k run other (sym (elsewhere runs c k new other) ∙ e)

module _ {S : Type 0} (p : Parts) (c : ℕ) (old new : Ran) (runs : List Ran) (o n : Holding) (hub hub' : Seen S Pushed Replied) (w w' : World) where
  pub plays_on : (h : Plays p runs o hub w) → slice_get runs c ≡ Some old
      → GoesOnAt c new h.at.boxes o n hub hub' w' → w'.batches ≡ n.server.joined.list
      → ((k : ℕ) (run : Ran) (mail : Mail) → k ≢ c → IsAt k run mail w → IsAt k run mail w')
      → IsMoment (trace_of p) w' → HasFewRounds w'
      → new.code ≡ old.code → All (IsAnswered p.schema) (did new.stands) → IsRan new → is_of_run new.stands hub'.run → hub'.run ≡ hub.run
      → IsHoldingOf n hub'.run → IsServing n.server → IsHolding n
      → Plays p (with_at runs c new) n hub' w'
  plays_on h is goes batches others moment few code told ran of same server serving holds = record {
    program = h.program;
    at = record {
      boxes = goes.boxes';
      told = goes.told;
      batches = batches;
      clients = each_of (λ k run. IsAt k run (mail_of k goes.boxes' n hub'.taken) w') runs c old new is goes.at
          (λ k run other e. subst (λ (m : Mail). IsAt k run m w') (sym (goes.others k other)) (others k run (mail_of k h.at.boxes o hub.taken) other (h.at.clients k run e)));
    };
    moment = moment;
    few = few;
    count = as_long runs c new ∙ h.count;
    clients = ap clients_of same ∙ h.clients;
    each = each_of (λ k run. Compiled p k run.code) runs c old new is (subst (Compiled p c) (sym code) (h.each c old is)) (λ k run other e. h.each k run e);
    answered = each_of (λ k run. All (IsAnswered p.schema) (did run.stands)) runs c old new is told (λ k run other e. h.answered k run e);
    ran = each_of (λ k run. IsRan run) runs c old new is ran (λ k run other e. h.ran k run e);
    of_run = each_of (λ k run. is_of_run run.stands hub'.run) runs c old new is of
        (λ k run other e. subst (is_of_run run.stands) (sym same) (h.of_run k run e));
    server = server;
    serving = serving;
    holds = holds;
  }

-- the code of a client needs what its trace has next
pub runs_now : InTurn → (p : Parts) (c : ℕ) (run : Ran) (mail : Mail) (w : World) → Compiled p c run.code → IsAt c run mail w → IsMoment (trace_of p) w → GoesOn (trace_of p)
    → All (IsAnswered p.schema) (did run.stands) → RunsBy (trace_of p c) run
runs_now laws p c run mail w compiled at moment goes_on told =
    let events = did run.stands in
    let follows = moment.follows c in
    let same : did_in c w ≡ events = did_at c run mail w at in
    let answers : (w.client c).answers ≡ answers_in events = ap (λ (x : Client). x.answers) at.part in
    let front : IsPrefix events (trace_of p c (answers_in events)).0 = subst (λ (l : List Answer). IsPrefix events (trace_of p c l).0) answers (subst (λ (l : List Event). IsPrefix l (trace_of p c (w.client c).answers).0) same follows.front) in
    runs_by laws p c run compiled at.behind.client (trace_answered p.schema (trace_of p c (answers_in events)) events (goes_on.in_order c (answers_in events)) front told)
