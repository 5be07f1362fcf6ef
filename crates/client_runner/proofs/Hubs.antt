-- What meetings leave of a hub, and of which run a session is behind them.
use Rattle.std.proofs.Common.{◌≡◌, refl, sym, ap, ◌∙◌, subst, arith}
use Rattle.std.specs.Prelude.{ℕ, ◌≤◌, ◌⊎◌, Bool, Option, Some, None, is_some, Ok, slice_get}
use Rattle.std.specs.Option.{ForSome}
use mathlib.Core.Logic.{inl, inr}
use Rattle.cloud_base.specs.declared.batch.Batch.{Batch}
use Rattle.cloud_base.specs.declared.update.Event.TheVariants.{Yield}
use Rattle.slot_hub.specs.Boxes.{Seen, Slot}
use Rattle.slot_hub.specs.Runs.{Named}
use Rattle.slot_hub.specs.Trades.{Keeps}
use Rattle.packet_codec.specs.Pushes.{Pushed}
use Rattle.packet_codec.specs.Replies.{Replied}
use Rattle.session_core.specs.declared.turns.Half.{Half}
use Rattle.session_core.specs.declared.turns.Half.TheVariants as half
use Rattle.session_core.specs.declared.turns.Pull.{Pull}
use Rattle.session_core.specs.declared.turns.Pull.TheVariants as pull
use Rattle.session_core.specs.declared.turns.PushOut.{PushOut}
use Rattle.session_core.specs.declared.turns.PushOut.TheVariants as out
use Rattle.session_core.specs.declared.turns.Turn.{Turn}
use Rattle.session_core.specs.declared.turns.Turn.TheVariants as turn
use Rattle.session_core.specs.declared.turns.Yielded.{Yielded}
use Rattle.session_core.specs.Standings.{Standing, IsRunning, is_of_run}
use Rattle.session_core.specs.Sessions.{noted, sends_at}
use Rattle.session_core.specs.Meetings.{Fetches, Finds, FindsFor, HandsOut, Joins, LooksIn, Pulls, Pushes, Starves, Turns, Yields}

-- ---- the hub

less : (a b c : ℕ) → a ≤ b → b ≤ c → a ≤ c
less a b c h k = omega (arith, h, k)

module _ {S : Type 0} where
  pub record Kept (hub hub' : Seen S Pushed Replied) : Type 0 where
    pub keeps : Keeps hub hub'
    pub took : hub'.took ≡ hub.took

  kept_self : (hub : Seen S Pushed Replied) → Kept hub hub
  kept_self hub = record {
    keeps = record { run = refl; told = refl; looks = λ slot. omega arith; busies = λ slot. omega arith };
    took = refl;
  }

  pub kept_same : (hub hub' : Seen S Pushed Replied) → hub' ≡ hub → Kept hub hub'
  kept_same hub hub' is = subst (Kept hub) (sym is) (kept_self hub)

  kept_then : (a b c : Seen S Pushed Replied) → Kept a b → Kept b c → Kept a c
  kept_then a b c h k = record {
    keeps = record {
      run = k.keeps.run ∙ h.keeps.run;
      told = k.keeps.told ∙ h.keeps.told;
      looks = λ (slot : Slot). less (a.looks slot) (b.looks slot) (c.looks slot) (h.keeps.looks slot) (k.keeps.looks slot);
      busies = λ (slot : Slot). less (a.busies slot) (b.busies slot) (c.busies slot) (h.keeps.busies slot) (k.keeps.busies slot);
    };
    took = k.took ∙ h.took;
  }

module _ {S : Type 0} (hub hub' : Seen S Pushed Replied) where
  found_kept : (c round : ℕ) (result : Pull) (got : Option Replied) → FindsFor c round result got hub hub' → Kept hub hub'
  found_kept c round pull.Idle got h = absurd h
  found_kept c round (pull.Took number) got h = record { keeps = h.1.looks.keeps; took = h.1.looks.took }
  found_kept c round (pull.Nothing taken) got h = record { keeps = h.looks.keeps; took = h.looks.took }
  found_kept c round (pull.Busy holder) got h = record { keeps = h.looks.keeps; took = h.looks.took }

  fetched_kept : (c : ℕ) (sent : Option Batch) (kept : Option Replied) (result : Pull) (got : Option Replied) → Fetches c sent kept result got hub hub' → Kept hub hub'
  fetched_kept c None kept result got h = kept_same hub hub' h.2
  fetched_kept c (Some b) None result got h = found_kept c b.round result got h
  fetched_kept c (Some b) (Some reply) result got h = kept_same hub hub' h.2

  handed_kept : (push : Pushed) (again : Bool) (result : PushOut) → HandsOut push again result hub hub' → Kept hub hub'
  handed_kept push again (out.New round) h = record { keeps = h.1.puts.keeps; took = h.1.puts.took }
  handed_kept push again (out.Again round) h = record { keeps = h.1.puts.keeps; took = h.1.puts.took }
  handed_kept push again (out.Busy holder) h = record { keeps = h.puts.keeps; took = h.puts.took }

  pulled_kept : (old new : Standing) (result : Pull) → Pulls old new result hub hub' → Kept hub hub'
  pulled_kept old new result h = fetched_kept old.client old.sent old.reply result h.got h.fetches

  pushed_kept : (old new : Standing) (result : PushOut) → Pushes old new result hub hub' → Kept hub hub'
  pushed_kept old new result h = handed_kept h.push (is_some old.sent) result h.hands

  lost : (old new : Standing) → ((new.reply ≡ old.reply) × (hub' ≡ hub)) ⊎ ((reply : Replied) × (new.reply ≡ Some reply) × (old.reply ≡ None) × LooksIn old.client (Ok (Some reply)) hub hub') → Kept hub hub'
  lost old new (inl h) = kept_same hub hub' h.1
  lost old new (inr h) = record { keeps = h.3.keeps; took = h.3.took }

  pub starved_kept : (old marked new : Standing) (h : Half) → Starves old marked new h hub hub' → Kept hub hub'
  starved_kept old marked new half.Pull h = lost old new h.kept
  starved_kept old marked new half.Push h = pulled_kept marked h.pulled h.pull_is h.pull

module _ {S : Type 0} (hub hub' : Seen S Pushed Replied) where
  pub yielded_kept : (old new : Standing) (y : Yielded) → Yields old new y hub hub' → Kept hub hub'
  yielded_kept old new y h = kept_then hub h.between hub' (pulled_kept hub h.between (noted Yield old) h.pulled y.pull h.pull) (pushed_kept h.between hub' h.pulled new y.push h.push)

  pub turned_kept : (old new : Standing) (t : Turn) → Turns old new t hub hub' → Kept hub hub'
  turned_kept old new turn.Done h = pulled_kept hub hub' old new _ h.pull
  turned_kept old new (turn.NotYet outstanding taken) h = kept_then hub h.between hub' (pulled_kept hub h.between old h.pulled h.pull_is h.pull) (pushed_kept h.between hub' h.pulled new h.push_is h.push)

-- ---- the run

-- a reply that is kept is of the chronicle of what the session has seen
abbrev pub KeepsPast : Standing → Type 0
KeepsPast s = ForSome s.reply (λ (reply : Replied). reply.past.chronicle ≡ s.past.chronicle)

pub keeps_past : (s : Standing) → IsRunning s → KeepsPast s
keeps_past s h reply is = (h.reply reply is).of_past

abbrev IsServers : Named → Replied → Type 0
IsServers run reply = slice_get run.tables 0 ≡ Some reply.past.chronicle

module _ {S : Type 0} (hub hub' : Seen S Pushed Replied) where
  out_of_inbox : (c round : ℕ) (reply : Replied) → Finds c round (Some reply) hub hub' → IsServers hub.run reply
  out_of_inbox c round reply h =
      let same : reply ≡ h.reply = cc (h.got_is) in
      subst (IsServers hub.run) (sym same) ((h.looks.got h.reply refl).of.server)

  found_of : (c round : ℕ) (result : Pull) (reply : Replied) → FindsFor c round result (Some reply) hub hub' → IsServers hub.run reply
  found_of c round pull.Idle reply h = absurd h
  found_of c round (pull.Took number) reply h = out_of_inbox c round reply h.1
  found_of c round (pull.Nothing taken) reply h = let none = h.got_is in cc
  found_of c round (pull.Busy holder) reply h = let none = h.got_is in cc

  fetched_of : (s : Standing) (sent : Option Batch) (kept : Option Replied) (result : Pull) (reply : Replied) → KeepsPast s → s.reply ≡ kept → is_of_run s hub.run → Fetches s.client sent kept result (Some reply) hub hub' → IsServers hub.run reply
  fetched_of s None kept result reply past is of h = let none = h.1 in cc
  fetched_of s (Some b) None result reply past is of h = found_of s.client b.round result reply h
  fetched_of s (Some b) (Some other) result reply past is of h =
      let same : reply ≡ other = cc (h.1) in
      subst (IsServers hub.run) (sym same) (of.server ∙ ap Some (sym (past other is)))

  joined_of : (got : Option Replied) (old new : Standing) (result : Pull) → KeepsPast old → is_of_run old hub.run → Fetches old.client old.sent old.reply result got hub hub' → Joins got old new → is_of_run new hub.run
  joined_of None old new result past of h joins = subst (λ (s : Standing). is_of_run s hub.run) (sym joins) of
  joined_of (Some reply) old new result past of h joins =
      subst (λ (s : Standing). is_of_run s hub.run) (sym joins.goes_on)
      (record { schema = of.schema; server = fetched_of old old.sent old.reply result reply past refl of h; client = of.client })

  pulled_of : (old new : Standing) (result : Pull) → KeepsPast old → is_of_run old hub.run → Pulls old new result hub hub' → is_of_run new hub'.run
  pulled_of old new result past of h =
      subst (is_of_run new) (sym (pulled_kept hub hub' old new result h).keeps.run) (joined_of h.got old new result past of h.fetches h.joins)

  sends_of : (o : Option Batch) (s : Standing) (run : Named) → is_of_run s run → is_of_run (sends_at o s) run
  sends_of None s run of = record { schema = of.schema; server = of.server; client = of.client }
  sends_of (Some b) s run of = of

  pushed_of : (old new : Standing) (result : PushOut) → is_of_run old hub.run → Pushes old new result hub hub' → is_of_run new hub'.run
  pushed_of old new result of h =
      subst (is_of_run new) (sym (pushed_kept hub hub' old new result h).keeps.run)
      (subst (λ (s : Standing). is_of_run s hub.run) (sym h.goes_on) (sends_of old.sent old hub.run of))

module _ {S : Type 0} (hub hub' : Seen S Pushed Replied) where
  pub yielded_of : (old new : Standing) (y : Yielded) → IsRunning old → is_of_run old hub.run → Yields old new y hub hub' → is_of_run new hub'.run
  yielded_of old new y h of is =
      pushed_of is.between hub' is.pulled new y.push
      (pulled_of hub is.between (noted Yield old) is.pulled y.pull (keeps_past old h) (record { schema = of.schema; server = of.server; client = of.client }) is.pull)
      is.push

  pub turned_of : (old new : Standing) (t : Turn) → KeepsPast old → is_of_run old hub.run → Turns old new t hub hub' → is_of_run new hub'.run
  turned_of old new turn.Done past of is = pulled_of hub hub' old new _ past of is.pull
  turned_of old new (turn.NotYet outstanding taken) past of is =
      pushed_of is.between hub' is.pulled new is.push_is
      (pulled_of hub is.between old is.pulled is.pull_is past of is.pull)
      is.push
