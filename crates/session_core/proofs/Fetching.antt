-- What a session fetches from its client's inbox.
use Rattle.std.proofs.Common.{◌≡◌, refl, sym, ◌∙◌, ap, subst, Some, None, Option, length}
use Rattle.std.specs.Prelude.{ℕ, ◌+◌, is_some, true, slice_get}
use Rattle.std.specs.Option.{ForSome}
use Rattle.atomic_table.specs.Seated.{TableId}
use Rattle.cloud_base.specs.declared.batch.Batch.{Batch}
use Rattle.slot_hub.specs.Boxes.{Seen}
use Rattle.slot_hub.specs.Runs.{Carries}
use Rattle.packet_codec.specs.Pushes.{Pushed}
use Rattle.packet_codec.specs.Replies.{Replied}
use Rattle.packet_codec.specs.Runs.{reply_of_run}
use Rattle.session_core.specs.declared.turns.Pull.{Pull}
use Rattle.session_core.specs.declared.turns.Pull.TheVariants as pull
use Rattle.session_core.specs.Standings.{Standing, IsRunning, IsKeptReply, is_of_run}
use Rattle.session_core.specs.Meetings.{Fetches, FindsFor, Finds, round_sent, without_reply}

module _ {S : Type 0} (c : ℕ) (hub hub' : Seen S Pushed Replied) where
  pub fetches_none : (sent : Option Batch) (kept : Option Replied) → round_sent sent ≡ None → Fetches c sent kept pull.Idle None hub hub
  fetches_none None kept h = (refl, refl, refl)
  fetches_none (Some b) kept h = cc

  pub fetches_kept : (sent : Option Batch) (kept : Option Replied) (round : ℕ) (reply : Replied) → round_sent sent ≡ Some round → kept ≡ Some reply → Fetches c sent kept (pull.Took round) (Some reply) hub hub
  fetches_kept None kept round reply h is = cc
  fetches_kept (Some b) None round reply h is = cc
  fetches_kept (Some b) (Some k) round reply h is = (let e : round ≡ b.round = cc in ap pull.Took e, sym is, refl)

  pub fetches_found : (sent : Option Batch) (kept : Option Replied) (round : ℕ) (result : Pull) (got : Option Replied) → round_sent sent ≡ Some round → kept ≡ None → FindsFor c round result got hub hub' → Fetches c sent kept result got hub hub'
  fetches_found None kept round result got h is found = cc
  fetches_found (Some b) (Some k) round result got h is found = cc
  fetches_found (Some b) None round result got h is found = let e : round ≡ b.round = cc in subst (λ (n : ℕ). FindsFor c n result got hub hub') e found

-- a reply of the run that answers the outstanding round may be kept
module _ {S : Type 0} (s : Standing) (h : IsRunning s) (hub hub' : Seen S Pushed Replied) (of : is_of_run s hub.run) (round : ℕ) (out : round_sent s.sent ≡ Some round) where
  round_is : (o : Option Batch) → s.sent ≡ o → (is_some o ≡ true) × (round ≡ length s.own.list)
  round_is None is = let none = ap round_sent is in cc
  round_is (Some b) is =
      let same : round_sent s.sent ≡ Some b.round = ap round_sent is in
      let number : round ≡ b.round = cc in
      (refl, number ∙ (h.sent b is).round)

  kept_reply : (reply : Replied) (got : Option Replied) → Finds s.client round got hub hub' → got ≡ Some reply → IsKeptReply s.schema s.client s.past s.own s.sent reply
  kept_reply reply got finds is =
      let same : finds.reply ≡ reply = let a = finds.got_is in cc in
      let carries : Carries (λ (r : Replied). r.client) reply_of_run hub.run s.client finds.reply = finds.looks.got finds.reply refl in
      let told = round_is s.sent refl in
      subst (IsKeptReply s.schema s.client s.past s.own s.sent) same (record {
        waits = told.0;
        round = finds.answers ∙ told.1;
        client = carries.client;
        of_schema = carries.of.schema ∙ sym of.schema;
        of_past = let a = carries.of.server in let b = of.server in cc;
        of_own = own_same (carries.of.client) of.client carries.client;
        is = finds.is;
      })
    where
      own_same : {c : ℕ} {t u : TableId} → slice_get hub.run.tables (c + 1) ≡ Some t → slice_get hub.run.tables (s.client + 1) ≡ Some u → c ≡ s.client → t ≡ u
      own_same {c = c} {t = t} {u = u} a b e = let same : slice_get hub.run.tables (c + 1) ≡ slice_get hub.run.tables (s.client + 1) = ap (λ (n : ℕ). slice_get hub.run.tables (n + 1)) e in cc

  pub kept_found : (result : Pull) (got : Option Replied) → FindsFor s.client round result got hub hub' → ForSome got (IsKeptReply s.schema s.client s.past s.own s.sent)
  kept_found pull.Idle got found reply is = absurd found
  kept_found (pull.Took number) got found reply is = kept_reply reply got found.1 is
  kept_found (pull.Nothing taken) got found reply is = let a = found.got_is in cc
  kept_found (pull.Busy holder) got found reply is = let a = found.got_is in cc

-- a session without a reply is the same without what was found
pub found_left : (s : Standing) (got : Option Replied) → s.reply ≡ None → s ≡ without_reply got s
found_left s None none = refl
found_left s (Some reply) none = ap (λ (r : Option Replied). record s { reply = r }) none
