-- What a station holds, as its server goes on and copies come and go.
use Rattle.std.proofs.Common.{◌≡◌, ◌≢◌, ℕ, ◌<◌, List, length, ap, sym, subst, ◌∙◌, inl, inr}
use Rattle.std.specs.Prelude.{Option, Some, None, slice_set, slice_index_or}
use Rattle.std.specs.Option.{ForSome}
use Rattle.std.proofs.lemmas.Bool.{cases_eq}
use Rattle.std.proofs.lemmas.List.{length-set, get_or-set_same, get_or-set_other}
use Rattle.cloud_base.specs.declared.schedule.Fate.{Fate}
use Rattle.cloud_base.specs.declared.schedule.Fate.TheVariants.{Pass, LosePush, LoseReply, Twice, Hold}
use Rattle.slot_hub.specs.Boxes.{Seen}
use Rattle.slot_hub.specs.Runs.{Named, Carries}
use Rattle.packet_codec.specs.Pushes.{Pushed}
use Rattle.packet_codec.specs.Replies.{Replied}
use Rattle.packet_codec.specs.Runs.{push_of_run}
use Rattle.server_core.specs.Servers.{Serving, IsServerOf}
use Rattle.server_core.specs.Stations.{Holding, IsHolding, IsHoldingOf, Fares, Releases, Handles, held_of, copy_of, moment, push_client}

-- a copy is of the push
copy_is : (fate : Fate) (push copy : Pushed) → copy_of fate push ≡ Some copy → copy ≡ push
copy_is Hold push copy e = cc (e)
copy_is Pass push copy e = absurd (cc (e))
copy_is LosePush push copy e = absurd (cc (e))
copy_is LoseReply push copy e = absurd (cc (e))
copy_is Twice push copy e = absurd (cc (e))

pub copy_carries : (fate : Fate) (push : Pushed) (run : Named) (c : ℕ) (kept : Option Pushed) → kept ≡ copy_of fate push → Carries push_client push_of_run run c push → ForSome kept (Carries push_client push_of_run run c)
copy_carries fate push run c kept e carries copy is = subst (Carries push_client push_of_run run c) (sym (copy_is fate push copy (sym e ∙ is))) carries

pub kept_client : (run : Named) (c : ℕ) (kept : Option Pushed) → ForSome kept (Carries push_client push_of_run run c) → ForSome kept (λ (push : Pushed). push.batch.client ≡ c)
kept_client run c kept carries push is = (carries push is).client

pub kept_of_run : (run : Named) (c : ℕ) (kept : Option Pushed) → ForSome kept (Carries push_client push_of_run run c) → ForSome kept (λ (push : Pushed). push_of_run push run)
kept_of_run run c kept carries push is = (carries push is).of

-- the server goes on
pub server_goes_on : (holding : Holding) (server : Serving) (run : Named) → IsHoldingOf holding run → IsServerOf server run → IsHoldingOf (record { server = server; held = holding.held }) run
server_goes_on holding server run of home = record { server = home; held = of.held }

pub places_go_on : (holding : Holding) (server : Serving) (run : Named) → IsHolding holding → IsServerOf holding.server run → IsServerOf server run → IsHolding (record { server = server; held = holding.held })
places_go_on holding server run kept was home = record {
  places = kept.places ∙ was.clients ∙ sym home.clients;
  client = kept.client;
}

-- a copy comes, or goes
module _ (holding : Holding) (c : ℕ) (copy : Option Pushed) (there : c < length holding.held) where
  abbrev pub changed : Holding
  changed = record { server = holding.server; held = slice_set holding.held c copy }

  pub held_here : held_of c changed ≡ copy
  held_here = get_or-set_same holding.held c copy None there

  pub held_elsewhere : (k : ℕ) → k ≢ c → held_of k changed ≡ held_of k holding
  held_elsewhere k other = get_or-set_other holding.held c k copy None other

  held_each : (P : ℕ → Pushed → Type 0) → ((k : ℕ) (push : Pushed) → held_of k holding ≡ Some push → P k push) → ForSome copy (P c) → (k : ℕ) (push : Pushed) → held_of k changed ≡ Some push → P k push
  held_each P each new k push lies = elim (cases_eq k c) [
    | inl here ↦
        let is : copy ≡ Some push = sym held_here ∙ ap (λ (i : ℕ). held_of i changed) (sym here) ∙ lies in
        subst (λ (i : ℕ). P i push) (sym here) (new push is)
    | inr other ↦ each k push (sym (held_elsewhere k other) ∙ lies)
  ]

  pub changed_of : (run : Named) → IsHoldingOf holding run → ForSome copy (λ (push : Pushed). push_of_run push run) → IsHoldingOf changed run
  changed_of run of new = record { server = of.server; held = held_each (λ k push. push_of_run push run) of.held new }

  pub changed_places : IsHolding holding → ForSome copy (λ (push : Pushed). push.batch.client ≡ c) → IsHolding changed
  changed_places kept new = record {
    places = length-set holding.held c copy ∙ kept.places;
    client = held_each (λ k push. push.batch.client ≡ k) kept.client new;
  }

-- a push is handled: it fares by its fate, the copy that was held passes, and a copy is held
module _ {S : Type 0} where
  pub handled : (c : ℕ) (fate : Fate) (push : Pushed) (old fared freed new : Holding) (before between after : Seen S Pushed Replied) (copy : Option Pushed) → c < length old.held → Fares fate c push (moment old before) (moment fared between) → fared.held ≡ old.held → Releases c (held_of c fared) (moment fared between) (moment freed after) → freed.held ≡ slice_set fared.held c None → copy ≡ copy_of fate push → new.held ≡ slice_set freed.held c copy → new.server ≡ freed.server → Handles c fate push old new before after
  handled c fate push old fared freed new before between after copy there fares same releases gone is comes stays = record {
    between = moment fared between;
    fares = fares;
    releases = subst (λ (s : Serving). Releases c (held_of c old) (moment fared between) (record { server = s; seen = after })) (sym stays)
        (subst (λ (l : List (Option Pushed)). Releases c (slice_index_or l c None) (moment fared between) (moment freed after)) same releases);
    held = ap (λ (l : List (Option Pushed)). slice_index_or l c None) comes ∙ get_or-set_same freed.held c copy None there_still ∙ is;
    others = λ k other. elsewhere k other;
  }
    where
      there_still : c < length freed.held
      there_still = subst (λ (n : ℕ). c < n) (sym (ap length gone ∙ length-set fared.held c None ∙ ap length same)) there

      elsewhere : (k : ℕ) → k ≢ c → held_of k new ≡ held_of k old
      elsewhere k other =
          ap (λ (l : List (Option Pushed)). slice_index_or l k None) comes ∙ get_or-set_other freed.held c k copy None other
          ∙ ap (λ (l : List (Option Pushed)). slice_index_or l k None) gone ∙ get_or-set_other fared.held c k None None other
          ∙ ap (λ (l : List (Option Pushed)). slice_index_or l k None) same
