-- What a runner keeps.
use Rattle.std.proofs.Common.{◌≡◌, refl, sym, ap, ◌∙◌, subst}
use Rattle.std.specs.Prelude.{◌+◌, ◌-◌, ◌^◌, min, length, Option, Some}
use Rattle.cloud_base.specs.Events.{answers_in}
use Rattle.cloud_base.specs.declared.end.End.{End}
use Rattle.code_machine.specs.declared.need.Need.{Need}
use Rattle.slot_hub.specs.Boxes.{Seen}
use Rattle.packet_codec.specs.Pushes.{Pushed}
use Rattle.packet_codec.specs.Replies.{Replied}
use Rattle.session_core.specs.declared.flushing.Flushing.{Flushing}
use Rattle.session_core.specs.declared.flushing.Flushing.TheVariants.{Closed}
use Rattle.session_core.specs.Standings.{IsStanding}
use Rattle.client_runner.specs.declared.client.Client.{Client}
use Rattle.client_runner.specs.declared.runner.Runner.TheInside.{Inside}
use Rattle.client_runner.specs.declared.stepped.Mode.{Mode}
use Rattle.client_runner.specs.declared.stepped.Mode.TheVariants as mode
use Rattle.client_runner.specs.declared.stepped.Stepped.{Stepped}
use Rattle.client_runner.specs.declared.stepped.Stepped.TheVariants as stepped
use Rattle.client_runner.specs.Runners.{Follows, IsOver, IsRunner, ran_in}
use Rattle.client_runner.specs.Steps.{IsRan, StepsAt, did, ends_counted}
use Rattle.client_runner.specs.Turned.{IsMode, end_of, ended_in, mode_after, needs_after}
use Rattle.client_runner.proofs.Meeting.{had_step}
use Rattle.client_runner.proofs.Needing.{is_next, reaches}

closed_at : (m : Mode) (f : Flushing) → IsMode m f → (end : End) → ended_in m ≡ Some end → f ≡ Closed
closed_at mode.Goes f h end is = h
closed_at mode.Waits f h end is = cc
closed_at (mode.Ended other) f h end is = h

pub is_ran : (a : Inside) → IsRunner a → IsStanding a.client.session.stands → IsRan (ran_in a)
is_ran a h standing =
    let s = a.client.session.stands in
    record {
      standing = standing;
      schema = h.follows.schema;
      needed = reaches a.client.machine s.client (answers_in (did s)) (did s) h.follows.stands;
      over = λ end is. is_next (Need.Ended end) a.client.machine s.client (did s) (h.over end is);
      closed = closed_at a.mode s.flush h.mode;
    }

-- ---- a step more

ended_after : (out : Stepped) → ended_in (mode_after out) ≡ end_of out
ended_after stepped.Went = refl
ended_after stepped.Yields = refl
ended_after stepped.Waits = refl
ended_after (stepped.Ended end) = refl

module _ {S : Type 0} (hub hub' : Seen S Pushed Replied) where
  pub goes_on : (a : Inside) (new : Client) (out : Stepped) → IsRunner a → IsStanding a.client.session.stands → Follows new → IsOver (end_of out) new → IsMode (mode_after out) new.session.stands.flush
      → StepsAt (ended_in a.mode) a.client.session.stands.flush a.client.machine.code.now a.client.session.stands new.session.stands out hub hub'
      → IsRunner (record { client = new; mode = mode_after out; needs = needs_after a.mode a.needs })
  goes_on a new out h standing follows over is steps = record {
    follows = follows;
    over = subst (λ (o : Option End). IsOver o new) (sym (ended_after out)) over;
    mode = is;
    needs = had_step hub hub' a.mode a.client.machine.code.now a.client.session.stands new.session.stands out a.needs standing.running h.mode steps h.needs
        ∙ ap (λ (o : Option End). min (length (did new.session.stands) + ends_counted o) (2 ^ 64 - 1)) (sym (ended_after out));
  }
