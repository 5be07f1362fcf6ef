-- What the machine and the session of a client keep with each other.
use Rattle.std.specs.Prelude.{◌≡◌, ◌-◌, ◌^◌, min, Option}
use Rattle.std.specs.Option.{ForSome}
use Rattle.cloud_base.specs.Events.{answers_in}
use Rattle.cloud_base.specs.declared.end.End.{End}
use Rattle.code_machine.specs.Machine.{Ends, Stands, IsNeeded, IsShapedNeed}
use Rattle.code_machine.specs.declared.need.Need.{Need}
use Rattle.client_runner.specs.declared.client.Client.{Client}
use Rattle.client_runner.specs.declared.runner.Runner.TheInside.{Inside}
use Rattle.client_runner.specs.Steps.{Ran, did, needs_had}
use Rattle.client_runner.specs.Turned.{IsMode, ended_in}

-- the machine did the events of the session, and got their answers
pub record Follows (c : Client) : Type 0 where
  pub schema : c.machine.code.now.schema ≡ c.session.stands.schema
  pub stands : Stands c.machine c.session.stands.client (answers_in (did c.session.stands))
      (did c.session.stands)

-- and has this need next
pub record IsDue (need : Need) (c : Client) : Type 0 where
  pub schema : c.machine.code.now.schema ≡ c.session.stands.schema
  pub needed : IsNeeded need c.machine c.session.stands.client
      (answers_in (did c.session.stands)) (did c.session.stands)
  pub shaped : IsShapedNeed c.machine.code.now.schema need

-- and has ended, if it has
abbrev pub IsOver : Option End → Client → Type 0
IsOver ended c = ForSome ended (λ end. Ends c.machine end c.session.stands.client
    (answers_in (did c.session.stands)) (did c.session.stands))

abbrev pub ran_in : Inside → Ran
ran_in a = record {
  code = a.client.machine.code.now;
  stands = a.client.session.stands;
  ended = ended_in a.mode;
}

pub record IsRunner (a : Inside) : Type 0 where
  pub follows : Follows a.client
  pub over : IsOver (ended_in a.mode) a.client
  pub mode : IsMode a.mode a.client.session.stands.flush
  pub needs : a.needs ≡ min (needs_had (ran_in a)) (2 ^ 64 - 1)
