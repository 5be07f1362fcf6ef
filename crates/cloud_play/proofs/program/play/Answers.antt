use Rattle.std.proofs.Common.{sym, subst}
use Rattle.std.specs.Prelude.{ℕ, ◌<◌, List, length, Contains, Result, Ok, Err, IfOk}
use Rattle.std.proofs.lemmas.List.Elements.{All-contains}
use Rattle.cloud_base.specs.Answer.{answer}
use Rattle.cloud_base.specs.declared.schedule.ScheduleItem.{ScheduleItem}
use Rattle.typed_program.specs.Programs.{item_client}
use Rattle.slot_hub.specs.Plain.{seen_of}
use Rattle.played_record.specs.Plays.{scheduled}
use Rattle.played_record.specs.Programs.{trace_of}
use Rattle.played_record.specs.Worlds.{opening}
use Rattle.cloud_play.specs.Playings.{EndsAfter}
use Rattle.cloud_play.proofs.Ended.{have_ended}
use Rattle.cloud_play.proofs.Recorded.{recorded}
use Rattle.cloud_play.proofs.program.play.Goals as goal

on_each : {A E : Type 0} {P Q : A → Type 0} (result : Result A E) → ((x : A) → P x → Q x) → IfOk result P → IfOk result Q
on_each (Ok x) goes h = goes x h
on_each (Err e) goes h = h

pub follow-requires-clause-clients : goal.follow-requires-clause-clients
follow-requires-clause-clients g c = λ item there.
    let p = c.args.program.now in
    let h = c.in_ok-player.ensures in
    subst (λ (n : ℕ). item_client item < n) (sym h.count)
    (All-contains (λ (x : ScheduleItem). item_client x < length p.names) p.schedule item h.program.schedule
    (subst (λ (l : List ScheduleItem). Contains l item) c.schedule.ensures there))

pub follow-requires-clause-playing : goal.follow-requires-clause-playing
follow-requires-clause-playing g c = record { program = c.args.program.now; world = opening; plays = c.in_ok-player.ensures }

pub sweeps-requires : goal.sweeps-requires
sweeps-requires g c =
    let p = c.args.program.now in
    record {
      playing = record {
        program = p;
        world = scheduled (answer p.schema) (trace_of p) c.schedule.result.now opening;
        plays = c.in_ok-follow.ensures p opening c.in_ok-player.ensures;
      };
    }

pub record_of-requires : goal.record_of-requires
record_of-requires g c =
    let p = c.args.program.now in
    let player = c.sweeps.new.self in
    let from = scheduled (answer p.schema) (trace_of p) c.schedule.result.now opening in
    have_ended p from player.runners.items player.station.holding (seen_of g.N.Run.name player.hub)
    (c.in_ok-sweeps.ensures p from (c.in_ok-follow.ensures p opening c.in_ok-player.ensures))

pub returns : goal.returns
returns g c =
    let p = c.args.program.now in
    let player = c.sweeps.new.self in
    let runs = player.runners.items in
    let holding = player.station.holding in
    let hub = seen_of g.N.Run.name player.hub in
    let ended = subst (λ (l : List ScheduleItem). EndsAfter p (scheduled (answer p.schema) (trace_of p) l opening) runs holding hub) c.schedule.ensures
    (c.in_ok-sweeps.ensures p (scheduled (answer p.schema) (trace_of p) c.schedule.result.now opening) (c.in_ok-follow.ensures p opening c.in_ok-player.ensures)) in
    on_each c.record_of.result
    (λ history left. recorded p runs holding hub history
    c.sessions_leave_records.ensures.sound c.sessions_leave_records.ensures.right c.sessions_leave_records.ensures.flushed c.programs_are_traced.ensures.traced c.clients_do_little.ensures.moments c.records_stay_small.ensures ended left)
    c.record_of.ensures
