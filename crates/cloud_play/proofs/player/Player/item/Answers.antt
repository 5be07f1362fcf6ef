use Rattle.std.proofs.Common.{sym, subst, length, ◌<◌}
use Rattle.cloud_base.specs.Answer.{answer}
use Rattle.cloud_base.specs.declared.schedule.ScheduleItem.{ScheduleItem}
use Rattle.typed_program.specs.Programs.{item_client}
use Rattle.typed_program.specs.declared.program.Parts.{Parts}
use Rattle.slot_hub.specs.Plain.{seen_of}
use Rattle.client_runner.proofs.Meeting.{on_ok}
use Rattle.played_record.specs.Plays.{item_done}
use Rattle.played_record.specs.Programs.{trace_of}
use Rattle.played_record.specs.Worlds.{World}
use Rattle.cloud_play.specs.Playings.{Plays}
use Rattle.cloud_play.proofs.player.Player.item.Goals as goal

pub steps-requires-clause-client : goal.steps-requires-clause-client
steps-requires-clause-client g c = subst (λ (x : ScheduleItem). item_client x < length c.args.self.now.runners.items) c.in-Steps.is c.requires.client

pub serve-requires-clause-client : goal.serve-requires-clause-client
serve-requires-clause-client g c = subst (λ (x : ScheduleItem). item_client x < length c.args.self.now.runners.items) c.in-Serve.is c.requires.client

pub returns-in-Steps : goal.returns-in-Steps
returns-in-Steps g c =
    let old = c.args.self.now in
    let new = c.steps.new.self in
    on_ok c.steps.result
    (λ f. subst (λ (x : ScheduleItem). (p : Parts) (w : World) → Plays p old.runners.items old.station.holding (seen_of g.N.Run.name old.hub) w
    → Plays p new.runners.items new.station.holding (seen_of g.N.Run.name new.hub) (item_done (answer p.schema) (trace_of p) x w)) (sym c.in-Steps.is) f)
    c.steps.ensures

pub returns-in-Serve : goal.returns-in-Serve
returns-in-Serve g c =
    let old = c.args.self.now in
    let new = c.serve.new.self in
    on_ok c.serve.result
    (λ f. subst (λ (x : ScheduleItem). (p : Parts) (w : World) → Plays p old.runners.items old.station.holding (seen_of g.N.Run.name old.hub) w
    → Plays p new.runners.items new.station.holding (seen_of g.N.Run.name new.hub) (item_done (answer p.schema) (trace_of p) x w)) (sym c.in-Serve.is) f)
    c.serve.ensures
