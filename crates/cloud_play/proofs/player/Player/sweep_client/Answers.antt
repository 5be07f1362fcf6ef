use Rattle.std.proofs.Common.{sym, ◌∙◌, subst}
use Rattle.cloud_base.specs.Answer.{answer}
use Rattle.cloud_base.specs.declared.schedule.Fate.TheVariants.{Pass}
use Rattle.typed_program.specs.declared.program.Parts.{Parts}
use Rattle.slot_hub.specs.Plain.{seen_of}
use Rattle.client_runner.proofs.Meeting.{on_ok}
use Rattle.played_record.specs.Plays.{step, swept_at}
use Rattle.played_record.specs.Programs.{trace_of}
use Rattle.played_record.specs.Worlds.{World, served}
use Rattle.cloud_play.specs.Playings.{Plays}
use Rattle.cloud_play.proofs.Sweeping.{swept_none}
use Rattle.cloud_play.proofs.player.Player.sweep_client.Goals as goal

pub returns : goal.returns
returns g c =
    let k = c.args.client in
    let name = g.N.Run.name in
    let old = c.args.self.now in
    let mid = c.step.new.self in
    let new = c.serve.new.self in
    let goes : ((p : Parts) (w : World) → Plays p mid.runners.items mid.station.holding (seen_of name mid.hub) w → Plays p new.runners.items new.station.holding (seen_of name new.hub) (served k Pass w))
    → (p : Parts) (w : World) → Plays p old.runners.items old.station.holding (seen_of name old.hub) w
    → Plays p new.runners.items new.station.holding (seen_of name new.hub) (swept_at (answer p.schema) (trace_of p) (w.client k).end k w)
    = λ serves p w h. subst (λ (x : World). Plays p new.runners.items new.station.holding (seen_of name new.hub) x)
    (sym (swept_none (answer p.schema) (trace_of p) (w.client k).end k w (sym (c.has_ended.ensures p w h) ∙ c.if-has_ended.false)))
    (serves p (step (answer p.schema) (trace_of p) k w) (c.in_ok-step.ensures p w h)) in
    on_ok c.serve.result goes c.serve.ensures
