use Rattle.std.proofs.Common.{sym, ap, ◌∙◌}
use Rattle.std.specs.Prelude.{is_some}
use Rattle.slot_hub.specs.Plain.{seen_of}
use Rattle.cloud_play.proofs.Lists.{taken_out}
use Rattle.cloud_play.proofs.Ends.{end_at}
use Rattle.cloud_play.proofs.player.Player.has_ended.Goals as goal

pub returns : goal.returns
returns g c = λ p w h.
    let its = c.args.self.now in
    let run = c.index.result.now in
    let is = taken_out its.runners.items c.args.client run c.requires.client c.index.ensures in
    c.is_some.ensures ∙ ap is_some (c.end.ensures ∙ sym (end_at p its.runners.items its.station.holding (seen_of g.N.Run.name its.hub) w h c.args.client run is))
