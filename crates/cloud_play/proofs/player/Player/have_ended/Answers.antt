use Rattle.std.proofs.Common.{◌∙◌, rules, tests}
use Rattle.std.specs.Prelude.{is_some}
use Rattle.std.proofs.lemmas.Iterator.{YieldsList-from_slice}
use Rattle.std.proofs.lemmas.Iterator.Search.{all_from_yields_List}
use Rattle.slot_hub.specs.Plain.{seen_of}
use Rattle.client_runner.specs.Steps.{Ran}
use Rattle.cloud_play.proofs.Ends.{all_ended_at}
use Rattle.cloud_play.proofs.player.Player.have_ended.Goals as goal

pub returns : goal.returns
returns g c = λ p w h.
    let its = c.args.self.now in
    let runs = its.runners.items in
    all_from_yields_List (λ (r : Ran). is_some r.ended) _ _ c.all.result c.all.ensures.ran (YieldsList-from_slice runs cc) (λ x b q k. search (rules, tests))
    ∙ all_ended_at p runs its.station.holding (seen_of g.N.Run.name its.hub) w h
