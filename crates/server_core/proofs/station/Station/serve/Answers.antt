use Rattle.std.proofs.Common.{◌≡◌, sym, subst}
use Rattle.std.specs.Prelude.{Some}
use Rattle.slot_hub.specs.Runs.{Named, Carries}
use Rattle.packet_codec.specs.Runs.{push_of_run}
use Rattle.server_core.specs.Stations.{push_client}
use Rattle.server_core.proofs.station.Station.serve.Goals as goal

pub handle-requires-clause-push : goal.handle-requires-clause-push
handle-requires-clause-push g c =
    let lies : c.in-Ok-Some.field-0 ≡ Some c.in-Ok-Some.push = cc in
    subst (λ (run : Named). Carries push_client push_of_run run c.args.client c.in-Ok-Some.push) (sym c.trade_out.ensures.keeps.run)
    (c.in-Ok-Some.ensures.got c.in-Ok-Some.push lies)
