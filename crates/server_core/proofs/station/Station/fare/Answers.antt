use Rattle.std.proofs.Common.{sym, subst}
use Rattle.server_core.specs.Stations.{Holding, IsHoldingOf, Stationed}
use Rattle.server_core.proofs.Kept.{server_goes_on}
use Rattle.server_core.proofs.station.Station.fare.Goals as goal

pub returns-clause-of : goal.returns-clause-of
returns-clause-of g c =
    let run = (g.H.Hub.seen c.args.hub.now).run in
    let holding : Holding = record { server = c.self.inside.server; held = c.self.inside.held.items } in
    let of : IsHoldingOf holding run = subst (λ (s : Stationed g.row.W.Denot). IsHoldingOf s.holding run) (sym c.self.view_is) c.requires.of in
    server_goes_on holding c.by_fate.new.server run of c.by_fate.ensures.of
