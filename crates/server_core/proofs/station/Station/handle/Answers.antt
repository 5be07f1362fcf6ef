use Rattle.std.proofs.Common.{◌<◌, length, subst, arith}
use Rattle.slot_hub.specs.Runs.{Named}
use Rattle.server_core.specs.Stations.{IsHoldingOf}
use Rattle.server_core.proofs.Kept.{handled, copy_carries, kept_of_run}
use Rattle.server_core.proofs.Touching.{touches_both}
use Rattle.server_core.proofs.station.Station.handle.Goals as goal

pub returns-clause-ok : goal.returns-clause-ok
returns-clause-ok g c =
    let there : c.args.client < length c.args.self.now.holding.held = let few = c.requires.client in let same = c.requires.of.server.clients in let places = c.keeps.ensures.holding.places in omega arith in
    handled c.args.client c.args.fate c.args.push c.args.self.now.holding c.fare.new.self.holding c.let_go.new.self.holding c.keep.new.self.holding
    (g.H.Hub.seen c.args.hub.now) (g.H.Hub.seen c.fare.new.hub) (g.H.Hub.seen c.let_go.new.hub) c.in_ok-copy.copy there
    c.in_ok-copy.ensures.ok c.fare.ensures.held c.in_ok-let_go.ensures.ok c.let_go.ensures.held c.in_ok-copy.ensures.copy c.keep.ensures.held c.keep.ensures.server

pub returns-clause-of : goal.returns-clause-of
returns-clause-of g c =
    let run = (g.H.Hub.seen c.args.hub.now).run in
    let of : IsHoldingOf c.let_go.new.self.holding run = subst (λ (r : Named). IsHoldingOf c.let_go.new.self.holding r) c.fare.ensures.touches.leaves.keeps.run c.let_go.ensures.of in
    c.keep.ensures.of run of (kept_of_run run c.args.client c.in_ok-copy.copy (copy_carries c.args.fate c.args.push run c.args.client c.in_ok-copy.copy c.in_ok-copy.ensures.copy c.requires.push))

pub returns-clause-touches : goal.returns-clause-touches
returns-clause-touches g c = touches_both c.args.client (g.H.Hub.seen c.args.hub.now) (g.H.Hub.seen c.fare.new.hub) (g.H.Hub.seen c.let_go.new.hub) c.fare.ensures.touches c.let_go.ensures.touches
