use Rattle.std.proofs.Common.{◌≡◌, ◌<◌, List, length, sym, subst, ◌∙◌, arith}
use Rattle.std.specs.Prelude.{Option, Some, None}
use Rattle.packet_codec.specs.Pushes.{Pushed}
use Rattle.server_core.specs.Stations.{Holding, IsHoldingOf, Stationed, held_of}
use Rattle.server_core.proofs.Kept.{changed_of, server_goes_on}
use Rattle.server_core.proofs.station.Station.let_go.Goals as goal

pub release-requires-clause-held : goal.release-requires-clause-held
release-requires-clause-held g c push is =
    let run = (g.H.Hub.seen c.args.hub.now).run in
    let holding : Holding = record { server = c.self.inside.server; held = c.self.inside.held.items } in
    let of : IsHoldingOf holding run = subst (λ (s : Stationed g.row.W.Denot). IsHoldingOf s.holding run) (sym c.self.view_is) c.requires.of in
    let lies : held_of c.args.client holding ≡ Some push = sym c.swap-copy.ensures.was ∙ is in
    record { client = c.self.invariant.client c.args.client push lies; of = of.held c.args.client push lies }

pub returns-clause-of : goal.returns-clause-of
returns-clause-of g c =
    let run = (g.H.Hub.seen c.args.hub.now).run in
    let holding : Holding = record { server = c.self.inside.server; held = c.self.inside.held.items } in
    let of : IsHoldingOf holding run = subst (λ (s : Stationed g.row.W.Denot). IsHoldingOf s.holding run) (sym c.self.view_is) c.requires.of in
    let there : c.args.client < length holding.held = let few = c.requires.client in let same = of.server.clients in let places = c.self.invariant.places in omega arith in
    subst (λ (l : List (Option Pushed)). IsHoldingOf (record { server = c.release.new.server; held = l }) run) (sym c.swap-copy.ensures.swapped)
    (changed_of (record { server = c.release.new.server; held = c.self.inside.held.items }) c.args.client None there run (server_goes_on holding c.release.new.server run of c.release.ensures.of) (λ push e. absurd (cc (e))))
