use Rattle.std.proofs.Common.{◌<◌, List, length, sym, subst}
use Rattle.std.specs.Prelude.{Option}
use Rattle.packet_codec.specs.Pushes.{Pushed}
use Rattle.server_core.specs.Stations.{Holding, IsHolding, IsHoldingOf, Stationed}
use Rattle.server_core.proofs.Kept.{changed_of, changed_places}
use Rattle.server_core.proofs.station.Station.keep.Goals as goal

pub invariant_of-self : goal.invariant_of-self
invariant_of-self g c =
    let holding : Holding = record { server = c.self.inside.server; held = c.self.inside.held.items } in
    let known = subst (λ (s : Stationed g.row.W.Denot). c.args.client < length s.holding.server.owns) (sym c.self.view_is) c.requires.client in
    let there : c.args.client < length holding.held = subst (λ (n : _). c.args.client < n) (sym c.self.invariant.places) known in
    subst (λ (l : List (Option Pushed)). IsHolding (record { server = c.self.inside.server; held = l })) (sym c.swap-none.ensures.swapped)
    (changed_places holding c.args.client c.args.copy there c.self.invariant c.requires.of)

pub returns-clause-of : goal.returns-clause-of
returns-clause-of g c run of new =
    let holding : Holding = record { server = c.self.inside.server; held = c.self.inside.held.items } in
    let known = subst (λ (s : Stationed g.row.W.Denot). c.args.client < length s.holding.server.owns) (sym c.self.view_is) c.requires.client in
    let there : c.args.client < length holding.held = subst (λ (n : _). c.args.client < n) (sym c.self.invariant.places) known in
    let of_inside : IsHoldingOf holding run = subst (λ (s : Stationed g.row.W.Denot). IsHoldingOf s.holding run) (sym c.self.view_is) of in
    subst (λ (l : List (Option Pushed)). IsHoldingOf (record { server = c.self.inside.server; held = l }) run) (sym c.swap-none.ensures.swapped)
    (changed_of holding c.args.client c.args.copy there run of_inside new)
