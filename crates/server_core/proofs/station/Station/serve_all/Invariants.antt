use Rattle.std.proofs.Common.{ℕ, ◌<◌, ◌≤◌}
use mathlib.Core.List.{IsPrefix}
use Rattle.server_core.specs.Stations.{IsHoldingOf, Leaves, LooksAt, ServesWith}
use Rattle.server_core.proofs.station.Station.serve_all.Given as goal

abbrev pub invariant-loop-client : goal.invariant-loop-client
invariant-loop-client g l = record {
  serves : ServesWith g.W.Weather.fates l.client l.count l.initial.self l.self (g.H.Hub.seen l.initial.hub) (g.H.Hub.seen l.hub);
  few : l.count ≤ l.client;
  of : IsHoldingOf l.self.holding (g.H.Hub.seen l.initial.hub).run;
  grows : IsPrefix l.initial.self.holding.server.joined.list l.self.holding.server.joined.list;
  leaves : Leaves (g.H.Hub.seen l.initial.hub) (g.H.Hub.seen l.hub);
  looked : (c : ℕ) → c < l.client → LooksAt c (g.H.Hub.seen l.initial.hub) (g.H.Hub.seen l.hub);
}
