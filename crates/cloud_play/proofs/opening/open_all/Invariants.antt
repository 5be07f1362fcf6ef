use Rattle.std.proofs.Common.{◌≡◌}
use Rattle.cloud_play.proofs.Beginning.{IsEach, IsOpenedFor}
use Rattle.cloud_play.proofs.opening.open_all.Given as goal

-- the clients so far
abbrev pub invariant-loop-client : goal.invariant-loop-client
invariant-loop-client l = record {
  runners : IsEach (IsOpenedFor l.codes l.initial.server.joined) l.client l.runners.items;
  same : l.server ≡ l.initial.server;
}
