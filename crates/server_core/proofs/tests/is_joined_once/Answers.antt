use Rattle.std.proofs.Common.{sym, subst}
use Rattle.packet_codec.specs.Pushes.{Pushed}
use Rattle.server_core.specs.Servers.{IsFor}
use Rattle.server_core.proofs.First.{for_taken}
use Rattle.server_core.proofs.tests.is_joined_once.Goals as goal

pub take-requires-2 : goal.take-requires-2
take-requires-2 c =
    for_taken c.take.result c.in_ok-again.again c.copy.new.self c.in_ok-server.server c.take.new.self c.take.ensures.ok c.take.ensures.err
    (subst (λ (push : Pushed). IsFor push c.in_ok-server.server) (sym c.in_ok-again.ensures.whole) c.in_ok-server.ensures.of)
