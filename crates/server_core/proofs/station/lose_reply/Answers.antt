use Rattle.std.proofs.Common.{inr}
use Rattle.server_core.proofs.Touching.{took_grows}
use Rattle.server_core.proofs.station.lose_reply.Goals as goal

pub returns-in-Ok-clause-grows : goal.returns-in-Ok-clause-grows
returns-in-Ok-clause-grows c = took_grows c.args.push c.args.server.now c.take.new.self (inr c.in-Ok.ensures.ok)

pub returns-clause-grows : goal.returns-clause-grows
returns-clause-grows c = took_grows c.args.push c.args.server.now c.take.new.self c.in-Err.ensures.err
