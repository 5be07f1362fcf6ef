use Rattle.std.proofs.Common.{inr}
use Rattle.server_core.proofs.Touching.{took_grows}
use Rattle.server_core.proofs.station.pass.Goals as goal

pub returns-in-Ok-Some-clause-grows : goal.returns-in-Ok-Some-clause-grows
returns-in-Ok-Some-clause-grows g c = took_grows c.args.push c.args.server.now c.take.new.self (inr c.in-Ok-Some.ensures.ok)

pub returns-clause-grows : goal.returns-clause-grows
returns-clause-grows g c = took_grows c.args.push c.args.server.now c.take.new.self c.in-Err.ensures.err
