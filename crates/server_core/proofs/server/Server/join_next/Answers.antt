use Rattle.server_core.proofs.Joining.{begun_round}
use Rattle.server_core.proofs.server.Server.join_next.Goals as goal

pub returns-then-round-last-clause-begun : goal.returns-then-round-last-clause-begun
returns-then-round-last-clause-begun c = begun_round c.args.push.now.past.list c.args.push.now.own.list c.args.push.now.batch c.keeps.ensures.may.follows
