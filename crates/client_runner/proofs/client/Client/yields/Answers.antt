use Rattle.client_runner.proofs.Meeting.{follows_yield}
use Rattle.client_runner.proofs.client.Client.yields.Goals as goal

pub returns-in-Ok-clause-follows : goal.returns-in-Ok-clause-follows
returns-in-Ok-clause-follows g c =
    follows_yield {S = g.row.S.Denot} (g.H.Hub.seen c.args.hub.now) (g.H.Hub.seen c.yield_turn.new.hub) c.args.self.now.machine c.args.self.now.session.stands c.yield_turn.new.self c.in-Ok.field-0 c.keeps.ensures.running c.requires.due.schema c.requires.due.needed c.in-Ok.ensures.ok
