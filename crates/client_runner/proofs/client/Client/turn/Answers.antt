use Rattle.client_runner.proofs.Meeting.{follows_turn}
use Rattle.client_runner.proofs.client.Client.turn.Goals as goal

pub returns-in-Ok-clause-follows : goal.returns-in-Ok-clause-follows
returns-in-Ok-clause-follows g c =
    follows_turn {S = g.row.S.Denot} (g.H.Hub.seen c.args.hub.now) (g.H.Hub.seen c.flush_turn.new.hub) c.args.self.now.machine c.args.self.now.session c.flush_turn.new.self c.in-Ok.turn c.requires.follows c.in-Ok.ensures.ok
