use Rattle.session_core.proofs.Halves.{flush_marked, flush_met, flush_may, flush_run}
use Rattle.session_core.proofs.session.Session.flush_pull.Goals as goal

pub go_on-requires-clause-marked : goal.go_on-requires-clause-marked
go_on-requires-clause-marked g c =
    flush_marked {S = g.row.S.Denot} c.args.self.now.stands c.ready.new.self.stands c.in_ok-pull.pull c.in_ok-pull.ready (g.H.Hub.seen c.args.hub.now) (g.H.Hub.seen c.ready.new.hub) c.in_ok-pull.ensures.ok c.keeps.ensures c.requires.flushing

pub returns-clause-met : goal.returns-clause-met
returns-clause-met g c =
    flush_met {S = g.row.S.Denot} c.args.self.now.stands c.ready.new.self.stands c.in_ok-pull.pull c.in_ok-pull.ready (g.H.Hub.seen c.args.hub.now) (g.H.Hub.seen c.ready.new.hub) c.in_ok-pull.ensures.ok c.keeps.ensures c.requires.flushing c.go_on.new.self.stands c.go_on.ensures

pub returns-clause-may : goal.returns-clause-may
returns-clause-may g c =
    flush_may {S = g.row.S.Denot} c.args.self.now.stands c.ready.new.self.stands c.in_ok-pull.pull c.in_ok-pull.ready (g.H.Hub.seen c.args.hub.now) (g.H.Hub.seen c.ready.new.hub) c.in_ok-pull.ensures.ok c.keeps.ensures c.requires.flushing c.go_on.new.self.stands c.go_on.ensures c.requires.rounds

pub returns-clause-of : goal.returns-clause-of
returns-clause-of g c =
    flush_run {S = g.row.S.Denot} c.args.self.now.stands c.ready.new.self.stands c.in_ok-pull.pull c.in_ok-pull.ready (g.H.Hub.seen c.args.hub.now) (g.H.Hub.seen c.ready.new.hub) c.in_ok-pull.ensures.ok c.keeps.ensures c.requires.flushing c.go_on.new.self.stands c.go_on.ensures c.requires.of
