use Rattle.std.proofs.Common.{sym, subst, length}
use Rattle.std.specs.Prelude.{◌<◌, ◌^◌}
use Rattle.session_core.specs.Standings.{Standing}
use Rattle.session_core.proofs.Halves.{yield_marked, yield_each, yield_may}
use Rattle.session_core.proofs.session.Session.yield_pull.Goals as goal

pub go_on-requires-clause-marked : goal.go_on-requires-clause-marked
go_on-requires-clause-marked g c =
    yield_marked {S = g.row.S.Denot} c.reserve_event.new.self.stands c.ready.new.self.stands c.in_ok-pull.pull c.in_ok-pull.ready (g.H.Hub.seen c.args.hub.now) (g.H.Hub.seen c.ready.new.hub) c.in_ok-pull.ensures.ok c.note.new.self.stands c.note.new.self.stands c.keeps.ensures c.note.ensures

pub go_on-requires-clause-ready : goal.go_on-requires-clause-ready
go_on-requires-clause-ready g c =
    yield_each {S = g.row.S.Denot} c.reserve_event.new.self.stands c.ready.new.self.stands c.in_ok-pull.pull c.in_ok-pull.ready (g.H.Hub.seen c.args.hub.now) (g.H.Hub.seen c.ready.new.hub) c.in_ok-pull.ensures.ok c.note.new.self.stands c.note.new.self.stands c.keeps.ensures c.note.ensures

pub returns-clause-may : goal.returns-clause-may
returns-clause-may g c =
    yield_may {S = g.row.S.Denot} c.reserve_event.new.self.stands c.ready.new.self.stands c.in_ok-pull.pull c.in_ok-pull.ready (g.H.Hub.seen c.args.hub.now) (g.H.Hub.seen c.ready.new.hub) c.in_ok-pull.ensures.ok c.note.new.self.stands c.go_on.new.self.stands c.keeps.ensures c.note.ensures c.go_on.ensures
    (subst (λ (s : Standing). length s.own.list < 2 ^ 32) (sym c.reserve_event.ensures.same) c.requires.rounds)
