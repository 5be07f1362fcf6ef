use Rattle.std.proofs.Common.{ap}
use Rattle.session_core.specs.Standings.{Sessioned}
use Rattle.session_core.proofs.Updates.{session_quiet}
use Rattle.session_core.proofs.session.Session.note.Goals as goal

pub invariant_of-self : goal.invariant_of-self
invariant_of-self c =
    session_quiet c.self.inside c.args.self.now.stands c.waits-waits.result c.note.new.self c.self.invariant c.requires.closed c.args.event
    (record { is = ap (λ (v : Sessioned). v.stands) c.self.view_is; waits_is = c.waits-waits.ensures; before = c.note.ensures.before; rest = c.note.ensures.rest })
    c.requires.quiet
