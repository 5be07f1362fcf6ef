use Rattle.std.proofs.Common.{ap, ◌∙◌}
use Rattle.session_core.specs.Standings.{Standing, Sessioned}
use Rattle.session_core.proofs.Updates.{session_marked}
use Rattle.session_core.proofs.session.Session.flush_start.Goals as goal

pub invariant_of-self : goal.invariant_of-self
invariant_of-self c =
    session_marked c.self.inside c.reserve_event.new.self.stands c.waits-waits.result c.note.new.self c.self.invariant (ap (λ (s : Standing). s.flush) c.in_ok-reserve_event.ensures.same ∙ c.requires.closed)
    (record { is = ap (λ (v : Sessioned). v.stands) c.self.view_is; waits_is = c.waits-waits.ensures; before = c.note.ensures.before; rest = c.note.ensures.rest })
