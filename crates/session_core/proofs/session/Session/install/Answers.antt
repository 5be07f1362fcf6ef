use Rattle.std.proofs.Common.{sym, subst}
use Rattle.cloud_base.specs.Events.{EndsAtMark}
use Rattle.session_core.specs.Standings.{Sessioned}
use Rattle.session_core.specs.Meetings.{IsReady}
use Rattle.session_core.proofs.Meets.{session_took}
use Rattle.session_core.proofs.session.Session.install.Goals as goal

pub invariant_of-self : goal.invariant_of-self
invariant_of-self c =
    session_took c.self.inside c.args.ready c.into_fronts-past.result.past c.after_pull-self-inside.result c.self.invariant
    (subst (λ (v : Sessioned). EndsAtMark v.stands.before) (sym c.self.view_is) c.requires.marked)
    (subst (λ (v : Sessioned). IsReady v.stands c.args.ready) (sym c.self.view_is) c.requires.ready)
    c.into_fronts-past.ensures.past c.after_pull-self-inside.ensures
