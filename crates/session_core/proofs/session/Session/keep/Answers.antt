use Rattle.std.proofs.Common.{sym, subst}
use Rattle.session_core.specs.Standings.{Sessioned, IsKeptReply}
use Rattle.session_core.proofs.Meets.{session_kept}
use Rattle.session_core.proofs.session.Session.keep.Goals as goal

pub invariant_of-self : goal.invariant_of-self
invariant_of-self c =
    session_kept c.self.inside c.args.reply c.self.invariant
    (subst (λ (v : Sessioned). IsKeptReply v.stands.schema v.stands.client v.stands.past v.stands.own v.stands.sent c.args.reply) (sym c.self.view_is) c.requires)
