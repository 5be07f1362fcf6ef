use Rattle.std.proofs.Common.{◌∙◌, sym, subst, Option}
use Rattle.packet_codec.specs.Replies.{Replied}
use Rattle.session_core.specs.Standings.{Sessioned, IsKeptReply}
use Rattle.session_core.specs.Insides.{IsSession}
use Rattle.session_core.proofs.Meets.{session_unkept}
use Rattle.session_core.proofs.session.Session.take_kept.Goals as goal

pub invariant_of-self : goal.invariant_of-self
invariant_of-self c =
    subst (λ (r : Option Replied). IsSession (record c.self.inside { reply = r })) (sym c.take.ensures.after) (session_unkept c.self.inside c.self.invariant)

pub returns-clause-kept : goal.returns-clause-kept
returns-clause-kept c x k =
    subst (λ (v : Sessioned). IsKeptReply v.stands.schema v.stands.client v.stands.past v.stands.own v.stands.sent x) c.self.view_is
    (c.self.invariant.standing.running.reply x (sym c.take.ensures.value ∙ k))
