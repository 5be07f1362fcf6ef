use Rattle.std.proofs.Common.{sym, subst}
use Rattle.cloud_base.specs.declared.schema.Schema.{Schema}
use Rattle.packet_codec.specs.Replies.{Replied}
use Rattle.schema_fj.specs.Held.{Held}
use Rattle.session_core.specs.Standings.{Sessioned, IsKeptReply}
use Rattle.session_core.specs.Meetings.{IsRejoined}
use Rattle.session_core.proofs.Meets.{if_ok, rejoined_of, GoesOn}
use Rattle.session_core.proofs.session.Session.rejoin.Goals as goal

pub returns-clause-state : goal.returns-clause-state
returns-clause-state c =
    let a = c.self.inside in
    let reply : Replied = c.args.reply.now in
    let kept = subst (λ (v : Sessioned). IsKeptReply v.stands.schema v.stands.client v.stands.past v.stands.own v.stands.sent reply) (sym c.self.view_is) c.requires in
    if_ok (λ (next : Held). GoesOn c.deref.result.now c.copy_fronts.new.self.past.list a.state next) (IsRejoined c.args.self.now.stands reply) c.rejoined.result
    (λ next goes.
    subst (λ (v : Sessioned). IsRejoined v.stands reply next) c.self.view_is
    (rejoined_of a reply c.in_ok-fronts.fronts.past c.in_ok-fronts.fronts.own next c.self.invariant kept c.in_ok-fronts.ensures.past c.in_ok-fronts.ensures.own c.in_ok-meet.ensures.mine c.in_ok-meet.ensures.seen
    (subst (λ (x : Schema). GoesOn x reply.past.list a.state next) c.deref.ensures
    (subst (λ (r : Replied). GoesOn c.deref.result.now r.past.list a.state next) c.copy_fronts.ensures.same goes))))
    c.rejoined.ensures
