use Rattle.std.proofs.Common.{ap, ◌∙◌, sym, subst}
use Rattle.cloud_base.specs.Shaped.{IsShaped}
use Rattle.session_core.specs.Sessions.{MayDo}
use Rattle.session_core.specs.Standings.{Standing, Sessioned, seen_first, updates_now}
use Rattle.session_core.proofs.Updates.{session_did}
use Rattle.session_core.proofs.session.Session.update.Goals as goal

pub invariant_of-self-2 : goal.invariant_of-self-2
invariant_of-self-2 c =
    let s = c.reserve_event.new.self.stands in
    let same = c.in_ok-reserve_event.ensures.same in
    session_did c.self.inside s c.waits-waits.result c.note.new.self c.self.invariant (ap (λ (x : Standing). x.flush) same ∙ c.requires.closed) c.args.update c.update.new.self
    (record { is = ap (λ (v : Sessioned). v.stands) c.self.view_is; waits_is = c.waits-waits.ensures; before = c.note.ensures.before; rest = c.note.ensures.rest })
    (subst (λ (x : Standing). IsShaped x.schema c.args.update) (sym same) c.requires.shaped)
    (subst (λ (x : Standing). MayDo x c.args.update) (sym same) c.requires.may)
    (λ stands fit. c.in_ok-update.ensures.ok s.schema (seen_first s) (updates_now s) stands fit)
