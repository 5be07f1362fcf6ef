use mathlib.Core.Logic.{inr}
use Rattle.client_runner.proofs.Meeting.{if_ok, lacked_need, on_err, took_need}
use Rattle.client_runner.proofs.client.Client.take_need.Goals as goal

pub returns-clause-needs : goal.returns-clause-needs
returns-clause-needs g c =
    if_ok c.meet.result (λ out does. took_need {S = g.row.S.Denot} (g.H.Hub.seen c.args.hub.now) (g.H.Hub.seen c.meet.new.hub) c.args.self.now c.next.new.self c.in_ok-need.need c.in_ok-need.ensures.code c.in_ok-need.ensures.session c.in_ok-need.ensures.due c.meet.new.self.session.stands out does) c.meet.ensures.does

pub returns-clause-err : goal.returns-clause-err
returns-clause-err g c =
    on_err c.meet.result (λ lacks. inr (lacked_need {S = g.row.S.Denot} (g.H.Hub.seen c.args.hub.now) (g.H.Hub.seen c.meet.new.hub) c.args.self.now c.next.new.self c.in_ok-need.need c.in_ok-need.ensures.code c.in_ok-need.ensures.session c.in_ok-need.ensures.due lacks)) c.meet.ensures.err
