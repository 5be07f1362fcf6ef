use Rattle.session_core.proofs.Lasting.{lasts_both, lasts_marked, lasts_pushes, lasts_stayed}
use Rattle.session_core.proofs.session.Session.yield_turn.Goals as goal

pub returns-in_default-push-clause-later : goal.returns-in_default-push-clause-later
returns-in_default-push-clause-later g c =
    let old = c.args.self.now.stands in
    let pulled = c.yield_pull.new.self.stands in
    let new = c.push.new.self.stands in
    let hub = g.H.Hub.seen c.args.hub.now in
    let between = g.H.Hub.seen c.yield_pull.new.hub in
    let after = g.H.Hub.seen c.push.new.hub in
    (lasts_both {S = g.row.S.Denot} 1 old pulled new hub between after
    (lasts_marked old pulled c.in-Ok.pull hub between c.in-Ok.ensures.ok)
    (lasts_stayed pulled new between after c.in_default-push.ensures.err c.in_default-push.ensures.hub)).later

pub returns-clause-later : goal.returns-clause-later
returns-clause-later g c =
    let old = c.args.self.now.stands in
    let pulled = c.yield_pull.new.self.stands in
    let new = c.push.new.self.stands in
    let hub = g.H.Hub.seen c.args.hub.now in
    let between = g.H.Hub.seen c.yield_pull.new.hub in
    let after = g.H.Hub.seen c.push.new.hub in
    (lasts_both {S = g.row.S.Denot} 1 old pulled new hub between after
    (lasts_marked old pulled c.in-Ok.pull hub between c.in-Ok.ensures.ok)
    (lasts_pushes pulled new c.in-Ok-push.push between after c.in-Ok-push.ensures.ok)).later

pub returns-clause-leaves : goal.returns-clause-leaves
returns-clause-leaves g c =
    let old = c.args.self.now.stands in
    let pulled = c.yield_pull.new.self.stands in
    let new = c.push.new.self.stands in
    let hub = g.H.Hub.seen c.args.hub.now in
    let between = g.H.Hub.seen c.yield_pull.new.hub in
    let after = g.H.Hub.seen c.push.new.hub in
    (lasts_both {S = g.row.S.Denot} 1 old pulled new hub between after
    (lasts_marked old pulled c.in-Ok.pull hub between c.in-Ok.ensures.ok)
    (lasts_pushes pulled new c.in-Ok-push.push between after c.in-Ok-push.ensures.ok)).leaves
