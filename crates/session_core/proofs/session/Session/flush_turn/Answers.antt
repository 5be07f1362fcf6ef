use Rattle.session_core.proofs.Halves.{client_range, pushes_run}
use Rattle.session_core.proofs.Lasting.{lasts_both, lasts_pulls, lasts_pushes, lasts_stayed}
use Rattle.session_core.proofs.session.Session.flush_turn.Goals as goal

pub returns-in_default-push-clause-later : goal.returns-in_default-push-clause-later
returns-in_default-push-clause-later g c =
    let old = c.args.self.now.stands in
    let pulled = c.flush_pull.new.self.stands in
    let new = c.push.new.self.stands in
    let hub = g.H.Hub.seen c.args.hub.now in
    let between = g.H.Hub.seen c.flush_pull.new.hub in
    let after = g.H.Hub.seen c.push.new.hub in
    (lasts_both {S = g.row.S.Denot} 1 old pulled new hub between after
    (lasts_pulls old pulled c.in-Ok.field-0 hub between c.in-Ok.ensures.ok)
    (lasts_stayed pulled new between after c.in_default-push.ensures.err c.in_default-push.ensures.hub)).later

pub unmet-requires-clause-client : goal.unmet-requires-clause-client
unmet-requires-clause-client g c =
    let between = g.H.Hub.seen c.flush_pull.new.hub in
    let after = g.H.Hub.seen c.push.new.hub in
    client_range c.push.new.self.stands after.run
    (pushes_run {S = g.row.S.Denot} c.flush_pull.new.self.stands c.push.new.self.stands c.in-Ok-push.field-0 between after c.in-Ok-push.ensures.ok c.in-Ok.ensures.of)

pub returns-clause-later : goal.returns-clause-later
returns-clause-later g c =
    let old = c.args.self.now.stands in
    let pulled = c.flush_pull.new.self.stands in
    let new = c.push.new.self.stands in
    let hub = g.H.Hub.seen c.args.hub.now in
    let between = g.H.Hub.seen c.flush_pull.new.hub in
    let after = g.H.Hub.seen c.push.new.hub in
    (lasts_both {S = g.row.S.Denot} 1 old pulled new hub between after
    (lasts_pulls old pulled c.in-Ok.field-0 hub between c.in-Ok.ensures.ok)
    (lasts_pushes pulled new c.in-Ok-push.field-0 between after c.in-Ok-push.ensures.ok)).later

pub returns-clause-leaves : goal.returns-clause-leaves
returns-clause-leaves g c =
    let old = c.args.self.now.stands in
    let pulled = c.flush_pull.new.self.stands in
    let new = c.push.new.self.stands in
    let hub = g.H.Hub.seen c.args.hub.now in
    let between = g.H.Hub.seen c.flush_pull.new.hub in
    let after = g.H.Hub.seen c.push.new.hub in
    (lasts_both {S = g.row.S.Denot} 1 old pulled new hub between after
    (lasts_pulls old pulled c.in-Ok.field-0 hub between c.in-Ok.ensures.ok)
    (lasts_pushes pulled new c.in-Ok-push.field-0 between after c.in-Ok-push.ensures.ok)).leaves
