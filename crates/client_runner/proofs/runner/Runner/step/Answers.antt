use Rattle.std.proofs.Common.{sym, subst, ℕ}
use Rattle.session_core.specs.Standings.{IsStanding, is_of_run}
use Rattle.client_runner.specs.declared.stepped.Mode.{Mode}
use Rattle.client_runner.specs.Runners.{IsRunner}
use Rattle.client_runner.specs.Steps.{LeavesHub, LittleMore, Ran}
use Rattle.client_runner.specs.Turned.{ended_in, mode_after}
use Rattle.client_runner.proofs.Meeting.{kept_err, kept_step, little_step, of_step, on_any}
use Rattle.client_runner.proofs.Running.{goes_on}
use Rattle.client_runner.proofs.runner.Runner.step.Goals as goal

pub returns-in_err-stepped-clause-hub : goal.returns-in_err-stepped-clause-hub
returns-in_err-stepped-clause-hub g c =
    let a = c.self.inside in
    (kept_err {S = g.row.S.Denot} (g.H.Hub.seen c.args.hub.now) (g.H.Hub.seen c.step.new.hub) (ended_in a.mode) a.client.session.stands.flush a.client.machine.code.now a.client.session.stands c.in_err-stepped.ensures.err).keeps

pub returns-in_err-stepped-clause-server : goal.returns-in_err-stepped-clause-server
returns-in_err-stepped-clause-server g c =
    let a = c.self.inside in
    (kept_err {S = g.row.S.Denot} (g.H.Hub.seen c.args.hub.now) (g.H.Hub.seen c.step.new.hub) (ended_in a.mode) a.client.session.stands.flush a.client.machine.code.now a.client.session.stands c.in_err-stepped.ensures.err).took

pub returns-in_err-stepped-clause-err : goal.returns-in_err-stepped-clause-err
returns-in_err-stepped-clause-err g c =
    on_any c.from_residual.result
    (subst (λ (r : Ran). LeavesHub {S = g.row.S.Denot} r (g.H.Hub.seen c.args.hub.now) (g.H.Hub.seen c.step.new.hub)) c.self.view_is c.in_err-stepped.ensures.err)

pub invariant_of-runner : goal.invariant_of-runner
invariant_of-runner g c =
    let a = c.self.inside in
    let out = c.in_ok-stepped.stepped in
    let e = c.in_ok-stepped.ensures in
    let standing = subst (λ (r : Ran). IsStanding r.stands) (sym c.self.view_is) c.keeps.ensures.standing in
    let kept = goes_on {S = g.row.S.Denot} (g.H.Hub.seen c.args.hub.now) (g.H.Hub.seen c.step.new.hub) a c.step.new.self out c.self.invariant standing e.follows e.over e.mode e.steps in
    subst (λ (m : Mode). IsRunner (record { client = c.step.new.self; mode = m; needs = c.needs_after.result })) (sym c.mode_after.ensures)
    (subst (λ (n : ℕ). IsRunner (record { client = c.step.new.self; mode = mode_after out; needs = n })) (sym c.needs_after.ensures) kept)

pub returns-clause-little : goal.returns-clause-little
returns-clause-little g c =
    let a = c.self.inside in
    let standing = subst (λ (r : Ran). IsStanding r.stands) (sym c.self.view_is) c.keeps.ensures.standing in
    subst (λ (r : Ran). LittleMore r.stands c.step.new.self.session.stands) c.self.view_is
    (little_step {S = g.row.S.Denot} (g.H.Hub.seen c.args.hub.now) (g.H.Hub.seen c.step.new.hub) (ended_in a.mode) a.client.session.stands.flush a.client.machine.code.now a.client.session.stands c.step.new.self.session.stands c.in_ok-stepped.stepped standing.running c.in_ok-stepped.ensures.steps)

pub returns-clause-of : goal.returns-clause-of
returns-clause-of g c =
    let a = c.self.inside in
    let standing = subst (λ (r : Ran). IsStanding r.stands) (sym c.self.view_is) c.keeps.ensures.standing in
    let of = subst (λ (r : Ran). is_of_run r.stands (g.H.Hub.seen c.args.hub.now).run) (sym c.self.view_is) c.requires.of in
    of_step {S = g.row.S.Denot} (g.H.Hub.seen c.args.hub.now) (g.H.Hub.seen c.step.new.hub) (ended_in a.mode) a.client.session.stands.flush a.client.machine.code.now a.client.session.stands c.step.new.self.session.stands c.in_ok-stepped.stepped standing.running of c.in_ok-stepped.ensures.steps

pub returns-clause-hub : goal.returns-clause-hub
returns-clause-hub g c =
    let a = c.self.inside in
    (kept_step {S = g.row.S.Denot} (g.H.Hub.seen c.args.hub.now) (g.H.Hub.seen c.step.new.hub) (ended_in a.mode) a.client.session.stands.flush a.client.machine.code.now a.client.session.stands c.step.new.self.session.stands c.in_ok-stepped.stepped c.in_ok-stepped.ensures.steps).keeps
