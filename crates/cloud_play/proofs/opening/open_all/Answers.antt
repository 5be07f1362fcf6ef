use Rattle.std.proofs.Common.{◌≡◌, ◌∙◌, sym, subst, length, arith}
use Rattle.std.specs.Prelude.{Some}
use Rattle.plain_vm.specs.Code.{CodeOf}
use Rattle.server_core.specs.Servers.{Serving}
use Rattle.cloud_play.specs.Openings.{IsOpenedAs}
use Rattle.cloud_play.proofs.Beginning.{IsOpenedFor, one_each}
use Rattle.cloud_play.proofs.Lists.{taken_out}
use Rattle.cloud_play.proofs.opening.open_all.Goals as goal

pub loop-client-preserved : goal.loop-client-preserved
loop-client-preserved c =
    let codes = c.args.codes.now in
    let front = c.args.server.now.joined in
    let k = c.loop-client.client in
    let mine = c.index-codes-client.result in
    let run = c.in_ok-open_runner.field-0 in
    let there = taken_out codes k mine c.loop-client-test.true c.index-codes-client.is in
    let opened = subst (λ (s : Serving). IsOpenedAs mine k s.joined run) c.loop-client.invariant.same c.in_ok-open_runner.ensures.opened in
    record {
      runners = one_each (IsOpenedFor codes front) k c.loop-client.runners.items c.push.new.self.items run c.loop-client.invariant.runners
          (λ code is. let both : Some mine ≡ Some code = sym there ∙ is in
          let same : mine ≡ code = cc both in
          subst (λ (x : CodeOf). IsOpenedAs x k front run) same opened)
          c.in_ok-push.ensures.items;
      same = c.open_runner.ensures.same ∙ c.loop-client.invariant.same;
    }

pub returns-clause-opened : goal.returns-clause-opened
returns-clause-opened c =
    let each = c.loop-client.invariant.runners in
    let at_end = c.loop-client.auto.client-end in
    let over = c.loop-client-test.false in
    let all : c.loop-client.client ≡ length c.args.codes.now = omega (arith, at_end, over) in
    record { count = each.count ∙ all; each = λ k code run at is. each.each k run is code at }
