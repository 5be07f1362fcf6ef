use Rattle.std.proofs.Common.{[], rules}
use Rattle.source_tree.specs.Words.{client_words}
use Rattle.kind_rules.specs.Programs.{settle_clients}
use Rattle.kind_rules.specs.Words.{IsFitWord}
use Rattle.kind_check.specs.Faults.{TellsFault}
use Rattle.kind_check.proofs.Left.{left_next, left_fault, next_all, all_first, all_second}
use Rattle.kind_check.proofs.clients.check_clients.Goals as goal

pub check_client-requires : goal.check_client-requires
check_client-requires c = all_first IsFitWord (client_words c.index-clients-place.result) _ (next_all IsFitWord client_words c.args.clients.now c.loop-place.place c.index-clients-place.result c.loop-place-test.true c.index-clients-place.is c.loop-place.invariant.words)

pub returns-in_err-body : goal.returns-in_err-body
returns-in_err-body c =
    let tells : TellsFault (settle_clients c.args.declared.now [] c.args.clients.now c.args.lines.now).items c.in_err-body.field-0.0 =
    left_fault _ c.args.declared.now c.args.clients.now c.loop-place.place c.loop-place.bodies c.loop-place.rest.now c.index-clients-place.result c.in_err-body.field-0.0 c.loop-place-test.true c.index-clients-place.is c.loop-place.invariant.left c.in_err-body.ensures in
    search rules

pub loop-place-preserved : goal.loop-place-preserved
loop-place-preserved c =
    let next = left_next (settle_clients c.args.declared.now [] c.args.clients.now c.args.lines.now) c.args.declared.now c.args.clients.now c.loop-place.place c.loop-place.bodies c.loop-place.rest.now c.index-clients-place.result c.loop-place-test.true c.index-clients-place.is c.loop-place.invariant.left c.in_ok-body.ensures.0 in
    record {
      left = rw (c.in_ok-push.ensures.ok, c.in_ok-body.ensures.1, c.in_ok-body.ensures.2) next;
      words = all_second IsFitWord (client_words c.index-clients-place.result) _ (next_all IsFitWord client_words c.args.clients.now c.loop-place.place c.index-clients-place.result c.loop-place-test.true c.index-clients-place.is c.loop-place.invariant.words);
    }
