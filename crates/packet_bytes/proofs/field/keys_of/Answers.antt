use Rattle.std.proofs.Common.{◌∙◌, ap, subst, arith, length, length-append, sym, [], ◌∷◌}
use Rattle.std.proofs.lemmas.Result.{err_from_is_err_and}
use Rattle.packet_bytes.specs.Left.{left_of}
use Rattle.packet_bytes.specs.Reading.{keys_at}
use Rattle.packet_bytes.proofs.Loops.{with_front, keys_go_on, keys_fail, keys_done}
use Rattle.packet_bytes.proofs.field.keys_of.Goals as goal

pub returns-in_err-key : goal.returns-in_err-key
returns-in_err-key c =
    let p = err_from_is_err_and c.from_residual.result c.from_residual.ensures.1 in
    rw (p.1, p.2) (keys_fail c.loop-kind.keys c.args.types.now c.loop-kind.kind-index _ (left_of c.loop-kind.rest) c.in_err-key.field-0.0 (keys_at c.args.types.now (left_of c.args.cursor)) c.loop-kind-test.true c.in_err-key.ensures c.loop-kind.invariant.read)

pub loop-kind-preserved : goal.loop-kind-preserved
loop-kind-preserved c = rw c.push.ensures (record {
  read = keys_go_on c.loop-kind.keys c.args.types.now c.loop-kind.kind-index _ (left_of c.loop-kind.rest) (left_of c.in_ok-key.after) c.in_ok-key.key (keys_at c.args.types.now (left_of c.args.cursor)) c.loop-kind-test.true c.in_ok-key.ensures c.loop-kind.invariant.read;
  count = omega (arith, c.loop-kind.invariant.count, length-append c.loop-kind.keys (c.in_ok-key.key ∷ []));
})

pub returns : goal.returns
returns c =
    keys_done c.loop-kind.keys c.args.types.now c.loop-kind.kind-index (left_of c.loop-kind.rest) (keys_at c.args.types.now (left_of c.args.cursor)) c.loop-kind-test.false c.loop-kind.invariant.read
