use Rattle.std.proofs.Common.{◌-◌, sym, ◌∙◌, arith}
use Rattle.cloud_base.specs.Dead.{dead_within}
use Rattle.plain_answer.proofs.Links.{one_deeper, found, none_left}
use Rattle.plain_answer.proofs.ids.+dead_within.Goals as goal

pub returns-then-dead_within : goal.returns-then-dead_within
returns-then-dead_within t c =
    let log = c.args.log.now in
    let deeper = one_deeper log c.args.links c.args.id (omega arith) (sym c.if-is_deleted.ensures) in
    let here = found (dead_within (c.args.links - 1) log) c.as_slice-key-items.result.now c.loop-key.key-index c.key-item.result c.in-Ref.next c.loop-key-test.true c.key-item.is c.in-Ref.is (sym c.if-dead_within.ensures) in
    sym here ∙ c.loop-key.invariant ∙ sym deeper

pub returns : goal.returns
returns t c =
    let log = c.args.log.now in
    let deeper = one_deeper log c.args.links c.args.id (omega arith) (sym c.if-is_deleted.ensures) in
    let none = none_left (dead_within (c.args.links - 1) log) c.as_slice-key-items.result.now c.loop-key.key-index c.loop-key-test.false in
    sym none ∙ c.loop-key.invariant ∙ sym deeper
