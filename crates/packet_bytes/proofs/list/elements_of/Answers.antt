use Rattle.std.proofs.Common.{◌≡◌, ◌∙◌, sym, ap, subst, Option, None, Ok, Err}
use Rattle.std.proofs.lemmas.Result.{err_from_is_err_and}
use Rattle.packet_bytes.specs.Left.{left_of}
use Rattle.packet_bytes.specs.Reading.{elements_at}
use Rattle.packet_bytes.proofs.Loops.{with_front, last_of, elements_go_on, elements_fail, elements_done}
use Rattle.packet_bytes.proofs.list.elements_of.Goals as goal

pub returns-in_err-item : goal.returns-in_err-item
returns-in_err-item g c =
    let one = g.E.Element.reader c.args.schema.now in
    let p = err_from_is_err_and c.from_residual.result c.from_residual.ensures.1 in
    let last = c.last.ensures.value ∙ ap last_of c.as_slice.ensures in
    let read = subst (λ o. one o (left_of c.loop.rest) ≡ Err c.in_err-item.field-0.0) last c.in_err-item.ensures in
    rw (p.1, p.2) (elements_fail one c.loop.items c.args.count c.loop.counter (left_of c.loop.rest) c.in_err-item.field-0.0 (elements_at one c.args.count None (left_of c.args.cursor)) c.loop-test.true read c.loop.invariant)

pub loop-preserved : goal.loop-preserved
loop-preserved g c =
    let one = g.E.Element.reader c.args.schema.now in
    let last = c.last.ensures.value ∙ ap last_of c.as_slice.ensures in
    let read = subst (λ o. one o (left_of c.loop.rest) ≡ Ok (c.in_ok-item.item, left_of c.in_ok-item.after)) last c.in_ok-item.ensures in
    rw c.in_ok-push.ensures.ok (elements_go_on one c.loop.items c.args.count c.loop.counter (left_of c.loop.rest) (left_of c.in_ok-item.after) c.in_ok-item.item (elements_at one c.args.count None (left_of c.args.cursor)) c.loop-test.true read c.loop.invariant)

pub returns : goal.returns
returns g c =
    let one = g.E.Element.reader c.args.schema.now in
    elements_done one c.loop.items c.args.count c.loop.counter (left_of c.loop.rest) (elements_at one c.args.count None (left_of c.args.cursor)) c.loop-test.false c.loop.invariant
