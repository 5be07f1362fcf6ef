use Rattle.std.proofs.Common.{refl, sym, ◌∙◌, arith}
use Rattle.change_lists.proofs.Neighbours.{from_neighbours, one_more, not_above}
use Rattle.change_lists.proofs.ascending.is_ascending.Goals as goal

pub returns : goal.returns
returns g c = λ total.
    (λ _. from_neighbours g.T.Listed.order total c.args.items.now (λ k d lt. c.loop-i.invariant k d (omega arith)), λ _. refl)

pub returns-then-not-is_below : goal.returns-then-not-is_below
returns-then-not-is_below g c = λ total. (
  λ h. cc,
  λ sorted. not_above g.T.Listed.order c.args.items.now c.loop-i.i c.index-items-i.result c.index-items-i-in-loop-i.result (omega arith) c.loop-i-test.true c.index-items-i.is c.index-items-i-in-loop-i.is (sym c.is_below.ensures ∙ c.if-not-is_below.true) sorted,
)

pub loop-i-preserved : goal.loop-i-preserved
loop-i-preserved g c =
    one_more g.T.Listed.order c.args.items.now c.loop-i.i c.index-items-i.result c.index-items-i-in-loop-i.result (omega arith) c.loop-i-test.true c.index-items-i.is c.index-items-i-in-loop-i.is (sym c.is_below.ensures ∙ c.if-not-is_below.false) c.loop-i.invariant
