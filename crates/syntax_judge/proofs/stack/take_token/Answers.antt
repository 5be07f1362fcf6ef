use Rattle.std.proofs.Common.{true, false}
use Rattle.syntax_judge.proofs.Moves.{popped, popped_found, popped_over, popped_smaller, popped_stuck}
use Rattle.syntax_judge.proofs.stack.take_token.Goals as goal

pub returns-then-branch : goal.returns-then-branch
returns-then-branch c =
    let start = c.args.stack.now.items in let below = c.pop.new.self.items in let new = c.take.new.stack.items in
    popped_found c.args.kind c.in-Some.symbol start below new
    (popped c.args.kind c.in-Some.symbol start c.loop-symbol.stack.items below new c.in_ok-take.field-0 true c.loop-symbol.invariant c.in-Some.ensures.items c.in_ok-take.ensures c.if-branch.true)

pub returns-then-not-is_nullable : goal.returns-then-not-is_nullable
returns-then-not-is_nullable c =
    let start = c.args.stack.now.items in let below = c.pop.new.self.items in let new = c.take.new.stack.items in
    popped_stuck c.args.kind c.in-Some.symbol start below new
    (popped c.args.kind c.in-Some.symbol start c.loop-symbol.stack.items below new c.in_ok-take.field-0 false c.loop-symbol.invariant c.in-Some.ensures.items c.in_ok-take.ensures c.if-branch.false)
    c.if-not-is_nullable.ensures

pub loop-symbol-preserved : goal.loop-symbol-preserved
loop-symbol-preserved c =
    let start = c.args.stack.now.items in let below = c.pop.new.self.items in let new = c.take.new.stack.items in
    popped_over c.args.kind c.in-Some.symbol start below new
    (popped c.args.kind c.in-Some.symbol start c.loop-symbol.stack.items below new c.in_ok-take.field-0 false c.loop-symbol.invariant c.in-Some.ensures.items c.in_ok-take.ensures c.if-branch.false)
    c.if-not-is_nullable.ensures

pub loop-symbol-smaller : goal.loop-symbol-smaller
loop-symbol-smaller c =
    let start = c.args.stack.now.items in let below = c.pop.new.self.items in let new = c.take.new.stack.items in
    popped_smaller c.args.kind c.in-Some.symbol start c.loop-symbol.stack.items below new
    (popped c.args.kind c.in-Some.symbol start c.loop-symbol.stack.items below new c.in_ok-take.field-0 false c.loop-symbol.invariant c.in-Some.ensures.items c.in_ok-take.ensures c.if-branch.false)
    c.in-Some.ensures.items
