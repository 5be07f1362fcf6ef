use Rattle.std.proofs.Common.{refl, true, false}
use Rattle.syntax_judge.proofs.Moves.{table_none, table_part, token_took, tried, tried_found, tried_kept, tried_over, tried_stuck}
use Rattle.syntax_judge.proofs.stack.+take.Goals as goal
use Rattle.syntax_judge.specs.Tables.{table_at}

pub take-loop-way-init : goal.take-loop-way-init
take-loop-way-init t c = record {
  deep = c.if-depth-eq0.false;
  kept = refl;
  left = table_part c.args.depth c.args.symbol c.in-Open.part c.args.kind _ c.if-depth-eq0.false c.in-Open.is c.productions-way-items.ensures;
}

pub take-returns-then-depth-eq0 : goal.take-returns-then-depth-eq0
take-returns-then-depth-eq0 t c = table_none c.args.depth c.args.symbol c.in-Open.part c.args.kind c.args.stack.now.items c.if-depth-eq0.true c.in-Open.is

pub take-returns-in-Token : goal.take-returns-in-Token
take-returns-in-Token t c = token_took c.args.depth c.args.symbol c.in-Token.wanted c.args.kind c.args.stack.now.items c.is_same.result c.in-Token.is c.is_same.ensures

pub take_way-returns-then-branch : goal.take_way-returns-then-branch
take_way-returns-then-branch t c =
    tried_found (table_at c.args.depth) c.args.kind c.args.way.now c.loop-i.i _ c.args.stack.now.items c.take.new.stack.items
    (tried (table_at c.args.depth) c.args.kind c.args.way.now c.loop-i.i _ c.args.stack.now.items c.loop-i.stack.items c.push_all.new.stack.items c.take.new.stack.items c.in_ok-take.field-0 true
    c.loop-i-test.true c.loop-i.invariant.kept c.in_ok-push_all.ensures c.loop-i.invariant.left c.in_ok-take.ensures c.if-branch.true)

pub take_way-returns-then-not-is_nullable : goal.take_way-returns-then-not-is_nullable
take_way-returns-then-not-is_nullable t c =
    let it = tried (table_at c.args.depth) c.args.kind c.args.way.now c.loop-i.i _ c.args.stack.now.items c.loop-i.stack.items c.push_all.new.stack.items c.take.new.stack.items c.in_ok-take.field-0 false
    c.loop-i-test.true c.loop-i.invariant.kept c.in_ok-push_all.ensures c.loop-i.invariant.left c.in_ok-take.ensures c.if-branch.false in
    tried_stuck (table_at c.args.depth) c.args.kind c.args.way.now c.loop-i.i _ c.args.stack.now.items c.take.new.stack.items c.truncate.new.self.items it c.if-not-is_nullable.ensures
    (tried_kept (table_at c.args.depth) c.args.kind c.args.way.now c.loop-i.i _ c.args.stack.now.items c.take.new.stack.items c.truncate.new.self.items c.len-below.result it c.loop-i.invariant.below c.truncate.ensures.items)

pub take_way-loop-i-preserved : goal.take_way-loop-i-preserved
take_way-loop-i-preserved t c =
    let it = tried (table_at c.args.depth) c.args.kind c.args.way.now c.loop-i.i _ c.args.stack.now.items c.loop-i.stack.items c.push_all.new.stack.items c.take.new.stack.items c.in_ok-take.field-0 false
    c.loop-i-test.true c.loop-i.invariant.kept c.in_ok-push_all.ensures c.loop-i.invariant.left c.in_ok-take.ensures c.if-branch.false in
    record {
      below = c.loop-i.invariant.below;
      kept = tried_kept (table_at c.args.depth) c.args.kind c.args.way.now c.loop-i.i _ c.args.stack.now.items c.take.new.stack.items c.truncate.new.self.items c.len-below.result it c.loop-i.invariant.below c.truncate.ensures.items;
      left = tried_over (table_at c.args.depth) c.args.kind c.args.way.now c.loop-i.i _ c.args.stack.now.items c.take.new.stack.items it c.if-not-is_nullable.ensures;
    }
