use Rattle.std.proofs.Common.{◌∙◌, ap}
use Rattle.source_tokens.specs.declared.token.Placed.{Placed}
use Rattle.syntax_judge.proofs.Verdicts.{judged_more, judged_fails, judged_all, judged_short}
use Rattle.syntax_judge.proofs.judging.judge.Goals as goal
use Rattle.syntax_judge.specs.Programs.{kind_of}
use Rattle.syntax_judge.specs.Tables.{are_nullable}

pub returns-then-not-branch : goal.returns-then-not-branch
returns-then-not-branch c =
    judged_fails c.args.tokens.now c.loop-i.i c.index-tokens-i.result c.kind_of.result c.loop-i.stack.items c.take_token.new.stack.items c.in_ok-take_token.field-0 c.loop-i-test.true c.loop-i.invariant
    (c.kind_of.ensures ∙ ap (λ (placed : Placed). kind_of placed.token) c.index-tokens-i.is) c.in_ok-take_token.ensures c.if-not-branch.true

pub loop-i-preserved : goal.loop-i-preserved
loop-i-preserved c =
    judged_more c.args.tokens.now c.loop-i.i c.index-tokens-i.result c.kind_of.result c.loop-i.stack.items c.take_token.new.stack.items c.in_ok-take_token.field-0 c.loop-i-test.true c.loop-i.invariant
    (c.kind_of.ensures ∙ ap (λ (placed : Placed). kind_of placed.token) c.index-tokens-i.is) c.in_ok-take_token.ensures c.if-not-branch.false

pub returns-then-may_end : goal.returns-then-may_end
returns-then-may_end c =
    judged_all c.args.tokens.now c.loop-i.i c.loop-i.stack.items c.may_end.result c.loop-i-test.false c.loop-i.invariant (c.may_end.ensures ∙ ap are_nullable c.deref.ensures.value) c.if-may_end.true

pub returns : goal.returns
returns c =
    judged_short c.args.tokens.now c.loop-i.i c.loop-i.stack.items c.may_end.result c.loop-i-test.false c.loop-i.invariant (c.may_end.ensures ∙ ap are_nullable c.deref.ensures.value) c.if-may_end.false
