use Rattle.std.proofs.Common.{◌≡◌, sym, ap, ◌∙◌, [], ◌∷◌, ◌++◌, length, OnOk, ℕ, ◌+◌, append-nil, subst, arith}
use Rattle.std.specs.Prelude.{true, false}
use Rattle.plain_vm.specs.declared.instruction.Instruction.TheVariants as i
use Rattle.plain_vm.specs.declared.instruction.Literal.TheVariants as literal
use Rattle.code_gen.specs.Compile.{expression_code}
use Rattle.code_gen.proofs.Emits.{two_holes, and_line, or_line}
use Rattle.code_gen.proofs.emitter.Emitter.+expression.Goals as goal

pub and_then-returns : goal.and_then-returns
and_then-returns t c =
    c.write-2.ensures ∙ two_holes c.args.self.now c.args.self.now c.leave.new.self c.expression.new.self c.leave-2.new.self c.write.new.self c.literal.new.self []
    (expression_code c.args.line c.args.right.now) (λ at. i.Push (literal.Truth false) ∷ []) i.End i.JumpIfFalse i.Jump _ _ _ _
    (sym (append-nil c.args.self.now)) c.in_ok-test.ensures.0 c.in_ok-test.ensures.1 c.in_ok-expression.ensures c.in_ok-behind.ensures.0 c.in_ok-behind.ensures.1 c.place.ensures c.write.ensures c.in_ok-literal.ensures c.place-2.ensures

pub or_else-returns : goal.or_else-returns
or_else-returns t c =
    let at : ℕ = length c.args.self.now in
    let code = expression_code c.args.line c.args.right.now (at + 3) in
    let end : at + (0 + (1 + (length code + 2))) ≡ at + (0 + (length code + 3)) = omega arith in
    c.write-2.ensures ∙ two_holes c.args.self.now c.args.self.now c.leave.new.self c.literal.new.self c.leave-2.new.self c.write.new.self c.expression.new.self []
    (λ at. i.Push (literal.Truth true) ∷ []) (expression_code c.args.line c.args.right.now) i.End i.JumpIfFalse i.Jump _ _ _ _
    (sym (append-nil c.args.self.now)) c.in_ok-test.ensures.0 c.in_ok-test.ensures.1 c.in_ok-literal.ensures c.in_ok-behind.ensures.0 c.in_ok-behind.ensures.1 c.place.ensures c.write.ensures c.in_ok-expression.ensures c.place-2.ensures
    ∙ ap (λ k. c.args.self.now ++ i.JumpIfFalse (at + 3) ∷ i.Push (literal.Truth true) ∷ i.Jump k ∷ code) end

pub expression-returns-in_ok-expression-in-And : goal.expression-returns-in_ok-expression-in-And
expression-returns-in_ok-expression-in-And t c =
    let line = and_line c.args.line c.args.source.now _ _ _ _ c.args.self.now c.expression-in-And.new.self c.in-And.is c.get-in-And.ensures c.get-in-And-2.ensures c.in_ok-expression-in-And.ensures in
    subst (λ x. OnOk c.and_then.result (c.and_then.new.self ≡ x)) line c.and_then.ensures

pub expression-returns-in_ok-expression-in-Or : goal.expression-returns-in_ok-expression-in-Or
expression-returns-in_ok-expression-in-Or t c =
    let line = or_line c.args.line c.args.source.now _ _ _ _ c.args.self.now c.expression-in-Or.new.self c.in-Or.is c.get-in-Or.ensures c.get-in-Or-2.ensures c.in_ok-expression-in-Or.ensures in
    subst (λ x. OnOk c.or_else.result (c.or_else.new.self ≡ x)) line c.or_else.ensures
