use Rattle.std.proofs.Common.{rules, ◌≡◌, sym, ap, ◌∙◌, [], ◌∷◌, ◌++◌, length, OnOk, ◌+◌, append-nil, append_assoc, subst, arith}
use Rattle.std.proofs.lemmas.List.{length-append}
use Rattle.plain_vm.specs.declared.instruction.Instruction.TheVariants as i
use Rattle.typed_program.specs.declared.statement.Statement.{the_lemmas}
use Rattle.code_gen.specs.Compile.{block_code}
use Rattle.code_gen.proofs.Emits.{one_hole}
use Rattle.code_gen.proofs.Blocks.{reach_at, statement_emitted, loop_emitted, if_only_emitted, if_else_emitted, while_emitted}
use Rattle.code_gen.proofs.Reaches.{first_within, second_within, while_within, for_all_within, for_entries_within}
use Rattle.code_gen.proofs.emitter.Emitter.+statement.Goals as goal

pub block-statement-requires : goal.block-statement-requires
block-statement-requires t c =
    (search (rules, the_lemmas), (reach_at c.args.schema.now c.args.block.now c.loop-statement.statement-index c.statement-item.result c.loop-statement-test.true c.statement-item.is c.loop-statement.invariant.reach).0)

pub block-loop-statement-preserved : goal.block-loop-statement-preserved
block-loop-statement-preserved t c =
    record {
      code = statement_emitted c.args.schema.now c.args.block.now c.loop-statement.statement-index c.statement-item.result c.loop-statement.self c.statement.new.self _
          c.loop-statement-test.true c.statement-item.is c.in_ok-statement.ensures c.loop-statement.invariant.code;
      reach = (reach_at c.args.schema.now c.args.block.now c.loop-statement.statement-index c.statement-item.result c.loop-statement-test.true c.statement-item.is c.loop-statement.invariant.reach).1;
    }

pub each-returns : goal.each-returns
each-returns t c =
    c.write.ensures ∙ loop_emitted c.args.self.now c.leave.new.self c.stores.new.self c.block.new.self c.push.new.self c.args.first c.args.count _ _ (block_code c.args.schema.now c.args.block.now) i.End
    c.in_ok-turn.ensures.0 c.in_ok-turn.ensures.1 c.in_ok-stores.ensures c.in_ok-block.ensures c.in_ok-push.ensures c.place.ensures

pub only_branch-returns : goal.only_branch-returns
only_branch-returns t c =
    c.write.ensures ∙ one_hole c.args.self.now c.args.self.now c.leave.new.self c.block.new.self [] (block_code c.args.schema.now c.args.block.now) i.End i.JumpIfFalse _ _
    (sym (append-nil c.args.self.now)) c.in_ok-skip.ensures.0 c.in_ok-skip.ensures.1 c.in_ok-block.ensures c.place.ensures

pub first_branch-returns : goal.first_branch-returns
first_branch-returns t c =
    let code = c.write.ensures ∙ one_hole c.args.self.now c.args.self.now c.leave.new.self c.leave-2.new.self [] (λ at. block_code c.args.schema.now c.args.block.now at ++ i.End ∷ []) i.End i.JumpIfFalse _ _
    (sym (append-nil c.args.self.now)) c.in_ok-skip.ensures.0 c.in_ok-skip.ensures.1
    (c.in_ok-behind.ensures.1 ∙ ap (λ l. l ++ i.End ∷ []) c.in_ok-block.ensures ∙ append_assoc c.leave.new.self (block_code c.args.schema.now c.args.block.now (length c.leave.new.self)) (i.End ∷ [])) c.place.ensures in
    let part = block_code c.args.schema.now c.args.block.now (length c.leave.new.self) in
    let same : length c.leave.new.self ≡ length c.args.self.now + 1 = ap length c.in_ok-skip.ensures.1 ∙ length-append c.args.self.now (i.End ∷ []) in
    let before : length c.block.new.self ≡ length c.leave.new.self + length part = ap length c.in_ok-block.ensures ∙ length-append c.leave.new.self part in
    let there = block_code c.args.schema.now c.args.block.now (length c.args.self.now + 1) in
    let as_long : length there ≡ length part = ap (λ n. length (block_code c.args.schema.now c.args.block.now n)) (sym same) in
    let after = ap length code ∙ length-append c.args.self.now (i.JumpIfFalse (length c.args.self.now + (0 + (length (there ++ i.End ∷ []) + 1))) ∷ (there ++ i.End ∷ [])) in
    (code, omega (arith, c.in_ok-behind.ensures.0, same, before, as_long, after, length-append there (i.End ∷ [])))

pub while_block-returns : goal.while_block-returns
while_block-returns t c =
    c.write.ensures ∙ one_hole c.args.self.now c.args.self.now c.leave.new.self c.push.new.self [] (λ at. block_code c.args.schema.now c.args.block.now at ++ i.Jump c.args.start ∷ []) i.End i.JumpIfFalse _ _
    (sym (append-nil c.args.self.now)) c.in_ok-skip.ensures.0 c.in_ok-skip.ensures.1
    (c.in_ok-push.ensures ∙ ap (λ l. l ++ i.Jump c.args.start ∷ []) c.in_ok-block.ensures ∙ append_assoc c.leave.new.self (block_code c.args.schema.now c.args.block.now (length c.leave.new.self)) (i.Jump c.args.start ∷ [])) c.place.ensures

pub statement-only_branch-requires : goal.statement-only_branch-requires
statement-only_branch-requires t c = (search (rules, the_lemmas), first_within c.args.schema.now _ c.args.statement.now _ _ _ _ c.requires c.in-If.is c.as_slice-in_default.ensures)

pub statement-first_branch-requires : goal.statement-first_branch-requires
statement-first_branch-requires t c = (search (rules, the_lemmas), first_within c.args.schema.now _ c.args.statement.now _ _ _ _ c.requires c.in-If.is c.as_slice-in-If.ensures)

pub statement-block-requires : goal.statement-block-requires
statement-block-requires t c = (search (rules, the_lemmas), second_within c.args.schema.now _ c.args.statement.now _ _ _ _ _ c.requires c.in-If.is c.in-Some.is c.as_slice-in-If-2.ensures)

pub statement-while_block-requires : goal.statement-while_block-requires
statement-while_block-requires t c = (search (rules, the_lemmas), while_within c.args.schema.now _ c.args.statement.now _ _ _ c.requires c.in-While.is c.as_slice-in-While.ensures)

pub statement-for_all-requires : goal.statement-for_all-requires
statement-for_all-requires t c = (search (rules, the_lemmas), for_all_within c.args.schema.now _ _ _ c.args.statement.now _ _ c.requires c.in-ForAll.is c.as_slice-in-ForAll.ensures)

pub statement-for_entries-requires : goal.statement-for_entries-requires
statement-for_entries-requires t c = (search (rules, the_lemmas), for_entries_within c.args.schema.now _ _ _ c.args.statement.now _ _ c.requires c.in-ForEntries.is c.as_slice-in-ForEntries.ensures)

pub statement-returns-in_default : goal.statement-returns-in_default
statement-returns-in_default t c =
    let line = if_only_emitted c.args.schema.now _ c.args.statement.now _ _ _ _ c.args.self.now c.test.new.self c.in-If.is c.in_default.is c.as_slice-in_default.ensures c.in_ok-test-in-If.ensures in
    subst (λ x. OnOk c.only_branch.result (c.only_branch.new.self ≡ x)) line c.only_branch.ensures

pub statement-returns-in_ok-block-in-If : goal.statement-returns-in_ok-block-in-If
statement-returns-in_ok-block-in-If t c =
    c.write.ensures ∙ if_else_emitted c.args.schema.now _ c.args.statement.now _ _ _ _ _ _ _ _ c.args.self.now c.test.new.self c.first_branch.new.self c.block.new.self c.in-If.is c.in-Some.is c.as_slice-in-If.ensures c.as_slice-in-If-2.ensures
    c.in_ok-test-in-If.ensures c.in_ok-behind-in-If.ensures.0 c.in_ok-behind-in-If.ensures.1 c.in_ok-block-in-If.ensures c.place.ensures

pub statement-returns-in_ok-test-in-While : goal.statement-returns-in_ok-test-in-While
statement-returns-in_ok-test-in-While t c =
    let line = while_emitted c.args.schema.now _ c.args.statement.now _ _ _ _ c.args.self.now c.test-in-While.new.self c.in-While.is c.as_slice-in-While.ensures c.place-start.ensures c.in_ok-test-in-While.ensures in
    subst (λ x. OnOk c.while_block.result (c.while_block.new.self ≡ x)) line c.while_block.ensures
