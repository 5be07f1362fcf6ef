use Rattle.std.proofs.Common.{◌≡◌, ◌++◌, subst, ap, ◌∙◌, codes}
use Rattle.std.specs.Prelude.{OnOk}
use Rattle.source_print.specs.Statements.{block_text}
use Rattle.source_print.proofs.Forms.{if_written, if_else_written}
use Rattle.source_print.proofs.statement.+statement.Goals as goal

pub write_statement-returns-in-None : goal.write_statement-returns-in-None
write_statement-returns-in-None t c =
    let line =
    ap (λ body. c.write_test.new.out.items ++ (block_text c.args.margin.now body ++ codes "\n")) c.as_slice-in-None.ensures
    ∙ if_written _ _ _ _ _ _ _ _ c.in-If.is c.in-None.is c.in_ok-extend_from_slice.ensures.items c.in_ok-write_test-in-If.ensures in
    subst (λ x. OnOk c.write_block_line.result (c.write_block_line.new.out.items ≡ x)) line c.write_block_line.ensures

pub write_statement-returns-in_ok-write-in-Some : goal.write_statement-returns-in_ok-write-in-Some
write_statement-returns-in_ok-write-in-Some t c =
    let first = c.in_ok-write_block-in-Some.ensures ∙ ap (λ body. c.write_test.new.out.items ++ block_text c.args.margin.now body) c.as_slice-in-Some.ensures in
    let line =
    ap (λ body. c.write-in-Some.new.out.items ++ (block_text c.args.margin.now body ++ codes "\n")) c.as_slice-in-Some-2.ensures
    ∙ if_else_written _ _ _ _ _ _ _ _ _ _ _ c.in-If.is c.in-Some.is c.in_ok-extend_from_slice.ensures.items c.in_ok-write_test-in-If.ensures first c.in_ok-write-in-Some.ensures in
    subst (λ x. OnOk c.write_block_line-in-Some.result (c.write_block_line-in-Some.new.out.items ≡ x)) line c.write_block_line-in-Some.ensures
