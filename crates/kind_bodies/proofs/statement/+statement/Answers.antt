use Rattle.std.proofs.Common.{rules}
use Rattle.source_tree.specs.declared.statement.Statement.{the_lemmas}
use Rattle.kind_bodies.specs.Settles.{settled_block}
use Rattle.kind_bodies.proofs.Blocks.{block_told, block_step, block_ends, starts}
use Rattle.kind_bodies.proofs.FitStatements.{define_at, create_at, assign_at, update_place_at, update_argument_at, print_at, while_at, all_at, entries_at, test_at, first_at, second_at, statement_fits, rest_fits}
use Rattle.kind_bodies.proofs.Tells.{no_memory, passes_on}
use Rattle.kind_bodies.proofs.statement.+statement.Goals as goal

pub block-statement-requires : goal.block-statement-requires
block-statement-requires t c = (search (rules, the_lemmas), statement_fits c.args.body.now c.loop-source.source-index c.source-item.result c.loop-source-test.true c.source-item.is c.loop-source.invariant.fit)

pub block-returns-in_err-statement : goal.block-returns-in_err-statement
block-returns-in_err-statement t c =
    passes_on _ _ c.from_residual.result c.in_err-statement.field-0.0 c.from_residual.ensures.1
    (block_told c.args.declared.now c.args.body.now c.loop-source.source-index c.source-item.result c.loop-source.variables c.loop-source.rest.now _ c.in_err-statement.field-0.0
    c.loop-source-test.true c.source-item.is c.loop-source.invariant.ahead.fault c.in_err-statement.ensures)

pub block-returns-in_err-push : goal.block-returns-in_err-push
block-returns-in_err-push t c = no_memory _ _ c.from_residual-in_err-push.result c.from_residual-in_err-push.ensures.1

pub block-loop-source-preserved : goal.block-loop-source-preserved
block-loop-source-preserved t c =
    let one = c.in_ok-statement.ensures in
    record {
      ahead = block_step c.args.declared.now c.args.body.now c.loop-source.source-index c.source-item.result c.loop-source.variables c.statement.new.variables c.loop-source.rest.now c.in_ok-statement.after.now c.loop-source.typed c.push.new.self c.in_ok-statement.statement _
          c.loop-source-test.true c.source-item.is one.0 one.1 one.2 one.3 c.in_ok-push.ensures.ok c.loop-source.invariant.ahead;
      fit = rest_fits c.args.body.now c.loop-source.source-index c.source-item.result c.loop-source-test.true c.loop-source.invariant.fit;
    }

pub block-loop-source-init : goal.block-loop-source-init
block-loop-source-init t c = record { ahead = starts (settled_block c.args.declared.now c.args.body.now c.args.variables.now c.args.lines.now) c.new-typed.result c.new-typed.ensures; fit = c.requires }

pub block-returns : goal.block-returns
block-returns t c = block_ends c.args.declared.now c.args.body.now c.loop-source.source-index c.loop-source.variables c.loop-source.rest.now c.loop-source.typed _ c.loop-source-test.false c.loop-source.invariant.ahead

pub for_all-returns-in_err-declare : goal.for_all-returns-in_err-declare
for_all-returns-in_err-declare t c = no_memory _ _ c.from_residual-in_err-declare.result c.from_residual-in_err-declare.ensures.1

pub for_entries-returns-in_err-declare_all : goal.for_entries-returns-in_err-declare_all
for_entries-returns-in_err-declare_all t c = no_memory _ _ c.from_residual-in_err-declare_all.result c.from_residual-in_err-declare_all.ensures.1

pub statement-define-requires : goal.statement-define-requires
statement-define-requires t c = define_at _ _ _ c.requires c.in-Define.is

pub statement-create-requires : goal.statement-create-requires
statement-create-requires t c = create_at _ _ _ _ _ c.requires c.in-Create.is c.as_slice.ensures

pub statement-assign-requires : goal.statement-assign-requires
statement-assign-requires t c = assign_at _ _ _ c.requires c.in-Assign.is

pub statement-update-requires-clause-place : goal.statement-update-requires-clause-place
statement-update-requires-clause-place t c = update_place_at _ _ _ _ c.requires c.in-Update.is

pub statement-update-requires-clause-argument : goal.statement-update-requires-clause-argument
statement-update-requires-clause-argument t c = update_argument_at _ _ _ _ c.requires c.in-Update.is

pub statement-condition-requires : goal.statement-condition-requires
statement-condition-requires t c = test_at _ _ _ _ c.requires c.in-If.is

pub statement-inner-requires : goal.statement-inner-requires
statement-inner-requires t c = (search (rules, the_lemmas), first_at _ _ _ _ _ c.requires c.in-If.is c.as_slice-in-If.ensures)

pub statement-inner-requires-in-Some : goal.statement-inner-requires-in-Some
statement-inner-requires-in-Some t c = (search (rules, the_lemmas), second_at _ _ _ _ _ _ c.requires c.in-If.is c.in-Some.is c.as_slice-second.ensures)

pub statement-while_loop-requires : goal.statement-while_loop-requires
statement-while_loop-requires t c = let both = while_at _ _ _ _ c.requires c.in-While.is c.as_slice-in-While.ensures in (search (rules, the_lemmas), (both.1, both.0))

pub statement-for_all-requires : goal.statement-for_all-requires
statement-for_all-requires t c = (search (rules, the_lemmas), all_at _ _ _ _ _ c.requires c.in-ForAll.is c.as_slice-in-ForAll.ensures)

pub statement-for_entries-requires : goal.statement-for_entries-requires
statement-for_entries-requires t c = (search (rules, the_lemmas), entries_at _ _ _ _ _ _ c.requires c.in-ForEntries.is c.as_slice-body.ensures)

pub statement-print-requires : goal.statement-print-requires
statement-print-requires t c = print_at _ _ c.requires c.in-Print.is

pub while_loop-inner-requires : goal.while_loop-inner-requires
while_loop-inner-requires t c = (search (rules, the_lemmas), c.requires.body)
