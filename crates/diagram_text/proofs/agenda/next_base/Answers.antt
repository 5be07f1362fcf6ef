-- The first of the client's batches that are left, or what it did behind them.
use Rattle.std.proofs.Common.{◌≡◌, ◌∙◌, ◌+◌, [], ap, sym, take, drop, List, ℕ}
use Rattle.std.proofs.lemmas.List.{take_all}
use Rattle.batch_history.specs.Batches.{of_client}
use Rattle.cloud_base.specs.declared.batch.Batch.{Batch}
use Rattle.diagram_text.proofs.Upcoming.{cut_at, next_at, next_left}
use Rattle.diagram_text.proofs.agenda.next_base.Goals as goal

pub returns-then-batch-client : goal.returns-then-batch-client
returns-then-batch-client c batches front whole count =
    let left : List Batch = c.args.left.now in
    let i : ℕ = c.loop-batch.batch-index in
    sym (next_at batches front left (take i left) (drop (i + 1) left) c.batch-item.result c.args.tail.now c.args.client whole (cut_at left i c.batch-item.result c.loop-batch-test.true c.batch-item.is) c.loop-batch.invariant c.if-batch-client.true)

pub returns : goal.returns
returns c batches front whole count =
    let left : List Batch = c.args.left.now in
    let none : of_client c.args.client left ≡ [] = sym (ap (of_client c.args.client) (take_all c.loop-batch.batch-index left c.loop-batch-test.false)) ∙ c.loop-batch.invariant in
    c.base_left.ensures (of_client c.args.client front) (sym count) ∙ next_left batches front left c.args.tail.now c.args.client whole none
