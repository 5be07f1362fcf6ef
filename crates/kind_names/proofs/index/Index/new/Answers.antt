use Rattle.std.proofs.Common.{subst, rules}
use Rattle.std.specs.Ordering.{is_lt}
use Rattle.std.specs.List.Sorted.{IsPermutation}
use Rattle.std.proofs.lemmas.Fn.{always_returns_same}
use Rattle.std.proofs.lemmas.List.Sorted.{ranks_by}
use Rattle.kind_names.specs.Indexes.{number_order}
use Rattle.kind_names.proofs.Orders.{number_order_total}
use Rattle.kind_names.proofs.index.Index.new.Goals as goal

pub returns : goal.returns
returns g c = record {
  all = subst (λ xs. IsPermutation xs c.sort_unstable_by.new.self.items) c.in_ok-numbers.ensures c.sort_unstable_by.ensures.permutation;
  ascend = c.sort_unstable_by.ensures.sorted (λ m n. is_lt (number_order g.T.Keyed.seen c.args.items.now m n)) (ranks_by (number_order_total g.T.Keyed.seen c.args.items.now) (λ m. m)) (always_returns_same _ _ _ (λ a r f k. search rules));
}
