use Rattle.cloud_base.proofs.OrderLemmas.{id_order_total, id_same, keys_order_total, keys_same}
use Rattle.cloud_base.proofs.SortedLemmas.{lists_one}
use Rattle.std.specs.Prelude.{IsTrue}
use Rattle.cloud_base.proofs.laws.ascending_lists.Goals as goal

pub returns : goal.returns
returns c = record {
  ids = λ p xs ys l k. lists_one id_order_total id_same xs ys (λ id. IsTrue (p id)) l k;
  keys = λ p xs ys l k. lists_one keys_order_total keys_same xs ys (λ keys. IsTrue (p keys)) l k;
}
