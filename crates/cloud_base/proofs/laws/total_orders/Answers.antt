use Rattle.cloud_base.proofs.OrderLemmas.{id_order_total, text_order_total, key_order_total, keys_order_total, same_id_decides, same_keys_decides}
use Rattle.cloud_base.proofs.laws.total_orders.Goals as goal

pub returns : goal.returns
returns c = record {
  ids = id_order_total;
  texts = text_order_total;
  each = key_order_total;
  lists = keys_order_total;
  ids_apart = same_id_decides;
  lists_apart = same_keys_decides;
}
