use Rattle.std.proofs.Common.{sym, ◌∙◌}
use Rattle.change_lists.proofs.Told.{created_total, value_total}
use Rattle.cloud_base.proofs.OrderLemmas.{id_order_total}
use Rattle.change_lists.proofs.image.Image.are_ordered.Goals as goal

pub returns-then-not-is_ascending-3 : goal.returns-then-not-is_ascending-3
returns-then-not-is_ascending-3 c = (
  λ h. cc,
  λ lists. sym c.if-not-is_ascending-3.true ∙ (c.is_ascending-3.ensures (value_total c.cell_orders.ensures.total c.cell_orders.ensures.apart)).1 lists.cells,
)

pub returns : goal.returns
returns c = (
  λ h. record {
    created = (c.is_ascending.ensures created_total).0 c.if-not-is_ascending.false;
    dead = (c.is_ascending-2.ensures id_order_total).0 c.if-not-is_ascending-2.false;
    cells = (c.is_ascending-3.ensures (value_total c.cell_orders.ensures.total c.cell_orders.ensures.apart)).0 c.if-not-is_ascending-3.false;
    values = c.are_filled.ensures.0 h;
  },
  λ lists. c.are_filled.ensures.1 lists.values,
)
