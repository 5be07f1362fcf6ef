use Rattle.std.proofs.Common.{sym, ◌∙◌}
use Rattle.change_lists.proofs.Told.{created_total, effect_total}
use Rattle.cloud_base.proofs.OrderLemmas.{id_order_total}
use Rattle.change_lists.proofs.change.Change.are_ordered.Goals as goal

pub returns-then-not-is_ascending-3 : goal.returns-then-not-is_ascending-3
returns-then-not-is_ascending-3 c = (
  λ h. cc,
  λ lists. sym c.if-not-is_ascending-3.true ∙ (c.is_ascending-3.ensures (effect_total c.cell_orders.ensures.total c.cell_orders.ensures.apart)).1 lists.cells,
)

pub returns : goal.returns
returns c = (
  λ h. record {
    created = (c.is_ascending.ensures created_total).0 c.if-not-is_ascending.false;
    dead = (c.is_ascending-2.ensures id_order_total).0 c.if-not-is_ascending-2.false;
    cells = (c.is_ascending-3.ensures (effect_total c.cell_orders.ensures.total c.cell_orders.ensures.apart)).0 c.if-not-is_ascending-3.false;
    effects = c.are_effective.ensures.0 h;
  },
  λ lists. c.are_effective.ensures.1 lists.effects,
)
