use Rattle.change_lists.proofs.Told.{effect_total, value_total}
use Rattle.change_lists.proofs.laws.total_list_orders.Goals as goal

pub returns-clause-effects : goal.returns-clause-effects
returns-clause-effects c = effect_total c.cell_orders.ensures.total c.cell_orders.ensures.apart

pub returns-clause-values : goal.returns-clause-values
returns-clause-values c = value_total c.cell_orders.ensures.total c.cell_orders.ensures.apart
