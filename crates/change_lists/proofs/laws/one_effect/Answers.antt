use Rattle.change_lists.proofs.Told.{one_change, effect_lists}
use Rattle.change_lists.proofs.laws.one_effect.Goals as goal

pub returns-clause-one : goal.returns-clause-one
returns-clause-one c = one_change c.cell_orders.ensures.total c.cell_orders.ensures.apart

pub returns-clause-ordered : goal.returns-clause-ordered
returns-clause-ordered c = effect_lists
