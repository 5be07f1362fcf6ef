use Rattle.change_lists.proofs.Told.{one_of_log, image_lists}
use Rattle.change_lists.proofs.laws.one_image.Goals as goal

pub returns-clause-one : goal.returns-clause-one
returns-clause-one c = one_of_log c.cell_orders.ensures.total c.cell_orders.ensures.apart

pub returns-clause-ordered : goal.returns-clause-ordered
returns-clause-ordered c = image_lists
