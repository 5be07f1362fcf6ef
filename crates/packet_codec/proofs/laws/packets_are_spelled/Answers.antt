-- The laws, from their lemmas.
use Rattle.packet_codec.proofs.Spelled.{push_is_of, push_is_short, reply_is_of, reply_is_short}
use Rattle.packet_codec.proofs.laws.packets_are_spelled.Goals as goal

pub returns-clause-push : goal.returns-clause-push
returns-clause-push c = let orders = c.cell_orders.ensures in push_is_of orders.total orders.apart

pub returns-clause-changes : goal.returns-clause-changes
returns-clause-changes c = let orders = c.cell_orders.ensures in push_is_short orders.total orders.apart

pub returns-clause-reply : goal.returns-clause-reply
returns-clause-reply c = let orders = c.cell_orders.ensures in reply_is_of orders.total orders.apart

pub returns-clause-images : goal.returns-clause-images
returns-clause-images c = let orders = c.cell_orders.ensures in reply_is_short orders.total orders.apart
