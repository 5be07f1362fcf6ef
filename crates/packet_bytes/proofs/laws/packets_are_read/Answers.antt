use Rattle.packet_bytes.proofs.Packets.{packet_again, packet_takes}
use Rattle.packet_bytes.proofs.laws.packets_are_read.Goals as goal

pub returns-clause-again : goal.returns-clause-again
returns-clause-again c = let orders = c.total_list_orders.ensures in packet_again orders.effects orders.values orders.created

pub returns-clause-only : goal.returns-clause-only
returns-clause-only c = let orders = c.total_list_orders.ensures in packet_takes orders.effects orders.values orders.created
