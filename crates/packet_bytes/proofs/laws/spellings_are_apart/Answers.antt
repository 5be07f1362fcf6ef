use Rattle.packet_bytes.proofs.Packets.{one_packet}
use Rattle.packet_bytes.proofs.laws.spellings_are_apart.Goals as goal

pub returns : goal.returns
returns c = let orders = c.total_list_orders.ensures in one_packet orders.effects orders.values orders.created
