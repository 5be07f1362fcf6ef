use Rattle.packet_bytes.specs.Left.{left_of}
use Rattle.packet_bytes.proofs.Packets.{read_image}
use Rattle.packet_bytes.proofs.packet.image_of.Goals as goal

pub new-requires : goal.new-requires
new-requires c =
    let orders = c.total_list_orders.ensures in
    read_image orders.effects orders.values orders.created c.args.schema.now (left_of c.args.cursor) (left_of c.in_ok-created.rest) (left_of c.in_ok-dead.rest) (left_of c.in_ok-cells.rest) c.in_ok-created.created c.in_ok-dead.dead c.in_ok-cells.cells c.requires c.in_ok-created.ensures c.in_ok-dead.ensures c.in_ok-cells.ensures
