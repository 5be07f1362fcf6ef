use Rattle.packet_bytes.specs.Left.{left_of}
use Rattle.packet_bytes.proofs.Packets.{header_spells}
use Rattle.packet_bytes.proofs.packet.wire_of.Goals as goal

pub body_of-requires : goal.body_of-requires
body_of-requires c = (header_spells.takes (left_of c.args.cursor) c.in_ok-header.header (left_of c.in_ok-header.rest) c.requires c.in_ok-header.ensures).1.fits
