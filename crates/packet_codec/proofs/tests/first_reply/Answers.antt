use Rattle.packet_codec.proofs.Examples.{is_first_reply}
use Rattle.packet_codec.proofs.tests.first_reply.Goals as goal

pub new-requires : goal.new-requires
new-requires c = is_first_reply _ _ c.in_ok-no_image.field-0 _ _ c.in_ok-schema.ensures c.in_ok-no_image.ensures c.in_ok-wire.ensures c.in_ok-past.ensures c.in_ok-own.ensures
