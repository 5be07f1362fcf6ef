use Rattle.packet_codec.proofs.Examples.{is_first_push}
use Rattle.packet_codec.proofs.tests.first_push.Goals as goal

pub new-requires : goal.new-requires
new-requires c = is_first_push _ _ c.in_ok-no_change.field-0 _ _ _ c.in_ok-schema.ensures c.in_ok-no_change.ensures c.in_ok-wire.ensures c.in_ok-batch.ensures c.in_ok-past.ensures c.in_ok-own.ensures
