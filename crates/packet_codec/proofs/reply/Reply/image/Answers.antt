use Rattle.std.proofs.Common.{subst}
use Rattle.batch_joins.specs.Joins.{all_updates}
use Rattle.change_lists.specs.Images.{IsImage}
use Rattle.packet_codec.specs.Replies.{Replied}
use Rattle.packet_codec.proofs.Again.{no_fault, reply_read, image_read}
use Rattle.packet_codec.proofs.reply.Reply.image.Goals as goal

pub unreachable-requires-in-Err-Wire : goal.unreachable-requires-in-Err-Wire
unreachable-requires-in-Err-Wire c =
    no_fault c.read.result _ c.in-Err-Wire.field-0 c.in-Err-Wire.field-0-0 (reply_read c.deref.result.now c.as_slice.result.now c.read.result c.read.ensures.only c.packets_are_spelled.ensures.reply _ c.self.invariant c.deref.ensures c.as_slice.ensures) c.in-Err-Wire.is c.in-Err-Wire.field-0-is

pub returns-in-Ok-Reply : goal.returns-in-Ok-Reply
returns-in-Ok-Reply c =
    subst (λ (r : Replied). IsImage r.schema (all_updates r.past.list) c.in-Ok-Reply.image) c.self.view_is
    (image_read c.deref.result.now c.as_slice.result.now c.read.result c.read.ensures.only c.packets_are_spelled.ensures.reply _ c.self.invariant c.deref.ensures c.as_slice.ensures _ _ _ _ c.in-Ok-Reply.image c.in-Ok-Reply.is c.in-Ok-Reply.field-0-is)
