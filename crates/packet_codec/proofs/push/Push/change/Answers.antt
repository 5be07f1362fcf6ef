use Rattle.std.proofs.Common.{subst}
use Rattle.batch_history.specs.Batches.{updates_in, flat}
use Rattle.change_lists.specs.Effects.{IsEffect}
use Rattle.packet_codec.specs.Pushes.{Pushed}
use Rattle.packet_codec.proofs.Again.{no_fault, push_read, change_read}
use Rattle.packet_codec.proofs.push.Push.change.Goals as goal

pub unreachable-requires-in-Err-Wire : goal.unreachable-requires-in-Err-Wire
unreachable-requires-in-Err-Wire c =
    no_fault c.read.result _ c.in-Err-Wire.field-0 c.in-Err-Wire.field-0-0 (push_read c.deref.result.now c.as_slice.result.now c.read.result c.read.ensures.only c.packets_are_spelled.ensures.push _ c.self.invariant c.deref.ensures c.as_slice.ensures) c.in-Err-Wire.is c.in-Err-Wire.field-0-is

pub returns-in-Ok-Push : goal.returns-in-Ok-Push
returns-in-Ok-Push c =
    subst (λ (p : Pushed). IsEffect p.schema (flat p.past.list p.batch.base) (updates_in p.batch) c.in-Ok-Push.change) c.self.view_is
    (change_read c.deref.result.now c.as_slice.result.now c.read.result c.read.ensures.only c.packets_are_spelled.ensures.push _ c.self.invariant c.deref.ensures c.as_slice.ensures _ _ _ _ c.in-Ok-Push.change c.in-Ok-Push.is c.in-Ok-Push.field-0-is)
