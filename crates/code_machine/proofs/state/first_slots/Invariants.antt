use Rattle.std.proofs.Common.{◌≡◌, ◌≤◌, ◌-◌, length, replicate, pos}
use Rattle.cloud_base.specs.declared.update.Answer.{Answer}
use Rattle.typed_program.specs.Kinds.{most_slots}
use Rattle.code_machine.proofs.state.first_slots.Given as goal

abbrev pub invariant-loop-slots : goal.invariant-loop-slots
invariant-loop-slots l = record { even : l.slots.items ≡ replicate (length l.slots.items) (Answer.Int (pos 0)); few : length l.slots.items ≤ most_slots }

abbrev pub decreases-loop-slots : goal.decreases-loop-slots
decreases-loop-slots l = most_slots - length l.slots.items
