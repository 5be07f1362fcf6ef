use Rattle.std.proofs.Common.{◌≡◌, None, replicate}
use Rattle.slot_hub.proofs.plain.empty_boxes.Given as goal

abbrev pub invariant-loop : goal.invariant-loop
invariant-loop g l = record { even : l.boxes.items ≡ replicate l.counter None }
