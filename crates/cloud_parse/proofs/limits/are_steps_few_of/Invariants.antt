use Rattle.source_tree.specs.Limits.{steps_in, most_steps}
use Rattle.cloud_parse.proofs.Counted.{RoomLeft}
use Rattle.cloud_parse.proofs.limits.are_steps_few_of.Given as goal

-- what there is room for behind those so far
abbrev pub invariant-loop-item : goal.invariant-loop-item
invariant-loop-item l = RoomLeft steps_in most_steps l.items l.item-index l.room
