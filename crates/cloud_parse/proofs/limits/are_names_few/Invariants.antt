use Rattle.std.proofs.Common.{◌≤◌}
use Rattle.source_tree.specs.Limits.{names_in, most_names}
use Rattle.cloud_parse.proofs.Counted.{RoomLeft}
use Rattle.cloud_parse.proofs.limits.are_names_few.Given as goal

-- what there is room for behind those so far
abbrev pub invariant-loop-declaration : goal.invariant-loop-declaration
invariant-loop-declaration l = record {
  left : RoomLeft names_in most_names l.declarations l.declaration-index l.room;
  few : l.room ≤ 256;
}
