use Rattle.std.proofs.Common.{◌≡◌, ◌-◌, drop}
use Rattle.std.specs.List.{list_any}
use Rattle.cloud_base.specs.Log.{ids_of, parents}
use Rattle.cloud_base.specs.Dead.{dead_within}
use Rattle.plain_answer.proofs.ids.+dead_within.Given as goal

abbrev pub decreases-dead_within : goal.decreases-dead_within
decreases-dead_within l = l.links

abbrev pub invariant-loop-key : goal.invariant-loop-key
invariant-loop-key l = list_any (dead_within (l.links - 1) l.log) (ids_of (drop l.key-index l.key-items)) ≡ list_any (dead_within (l.links - 1) l.log) (parents l.log l.fn.id)
