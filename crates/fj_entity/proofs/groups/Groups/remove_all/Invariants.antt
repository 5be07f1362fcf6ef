use Rattle.std.proofs.Common.{take}
use Rattle.fj_entity.specs.Groups.{KeepsOthers}
use Rattle.fj_entity.proofs.GroupLemmas.{OutOfAll}
use Rattle.fj_entity.proofs.groups.Groups.remove_all.Given as goal

abbrev pub invariant-loop-key : goal.invariant-loop-key
invariant-loop-key l = record {
  keeps : KeepsOthers l.id l.fn.self l.self;
  leaves : OutOfAll l.self l.id l.entity (take l.key-index l.keys);
}
