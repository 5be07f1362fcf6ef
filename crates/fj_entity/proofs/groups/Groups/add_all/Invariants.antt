use Rattle.std.proofs.Common.{take}
use Rattle.fj_entity.specs.Groups.{Keeps}
use Rattle.fj_entity.proofs.GroupLemmas.{InAll}
use Rattle.fj_entity.proofs.groups.Groups.add_all.Given as goal

abbrev pub invariant-loop-key : goal.invariant-loop-key
invariant-loop-key l = record {
  keeps : Keeps l.fn.self l.self;
  adds : InAll l.self l.id l.entity (take l.key-index l.keys);
}
