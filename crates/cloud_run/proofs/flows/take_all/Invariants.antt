use Rattle.std.proofs.Common.{◌≡◌, ◌≤◌, ◌-◌, length}
use Rattle.cloud_run.specs.Flows.{Parts}
use Rattle.cloud_run.proofs.flows.take_all.Given as goal

abbrev pub invariant-loop-piece : goal.invariant-loop-piece
invariant-loop-piece g l = record {
  parts : Parts (g.S.Source.left l.fn.source) (g.S.Source.left l.source) l.taken.items;
  faults : g.S.Source.faults l.source ≡ g.S.Source.faults l.fn.source;
  ends : g.S.Source.ends l.source ≡ g.S.Source.ends l.fn.source;
  bound : l.taken.len ≤ 262145;
  room : length l.piece ≡ 1024;
}

abbrev pub decreases-loop-piece : goal.decreases-loop-piece
decreases-loop-piece g l = 262145 - l.taken.len
