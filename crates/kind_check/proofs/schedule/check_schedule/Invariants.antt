use Rattle.std.proofs.Common.{drop}
use Rattle.kind_rules.specs.Programs.{client_names}
use Rattle.kind_check.proofs.Left.{AreLeft}
use Rattle.kind_check.proofs.schedule.check_schedule.Given as goal

abbrev pub invariant-loop-item : goal.invariant-loop-item
invariant-loop-item l = AreLeft (client_names l.clients) l.items l.lines l.schedule (drop l.item-index l.items) l.rest
