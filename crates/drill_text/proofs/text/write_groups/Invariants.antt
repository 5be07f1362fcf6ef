use Rattle.std.proofs.Common.{◌≡◌, ◌+◌, ◌*◌, ◌++◌}
use Rattle.drill_text.specs.Drills.{number_at, groups_text}
use Rattle.drill_text.proofs.text.write_groups.Given as goal

abbrev pub invariant-loop-group : goal.invariant-loop-group
invariant-loop-group l = (l.out.items ≡ l.initial.out.items ++ groups_text l.n l.client l.group) × (l.number ≡ number_at l.n (l.client * l.n + l.group))
