use Rattle.std.proofs.Common.{◌≡◌, ◌*◌, ◌++◌}
use Rattle.std.specs.List.{flat_map, range_with_len}
use Rattle.drill_text.specs.Drills.{number_at, client_text}
use Rattle.drill_text.proofs.text.drill.Given as goal

abbrev pub invariant-loop-client : goal.invariant-loop-client
invariant-loop-client l = (l.out.items ≡ l.initial.out.items ++ flat_map (client_text l.n) (range_with_len 0 l.client)) × (l.number ≡ number_at l.n (l.client * l.n))
