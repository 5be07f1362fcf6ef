use Rattle.std.proofs.Common.{◌≡◌, replicate}
use Rattle.slot_hub.proofs.plain.no_rounds.Given as goal

abbrev pub invariant-loop : goal.invariant-loop
invariant-loop l = record { even : l.rounds.items ≡ replicate l.counter 0 }
