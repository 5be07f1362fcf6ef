use Rattle.std.proofs.Common.{◌≡◌, None, replicate}
use Rattle.server_core.proofs.server.no_batches.Given as goal

abbrev pub invariant-loop : goal.invariant-loop
invariant-loop l = l.owns.items ≡ replicate l.counter None
