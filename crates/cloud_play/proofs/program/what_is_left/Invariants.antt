use Rattle.std.proofs.Common.{◌≡◌}
use Rattle.std.specs.Prelude.{map, Some}
use Rattle.session_core.specs.Standings.{tail_of}
use Rattle.client_runner.specs.Steps.{Ran}
use Rattle.cloud_play.proofs.program.what_is_left.Given as goal

-- the tails and ends of the clients so far
abbrev pub invariant-loop-runner : goal.invariant-loop-runner
invariant-loop-runner l = record {
  tails : l.tails ≡ map (λ (r : Ran). tail_of r.stands) l.yielded;
  ends : map Some l.ends ≡ map (λ (r : Ran). r.ended) l.yielded;
}
