-- The laws, from their lemmas.
use Rattle.std.proofs.Common.{refl}
use Rattle.played_record.specs.Plays.{stepped}
use Rattle.played_record.proofs.Only.{client-else, served_only}
use Rattle.played_record.proofs.laws.steps_and_serves.Goals as goal

pub returns-clause-step : goal.returns-clause-step
returns-clause-step c = λ answers trace k w. record {
  batches = refl;
  others = λ j other. client-else k j (stepped answers trace (w.client k).end (w.client k).flush k w) w other;
}

pub returns-clause-serve : goal.returns-clause-serve
returns-clause-serve c = served_only
