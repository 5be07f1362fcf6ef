use Rattle.cloud_base.proofs.DeadLemmas.{dead_grows, keys_live, dead_stays}
use Rattle.cloud_base.proofs.laws.dead_grows.Goals as goal

pub returns : goal.returns
returns c = record {
  ids = λ log whole id once part. dead_grows log whole id part once;
  keys = λ log whole keys once part. keys_live log whole keys part once;
  more = dead_stays;
}
