use Rattle.cloud_base.proofs.DeadLemmas.{dead_after_cell, dead_after_delete, delete_kills, dead_after_create, create_kills, dead_led}
use Rattle.cloud_base.proofs.laws.dead_after.Goals as goal

pub returns : goal.returns
returns c = record {
  cell = dead_after_cell;
  deletion = λ log d id. (dead_after_delete log d id, delete_kills log d id);
  creation = λ log u e ks id new. (dead_after_create log u e ks id new, create_kills log u e ks id new);
  led = dead_led;
}
